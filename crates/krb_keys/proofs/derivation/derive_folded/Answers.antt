use Rattle.std.proofs.Common.{◌≡◌, ℕ, List, ◌++◌, length, take, inl, inr, ap, ap₂, ◌∙◌, sym, arith, length-append, refl}
use Rattle.std.proofs.Math.Seq.{take-append_seam}
use Rattle.std.proofs.lemmas.List.{take_all}
use Rattle.krb_aes.specs.Cipher.{cipher}
use Rattle.krb_aes.specs.Keys.{aes, expanded_key}
use Rattle.krb_keys.specs.Derivation.{dr}
use Rattle.krb_keys.proofs.derivation.derive_folded.Goals as goal

-- the derived bytes, cut from the two blocks
cut : (key words block first second : List ℕ) → words ≡ expanded_key key
    → first ≡ cipher words block → second ≡ cipher words first
    → take (length key) (first ++ second) ≡ dr key block
unfolding dr aes
cut key words block first second w f s =
    let one : first ≡ cipher (expanded_key key) block = f ∙ ap (λ (x : List ℕ). cipher x block) w in
    let two : second ≡ cipher (expanded_key key) (cipher (expanded_key key) block) = s ∙ ap₂ cipher w one in
    ap₂ (λ (x y : List ℕ). take (length key) (x ++ y)) one two

-- a longer key is both blocks, a shorter one is the first
long : (key first second : List ℕ) → length key ≡ 32 → length first ≡ 16 → length second ≡ 16
    → first ++ second ≡ take (length key) (first ++ second)
long key first second k f s = sym (take_all (length key) (first ++ second) (omega (arith, length-append first second)))

short : (key first second : List ℕ) → length key ≡ 16 → length first ≡ 16 → first ≡ take (length key) (first ++ second)
short key first second k f =
    sym (take-append_seam first second) ∙ ap (λ (x : ℕ). take x (first ++ second)) (f ∙ sym k)

pub returns-then-bytes-eq32-clause-value : goal.returns-then-bytes-eq32-clause-value
returns-then-bytes-eq32-clause-value c =
    let key : List ℕ = c.args.key.now in
    let first : List ℕ = c.encrypt_block-first.result in
    let second : List ℕ = c.encrypt_block-second.result in
    let size : length key ≡ 32 = sym (ap length c.bytes.ensures.value) ∙ c.if-bytes-eq32.true in
    c.from_256.ensures
    ∙ c.joined.ensures
    ∙ long key first second size (omega arith) (omega arith)
    ∙ cut key c.args.schedule.now c.args.folded.now first second c.requires c.encrypt_block-first.ensures c.encrypt_block-second.ensures

pub returns-else-bytes-eq32-clause-value : goal.returns-else-bytes-eq32-clause-value
returns-else-bytes-eq32-clause-value c =
    let key : List ℕ = c.args.key.now in
    let first : List ℕ = c.encrypt_block-first.result in
    let second : List ℕ = cipher c.args.schedule.now first in
    let sixteen : length c.bytes.result.now ≡ 16 =
    elim c.bytes.ensures.size [ inl e ↦ e | inr e ↦ absurd (c.if-bytes-eq32.false e) ] in
    let size : length key ≡ 16 = sym (ap length c.bytes.ensures.value) ∙ sixteen in
    c.from_128.ensures
    ∙ short key first second size (omega arith)
    ∙ cut key c.args.schedule.now c.args.folded.now first second c.requires c.encrypt_block-first.ensures refl
