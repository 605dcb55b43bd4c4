-- A cipher is that of one text, with one code after it.
use Rattle.std.proofs.Common.{◌≡◌, ℕ, ◌+◌, List, ◌++◌, length, sym, ap, ◌∙◌, arith, length-append}
use Rattle.krb_aes.specs.Keys.{expanded_key}
use Rattle.krb_aes.specs.Stealing.{cts}
use Rattle.krb_aes.proofs.StealingLemmas.{length-cts}
use Rattle.krb_aes.proofs.UniqueLemmas.{cts_same, front_same, back_same}
use Rattle.krb_etype.specs.Keys.{encryption_key, IsEncryption}

pub one_text : (key cipher a s b t : List ℕ) → IsEncryption key cipher a s → IsEncryption key cipher b t → (a ≡ b) × (s ≡ t)
one_text key cipher a s b t p q =
    let w : List ℕ = expanded_key (encryption_key key) in
    let e : cts w a ++ s ≡ cts w b ++ t = sym p.image ∙ q.image in
    let la : length (cts w a) ≡ length a = length-cts w a p.long in
    let lb : length (cts w b) ≡ length b = length-cts w b q.long in
    let total : length (cts w a) + length s ≡ length (cts w b) + length t = sym (length-append (cts w a) s) ∙ ap length e ∙ length-append (cts w b) t in
    let size : length b ≡ length a = omega (arith, p.size, q.size) in
    let lb2 : length (cts w b) ≡ length a = lb ∙ size in
    (cts_same w a b p.bytes q.bytes p.long size (front_same (cts w a) (cts w b) s t (length a) la lb2 e), back_same (cts w a) (cts w b) s t (length a) la lb2 e)
