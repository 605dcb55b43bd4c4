-- The size of a frame, from the length of what it carries.
use Rattle.std.proofs.Common.{◌≡◌, ℕ, ◌+◌, ◌^◌, ◌<◌, ◌≤◌, List, [], ◌++◌, length, replicate, sym, ap, subst, ◌∙◌, arith, length-append}
use Rattle.std.proofs.lemmas.List.{length-replicate}
use Rattle.krb_base.specs.Limits.{frame_limit, user_data_limit}
use Rattle.krb_keys.proofs.HmacLemmas.{length-hmac96}
use Rattle.krb_der.specs.declared.body.Body.{Body}
use Rattle.krb_der.specs.declared.safe.SafeMsg.{SafeMsg}
use Rattle.krb_der.specs.Body.{part}
use Rattle.krb_der.specs.Message.{safe_input}
use Rattle.krb_der.specs.Size.{with_data, HasPartSize, HasSafeSize, HasPrivateSize}
use Rattle.krb_der.proofs.Sizes.{small_part}
use Rattle.krb_seal.specs.declared.session.Mode.TheVariants.{Safe, Priv}
use Rattle.krb_etype.specs.declared.etype.Etype.{Etype}
use Rattle.krb_etype.specs.Etype.{number_of}
use Rattle.krb_etype.specs.Keys.{checksum_key, encrypted}
use Rattle.krb_seal.specs.Seals.{SealsBody, body_of, safe_checksum, unsigned, unenciphered}
use Rattle.krb_seal.specs.Body.{HasSmallAddresses, HasSizeOf}
use Rattle.krb_seal.specs.Sealer.{SealerState, HasFrameSize}
use Rattle.krb_etype.proofs.Etypes.{one_number}
use Rattle.krb_seal.proofs.Frames.{length-encrypted, optional-small}

-- a part, with a confounder and a code around it, is no longer than a message may be
pub part_within : (b : Body) (n size : ℕ) → HasSmallAddresses b → n ≤ user_data_limit → HasPartSize b n size → 16 + size + 12 ≤ frame_limit
part_within b n size small le is =
    let any : List ℕ = replicate n 0 in
    omega (
      arith,
      is any (length-replicate {A = ℕ} n 0),
      length-replicate {A = ℕ} n 0,
      small_part (with_data any b),
      small.sender,
      optional-small b.r_addr small.receiver,
    )

pub priv_size_of : (etype : Etype) (b : Body) (n inner size : ℕ) → HasPartSize b n inner → HasPrivateSize (unenciphered etype) (16 + inner + 12) size
    → HasSizeOf Priv (number_of etype) b n size
priv_size_of etype b n inner size parts sizes key user conf frame same h =
    let text : List ℕ = conf ++ part (with_data user b) in
    let long : length text ≡ 16 + inner = omega (arith, length-append conf (part (with_data user b)), h.confounder, parts user same) in
    let cipher : length (encrypted key text) ≡ 16 + inner + 12 = omega (arith, long, length-encrypted key text (omega (arith, long))) in
    let own : HasPrivateSize (unenciphered h.etype) (16 + inner + 12) size =
    subst (λ (z : Etype). HasPrivateSize (unenciphered z) (16 + inner + 12) size) (sym (one_number h.etype etype h.known)) sizes in
    ap length h.spelt.spelt ∙ own (encrypted key text) cipher

pub safe_size_of : (etype : Etype) (m : SafeMsg) (n size : ℕ) → m ≡ unsigned etype m.body → HasSafeSize m 12 n size → HasSizeOf Safe (number_of etype) m.body n size
safe_size_of etype m n size is sizes key user conf frame same h =
    let told : HasSafeSize (unsigned etype m.body) 12 n size = subst (λ (x : SafeMsg). HasSafeSize x 12 n size) is sizes in
    let own : HasSafeSize (unsigned h.etype m.body) 12 n size =
    subst (λ (z : Etype). HasSafeSize (unsigned z m.body) 12 n size) (sym (one_number h.etype etype h.known)) told in
    let sum : List ℕ = safe_checksum key (unsigned h.etype (with_data user m.body)) in
    ap length h.spelt.spelt ∙ own user sum same (length-hmac96 (checksum_key key) (safe_input (unsigned h.etype (with_data user m.body))))

-- a frame has the next number, which is below the end of all
pub next_size : (s : SealerState) (number at n size : ℕ) (b : Body) → (s.next < 2 ^ 32 → number ≡ s.next) → b ≡ body_of s.session number [] at
    → HasSizeOf s.session.mode s.etype b n size → HasFrameSize s n at size
next_size s number at n size b is made sizes user conf frame same h =
    let below : s.next < 2 ^ 32 = h.body.seq in
    let told : HasSizeOf s.session.mode s.etype (body_of s.session number [] at) n size =
    subst (λ (x : Body). HasSizeOf s.session.mode s.etype x n size) made sizes in
    told s.key user conf frame same
    (subst (λ (q : ℕ). SealsBody s.session.mode s.etype s.key conf (body_of s.session q user at) frame) (sym (is below)) h)
