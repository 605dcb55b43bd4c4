-- A sealed frame is its user data and a few hundred bytes around them.
use Rattle.std.proofs.Common.{ℕ, ◌+◌, ◌≤◌, ℤ, List, ◌++◌, length, Option, Some, None, refl, sym, subst, arith, length-append}
use Rattle.std.specs.Option.{ForSome}
use Rattle.krb_keys.proofs.HmacLemmas.{length-hmac96}
use Rattle.krb_der.specs.declared.address.HostAddress.{HostAddress}
use Rattle.krb_der.specs.declared.body.Body.{Body}
use Rattle.krb_der.specs.Body.{part}
use Rattle.krb_der.specs.Size.{optional_size, carried, SmallPart, SmallSafe, SmallPrivate}
use Rattle.krb_seal.proofs.Frames.{length-encrypted}
use Rattle.krb_seal.specs.declared.session.Mode.{Mode}
use Rattle.krb_seal.specs.declared.session.Mode.TheVariants.{Safe, Priv}
use Rattle.krb_seal.specs.declared.session.Session.{Session}
use Rattle.krb_etype.specs.Keys.{checksum_key}
use Rattle.krb_seal.specs.Session.{HasShortAddresses, IsShortAddress}
use Rattle.krb_seal.specs.Seals.{SealsBody, body_of, sealed_safe, sealed_priv, unsigned}
use Rattle.krb_der.specs.Message.{safe_input}
use Rattle.krb_structs.specs.Room.{FitsFrames, frame_room}

told_small : (r : Option HostAddress) → ForSome r IsShortAddress → optional_size r ≤ 40
told_small None h = omega arith
told_small (Some a) h = h a refl

carried_small : (s : Session) (q at : ℕ) (user : List ℕ) → HasShortAddresses s → carried (body_of s q user at) ≤ length user + 80
carried_small s q at user h = omega (arith, h.sender, told_small s.r_addr h.receiver)

-- by the mode, from what the message carries
body_fits : SmallPart → SmallSafe → SmallPrivate → (mode : Mode) (etype : ℤ) (key conf : List ℕ) (b : Body) (frame : List ℕ) (n : ℕ)
    → carried b ≤ n + 80 → SealsBody mode etype key conf b frame → length frame ≤ n + 416
body_fits parts safes privates Safe etype key conf b frame n small h =
    subst (λ (z : List ℕ). length z ≤ n + 416) (sym h.spelt.spelt)
    (omega (arith, safes (sealed_safe h.etype key b), length-hmac96 (checksum_key key) (safe_input (unsigned h.etype b))))
body_fits parts safes privates Priv etype key conf b frame n small h =
    subst (λ (z : List ℕ). length z ≤ n + 416) (sym h.spelt.spelt)
    (omega (arith, privates (sealed_priv h.etype key conf b), parts b, h.confounder, length-append conf (part b), length-encrypted key (conf ++ part b) (omega (arith, h.confounder, length-append conf (part b)))))

pub fits_frames : SmallPart → SmallSafe → SmallPrivate → (n : ℕ) → FitsFrames n (frame_room n)
fits_frames parts safes privates n s user at conf frame short size h =
    let bound = body_fits parts safes privates s.session.mode s.etype s.key conf (body_of s.session s.next user at) frame n (omega (arith, size, carried_small s.session s.next at user short)) h in
    omega (arith, bound, h.spelt.short)
