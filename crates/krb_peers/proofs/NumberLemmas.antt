-- No frame opens at a number over the last, and none over the limit opens at all.
use Rattle.std.proofs.Common.{◌≡◌, ℕ, ◌≤◌, true, List, Option, Some, None, Ok, IfSome, inl, inr, arith, drop}
use Rattle.std.proofs.lemmas.Bool.{eqb-true}
use Rattle.krb_base.specs.Limits.{last_number}
use Rattle.krb_der.specs.declared.message.Message.{Message}
use Rattle.krb_der.specs.declared.message.Message.TheVariants as messages
use Rattle.krb_tlv.specs.Integer.{IsUInt32}
use Rattle.krb_der.specs.Message.{IsMessage, Spells, SpellsPart}
use Rattle.krb_seal.specs.Opens.{OpenerState, Opens, OpensMessage, OpensText, Decrypt, Read, safe_checks, priv_header, body_checks, is_number}
use Rattle.krb_seal.specs.OpensParts.{OpensPart, frame_checks, text_checks}
use Rattle.krb_seal.proofs.SealedFrames.{met_all}

number_small : (number : ℕ) (seq : Option ℕ) → IfSome seq IsUInt32 → is_number number seq ≡ true → number ≤ last_number
number_small number None small is = absurd (let e = is in cc)
number_small number (Some n) small is = omega (arith, eqb-true n number is, small)

part_small : (o : OpenerState) (number now : ℕ) (given bytes : List ℕ) → Read SpellsPart bytes (OpensPart o.expect number now) (Ok given) → number ≤ last_number
part_small o number now given bytes (inl r) = absurd (let e = r.1 in cc)
part_small o number now given bytes (inr r) =
    let a = met_all (body_checks o.expect number now r.0) (λ y. y ≡ Ok r.0.user_data) given r.2 in
    number_small number r.0.seq r.1.in_range.seq a.0.1.1.0

message_small : (o : OpenerState) (number now : ℕ) (given : List ℕ) (m : Message) → IsMessage m → OpensMessage o number now m (Ok given) → number ≤ last_number
message_small o number now given (messages.Safe m) is h =
    let a = met_all (safe_checks o number now m) (λ y. y ≡ Ok m.body.user_data) given h in
    number_small number m.body.seq is.body.seq a.0.1.1.1.1.1.0
message_small o number now given (messages.Priv m) is h =
    let a = met_all (priv_header o.etype o.expect m) (Decrypt o.key m.cipher (OpensText o number now)) given h in
    let d = a.1 in
    let c = met_all (text_checks o.key d.0 d.1) (Read SpellsPart (drop 16 d.0) (OpensPart o.expect number now)) given d.3 in
    part_small o number now given (drop 16 d.0) c.1

pub opens_in_range : (o : OpenerState) (number now : ℕ) (bytes given : List ℕ) → Opens o number now bytes (Ok given) → number ≤ last_number
opens_in_range o number now bytes given h =
    let a = met_all (frame_checks bytes) (Read Spells bytes (OpensMessage o number now)) given h in
    elim a.1 [
      | inl r ↦ absurd (let e = r.1 in cc)
      | inr r ↦ message_small o number now given r.0 r.1.in_range r.2
    ]
