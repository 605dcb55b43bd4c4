-- The names of answers, and what they say.
use Rattle.std.specs.Prelude.{◌≡◌, ◌⊎◌, ℕ, ◌+◌, List, [], ◌∷◌, ◌++◌, length, take, codes}
use Rattle.krb_seal.specs.declared.refusal.Refusal.{Refusal}
use Rattle.krb_seal.specs.declared.refusal.Refusal.TheVariants as refusals
use Rattle.krb_seal.specs.Refusal as refusal
use Rattle.krb_structs.specs.declared.fault.Fault.{Fault}
use Rattle.krb_structs.specs.declared.fault.Fault.TheVariants.{Wiped, TooLong, Exhausted, Refused, Etype}
use Rattle.krb_structs.specs.declared.fault.Fault.TheVariants.{Room, Empty, KeySize, Mode, Moment}
use Rattle.krb_structs.specs.declared.fault.Fault.TheVariants.{Address, Argument, Record, Repeated, TooOld}
use Rattle.krb_structs.specs.Fault.{fault_code}

abbrev pub name_of : Fault → List ℕ
name_of (Refused r) = refusal.name_of r
name_of Wiped = codes "WIPED"
name_of TooLong = codes "TOO_LONG"
name_of Exhausted = codes "EXHAUSTED"
name_of Etype = codes "ETYPE"
name_of Room = codes "ROOM"
name_of Empty = codes "EMPTY"
name_of KeySize = codes "KEY_SIZE"
name_of Mode = codes "MODE"
name_of Moment = codes "MOMENT"
name_of Address = codes "ADDRESS"
name_of Argument = codes "ARGUMENT"
name_of Record = codes "RECORD"
name_of Repeated = codes "REPEATED"
name_of TooOld = codes "TOO_OLD"

abbrev pub refusal_text : Refusal → List ℕ
refusal_text refusals.FieldTooLong = codes "the message is longer than a message may be"
refusal_text refusals.Malformed = codes "not a DER-encoded KRB-SAFE or KRB-PRIV message"
refusal_text refusals.BadVersion = codes "the protocol version isn't 5"
refusal_text refusals.MsgType = codes "the message isn't of the expected kind, KRB-SAFE or KRB-PRIV"
refusal_text refusals.EtypeNoSupp = codes "the encryption type isn't the expected one"
refusal_text refusals.BadIntegrity = codes "the encrypted part is too short, or its integrity check fails"
refusal_text refusals.InappCksum = codes "the checksum's type isn't the expected one"
refusal_text refusals.BadAddr = codes "an address isn't the expected one, or is missing"
refusal_text refusals.Skew = codes "the time is off by more than the skew, or is missing"
refusal_text refusals.BadOrder = codes "the sequence number isn't the expected one"
refusal_text refusals.Modified = codes "the checksum differs"
refusal_text refusals.BadRecord = codes "the user data aren't a record"
refusal_text refusals.AfterClose = codes "a close was accepted before"
refusal_text refusals.Memory = codes "out of memory"

abbrev pub text_of : Fault → List ℕ
text_of (Refused r) = refusal_text r
text_of Wiped = codes "the keys were overwritten"
text_of TooLong = codes "the user data are longer than a message may carry"
text_of Exhausted = codes "no sequence number is left"
text_of Etype = codes "the encryption type is neither 17 nor 18"
text_of Room = codes "a buffer is too small"
text_of Empty = codes "the handle holds nothing"
text_of KeySize = codes "the key hasn't the size of its encryption type"
text_of Mode = codes "the mode is neither KRB-SAFE nor KRB-PRIV"
text_of Moment = codes "the time is outside the years 1970 to 9999"
text_of Address = codes "an address has over 40 bytes"
text_of Argument = codes "an argument is out of its range"
text_of Record = codes "the texts don't fit in a record"
text_of Repeated = codes "the number was taken before"
text_of TooOld = codes "the number is too far below the highest that was taken"

-- the answer 0 has this text, and that of a fault its own
abbrev pub IsTextOf : (Fault → List ℕ) → List ℕ → ℕ → List ℕ → Type 0
IsTextOf text ok code bytes =
    ((code ≡ 0) × (bytes ≡ ok)) ⊎ ((f : Fault) × (code ≡ fault_code f) × (bytes ≡ text f))

-- the buffer begins with the text of an answer, of this size, and a zero
abbrev pub IsWritten : (Fault → List ℕ) → List ℕ → ℕ → ℕ → List ℕ → Type 0
IsWritten text ok code size buffer =
    (bytes : List ℕ) × IsTextOf text ok code bytes × (size ≡ length bytes)
    × (take (size + 1) buffer ≡ bytes ++ 0 ∷ [])

abbrev pub ok_name : List ℕ
ok_name = codes "OK"

abbrev pub ok_text : List ℕ
ok_text = codes "done"
