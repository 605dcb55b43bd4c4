-- The line that is printed for a reading.
use Rattle.std.specs.Prelude.{ℕ, ℤ, List, [], ◌++◌, codes, Option, Some, None, IfSome, ⊤}
use Rattle.std.specs.Fmt.{decimal, signed_decimal}
use Rattle.hex.specs.Hex.{encode_lower}
use Rattle.krb_der.specs.Time.{IsSecond, kerberos_time}
use Rattle.krb_der.specs.declared.address.HostAddress.{HostAddress}
use Rattle.krb_der.specs.declared.body.Body.{Body}
use Rattle.krb_der.specs.declared.safe.SafeMsg.{SafeMsg}
use Rattle.krb_der.specs.declared.private.PrivMsg.{PrivMsg}
use Rattle.krb_der.specs.declared.message.Message.{Message}
use Rattle.krb_der.specs.declared.message.Message.TheVariants.{Safe, Priv}
use Rattle.krb_commands.specs.declared.inside.Inside.{Inside}
use Rattle.krb_commands.specs.declared.inside.Inside.TheVariants.{Unasked, Opened, Refused}
use Rattle.krb_commands.specs.declared.reading.Reading.{Reading}
use Rattle.krb_commands.specs.declared.reading.Reading.TheVariants as read
use Rattle.krb_commands.specs.JobLines.{refusal_text}

-- a field that may be absent
abbrev pub or_dash : {A : Type 0} → (A → List ℕ) → Option A → List ℕ
or_dash text None = codes "-"
or_dash text (Some x) = text x

-- a type's number and the digits of the bytes
abbrev pub typed_text : ℤ → List ℕ → List ℕ
typed_text kind bytes = signed_decimal kind ++ codes ":" ++ encode_lower bytes

abbrev pub address_text : HostAddress → List ℕ
address_text address = typed_text address.kind address.bytes

abbrev pub body_text : Body → List ℕ
body_text body =
    codes "data=" ++ encode_lower body.user_data
    ++ codes " time=" ++ or_dash kerberos_time body.time
    ++ codes " usec=" ++ or_dash decimal body.usec
    ++ codes " seq=" ++ or_dash decimal body.seq
    ++ codes " from=" ++ address_text body.s_addr
    ++ codes " to=" ++ or_dash address_text body.r_addr

abbrev pub safe_text : SafeMsg → List ℕ
safe_text m =
    codes "SAFE " ++ signed_decimal m.pvno
    ++ codes " " ++ signed_decimal m.msg_type
    ++ codes " " ++ body_text m.body
    ++ codes " cksum=" ++ typed_text m.cksum_type m.checksum

abbrev pub priv_text : PrivMsg → List ℕ
priv_text m =
    codes "PRIV " ++ signed_decimal m.pvno
    ++ codes " " ++ signed_decimal m.msg_type
    ++ codes " etype=" ++ signed_decimal m.etype
    ++ codes " kvno=" ++ or_dash decimal m.kvno
    ++ codes " cipher=" ++ encode_lower m.cipher

abbrev pub message_text : Message → List ℕ
message_text (Safe m) = safe_text m
message_text (Priv m) = priv_text m

-- what a key gave of a message: its body, or why it isn't opened
abbrev pub inside_text : Inside → List ℕ
inside_text Unasked = []
inside_text (Opened body) = codes " opened " ++ body_text body
inside_text (Refused refusal) = codes " " ++ refusal_text refusal

abbrev pub text_of : Reading → List ℕ
text_of (read.Message message inside) = message_text message ++ inside_text inside
text_of read.Malformed = codes "refused 901 MALFORMED"
text_of read.TooLong = codes "refused 61 FIELD_TOOLONG"
text_of read.NotHexadecimal = codes "not hexadecimal"

-- the printed line
abbrev pub printed_line : Reading → List ℕ
printed_line reading = text_of reading ++ codes "\n"

-- a time that is printed is one of the years 1970 to 9999
abbrev pub HasTime : Body → Type 0
HasTime body = IfSome body.time IsSecond

abbrev pub HasPrintableTime : Message → Type 0
HasPrintableTime (Safe m) = HasTime m.body
HasPrintableTime (Priv m) = ⊤

abbrev pub HasPrintableBody : Inside → Type 0
HasPrintableBody Unasked = ⊤
HasPrintableBody (Opened body) = HasTime body
HasPrintableBody (Refused refusal) = ⊤

abbrev pub IsPrintable : Reading → Type 0
IsPrintable (read.Message message inside) = HasPrintableTime message × HasPrintableBody inside
IsPrintable read.Malformed = ⊤
IsPrintable read.TooLong = ⊤
IsPrintable read.NotHexadecimal = ⊤
