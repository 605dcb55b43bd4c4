-- The refusals of a frame: numbers and names of RFC 4120 section 7.5.9, and from 901 on this
-- project's own.
use Rattle.std.specs.Prelude.{ℕ, List, codes}
use Rattle.krb_seal.specs.declared.refusal.Refusal.{Refusal}
use Rattle.krb_seal.specs.declared.refusal.Refusal.TheVariants.{FieldTooLong, Malformed, BadVersion}
use Rattle.krb_seal.specs.declared.refusal.Refusal.TheVariants.{MsgType, EtypeNoSupp, BadIntegrity}
use Rattle.krb_seal.specs.declared.refusal.Refusal.TheVariants.{InappCksum, BadAddr, Skew, BadOrder}
use Rattle.krb_seal.specs.declared.refusal.Refusal.TheVariants.{Modified, BadRecord, AfterClose}
use Rattle.krb_seal.specs.declared.refusal.Refusal.TheVariants.{Memory}

abbrev pub code_of : Refusal → ℕ
code_of FieldTooLong = 61
code_of Malformed = 901
code_of BadVersion = 39
code_of MsgType = 40
code_of EtypeNoSupp = 14
code_of BadIntegrity = 31
code_of InappCksum = 50
code_of BadAddr = 38
code_of Skew = 37
code_of BadOrder = 42
code_of Modified = 41
code_of BadRecord = 902
code_of AfterClose = 903
code_of Memory = 904

abbrev pub name_of : Refusal → List ℕ
name_of FieldTooLong = codes "FIELD_TOOLONG"
name_of Malformed = codes "MALFORMED"
name_of BadVersion = codes "BADVERSION"
name_of MsgType = codes "MSG_TYPE"
name_of EtypeNoSupp = codes "ETYPE_NOSUPP"
name_of BadIntegrity = codes "BAD_INTEGRITY"
name_of InappCksum = codes "INAPP_CKSUM"
name_of BadAddr = codes "BADADDR"
name_of Skew = codes "SKEW"
name_of BadOrder = codes "BADORDER"
name_of Modified = codes "MODIFIED"
name_of BadRecord = codes "BAD_RECORD"
name_of AfterClose = codes "AFTER_CLOSE"
name_of Memory = codes "MEMORY"
