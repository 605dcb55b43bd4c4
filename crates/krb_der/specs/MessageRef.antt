-- What contracts see of a message whose byte strings are borrowed.
use Rattle.krb_der.specs.declared.message.Message.{Message}
use Rattle.krb_der.specs.declared.message.Message.TheVariants.{Safe, Priv}
use Rattle.krb_der.specs.declared.message.MessageRef.{MessageRef}
use Rattle.krb_der.specs.declared.message.MessageRef.TheVariants as refs

abbrev pub owned : MessageRef → Message
owned (refs.Safe m) = Safe m
owned (refs.Priv m) = Priv m
