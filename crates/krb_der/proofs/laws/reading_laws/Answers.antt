use Rattle.krb_der.proofs.Grammar.{messages_found, parts_found}
use Rattle.krb_der.proofs.laws.reading_laws.Goals as goal

pub returns : goal.returns
returns c = record { messages = messages_found; parts = parts_found }
