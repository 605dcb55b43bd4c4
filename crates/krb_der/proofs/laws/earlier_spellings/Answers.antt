use Rattle.krb_der.proofs.Earlier.{messages_stay, parts_stay}
use Rattle.krb_der.proofs.laws.earlier_spellings.Goals as goal

pub returns : goal.returns
returns c = record { messages = messages_stay; parts = parts_stay }
