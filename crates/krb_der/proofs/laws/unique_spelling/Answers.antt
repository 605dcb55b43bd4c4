use Rattle.krb_der.proofs.Grammar.{messages_unique, one_message_spelling, one_part_spelling, parts_unique}
use Rattle.krb_der.proofs.laws.unique_spelling.Goals as goal

pub returns : goal.returns
returns c = record { one_spelling = one_message_spelling; one_part_spelling = one_part_spelling; messages = messages_unique; parts = parts_unique }
