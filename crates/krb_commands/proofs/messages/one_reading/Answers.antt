use Rattle.krb_commands.proofs.Readings.{has_one_reading}
use Rattle.krb_commands.proofs.messages.one_reading.Goals as goal

pub returns : goal.returns
returns c = has_one_reading c.unique_spelling.ensures.messages
