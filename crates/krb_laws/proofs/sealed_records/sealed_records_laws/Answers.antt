use Rattle.krb_laws.proofs.SealedRecordLemmas.{one_of_each, are_sealed, can_be_taken}
use Rattle.krb_laws.proofs.sealed_records.sealed_records_laws.Goals as goal

pub returns : goal.returns
returns c = record { each = one_of_each; sealed = are_sealed; taken = can_be_taken }
