use Rattle.krb_carry.proofs.LawLemmas.{goes_on, one_history, receipts_name_the_history}
use Rattle.krb_carry.proofs.laws.histories_laws.Goals as goal

pub returns-clause-one : goal.returns-clause-one
returns-clause-one c = one_history

pub returns-clause-goes_on : goal.returns-clause-goes_on
returns-clause-goes_on c = goes_on

pub returns-clause-receipts : goal.returns-clause-receipts
returns-clause-receipts c = receipts_name_the_history
