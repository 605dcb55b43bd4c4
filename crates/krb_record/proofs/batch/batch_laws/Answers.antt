use Rattle.krb_record.proofs.BatchLemmas.{one_batch, short_batch, short_texts}
use Rattle.krb_record.proofs.ReadingLemmas.{found_is_spelt, spelt_is_found}
use Rattle.krb_record.proofs.batch.batch_laws.Goals as goal

pub returns-clause-one_batch : goal.returns-clause-one_batch
returns-clause-one_batch c = one_batch

pub returns-clause-short : goal.returns-clause-short
returns-clause-short c = short_batch

pub returns-clause-texts : goal.returns-clause-texts
returns-clause-texts c texts is = short_texts texts is.small

pub returns-clause-found : goal.returns-clause-found
returns-clause-found c texts bytes = (spelt_is_found texts bytes, found_is_spelt texts bytes)
