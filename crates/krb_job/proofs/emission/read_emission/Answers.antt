use Rattle.krb_job.proofs.DataLemmas.{is_text}
use Rattle.krb_job.proofs.emission.read_emission.Goals as goal

pub returns-in-Some : goal.returns-in-Some
returns-in-Some c = rw (is_text _ c.in-Some.text.now c.in-Some.ensures, ← c.as_bytes.ensures.value) c.emission_named.ensures
