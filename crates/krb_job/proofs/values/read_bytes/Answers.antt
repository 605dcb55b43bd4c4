use Rattle.std.proofs.Common.{refl}
use Rattle.toml.specs.View.{view}
use Rattle.krb_job.proofs.DataLemmas.{is_text, no_text}
use Rattle.krb_job.proofs.values.read_bytes.Goals as goal

pub returns-in-Some : goal.returns-in-Some
returns-in-Some c = rw (is_text (view c.args.value.now) c.in-Some.text.now c.in-Some.ensures, ← c.as_bytes.ensures.value) c.read_hex.ensures

pub returns-in-None : goal.returns-in-None
returns-in-None c = rw (no_text c.args.low c.args.high (view c.args.value.now) c.in-None.ensures) refl
