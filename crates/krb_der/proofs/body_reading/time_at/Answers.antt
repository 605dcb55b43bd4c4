use Rattle.krb_der.proofs.Times.{time-read_as}
use Rattle.krb_der.proofs.body_reading.time_at.Goals as goal

pub returns : goal.returns
returns c = time-read_as c.read_kerberos_time.result c.args.text.now c.read_kerberos_time.ensures
