use Rattle.krb_time.proofs.DateTimes.{epoch-nanos}
use Rattle.krb_time.proofs.time.epoch.Goals as goal

pub returns : goal.returns
returns c = epoch-nanos c.datetime.result c.datetime.ensures.date c.datetime.ensures.time
