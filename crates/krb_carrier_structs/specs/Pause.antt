-- A pause of C's.
use Rattle.krb_engine.specs.declared.pause.Pause.{Pause}
use Rattle.krb_carrier_structs.specs.declared.pause.KrbPause.{KrbPause}

abbrev pub told_pause : KrbPause → Pause
told_pause p = record { since = p.since; length = p.length }

abbrev pub pause_told : Pause → KrbPause
pause_told p = record { since = p.since; length = p.length }
