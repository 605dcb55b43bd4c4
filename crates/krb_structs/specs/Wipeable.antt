-- What wiped openers and receivers are.
use Rattle.std.specs.Prelude.{◌≡◌, Bool, true, false, Option, Some, None}
use Rattle.krb_base.specs.Bytes.{AreZero}
use Rattle.krb_seal.specs.Opens.{OpenerState}
use Rattle.krb_peers.specs.ReceiverState.{ReceiverState}

-- nothing, once it was wiped
abbrev pub unless_wiped : Bool → OpenerState → Option OpenerState
unless_wiped true o = None
unless_wiped false o = Some o

-- once it was wiped, each byte of the key that lies there is 0
abbrev pub IsOverwritten : Bool → OpenerState → Type 0
IsOverwritten wiped o = wiped ≡ true → AreZero o.key

-- it refuses each frame as after a close, and each byte of the key that lies there is 0
abbrev pub IsWipedReceiver : ReceiverState → Type 0
IsWipedReceiver s = (s.demand.closed ≡ true) × AreZero s.opener.key
