-- What a caller demands of an authentic message, each demand with a number that says how: 0
-- nothing, 1 that what the message tells fits, 2 that the message tells it and it fits. 3 says so
-- of a number and a time, and counts an absent integer as 0 (RFC 4120 section 5.1.2).
use Rattle.std.specs.Prelude.{◌≡◌, ℕ, ◌*◌, ◌≤◌, Bool, true, false, not, ◌&&◌, ◌||◌, [], ◌∷◌, List, length}
use Rattle.std.specs.Prelude.{Option, Some, None, Ok, Err, is_some, nat_le, nat_eq}
use Rattle.std.specs.Option.{ForSome}
use Rattle.krb_der.specs.declared.address.HostAddress.{HostAddress}
use Rattle.krb_der.specs.declared.body.Body.{Body}
use Rattle.krb_der.specs.Moment.{micros_per_second, moment_of}
use Rattle.krb_der.specs.Address.{same_address}
use Rattle.krb_seal.specs.declared.refusal.Refusal.TheVariants.{BadAddr, Skew, BadOrder, Modified}
use Rattle.krb_seal.specs.Session.{IsShortAddress}
use Rattle.krb_seal.specs.Opens.{OpenerState, Passes}
use Rattle.std.specs.Int.{abs_diff}
use Rattle.krb_seal.specs.OpensParts.{Checks}
use Rattle.krb_seal.specs.Authentic.{Authenticity, Authenticates, GivesBody}
use Rattle.krb_structs.specs.declared.demand.KrbDemand.{KrbDemand}
use Rattle.krb_structs.specs.Session.{AreZeros, IsNoAddress, address_of, address_room}

-- the demands are ones that there are
pub record AreHows (d : KrbDemand) : Type 0 where
  pub sender : d.how_sender ≤ 2
  pub receiver : d.how_receiver ≤ 2
  pub time : d.how_time ≤ 3
  pub number : d.how_number ≤ 3
  pub needs : d.needs_time_or_number ≤ 1

-- the addresses fit, and are zeros where none is demanded
pub record AreAddresses (d : KrbDemand) : Type 0 where
  pub sender : d.sender.len ≤ address_room
  pub receiver : d.receiver.len ≤ address_room
  pub no_sender : d.how_sender ≡ 0 → IsNoAddress d.sender
  pub no_receiver : d.how_receiver ≡ 0 → IsNoAddress d.receiver

-- the other fields are 0 where they aren't read
pub record AreNumbers (d : KrbDemand) : Type 0 where
  pub no_time : d.how_time ≡ 0 → d.skew ≡ 0
  pub no_number : d.how_number ≡ 0 → d.number ≡ 0
  pub reserved : AreZeros d.reserved

-- It is a demand: its values are ones that there are, and what isn't read is zeros.
pub record IsDemand (d : KrbDemand) : Type 0 where
  pub hows : AreHows d
  pub addresses : AreAddresses d
  pub numbers : AreNumbers d

-- ---- the tests

-- the addresses are no longer than there is room for
abbrev pub has_room : HostAddress → Bool
has_room a = nat_le (length a.bytes) address_room

abbrev pub all_have_room : HostAddress → Option HostAddress → Bool
all_have_room s None = has_room s
all_have_room s (Some r) = has_room s && has_room r

abbrev pub AreShort : HostAddress → Option HostAddress → Type 0
AreShort s r = IsShortAddress s × ForSome r IsShortAddress

abbrev pub sender_meets : KrbDemand → HostAddress → Bool
sender_meets d a = nat_eq d.how_sender 0 || same_address a (address_of d.sender)

abbrev pub receiver_meets : KrbDemand → Option HostAddress → Bool
receiver_meets d None = not (nat_eq d.how_receiver 2)
receiver_meets d (Some a) = nat_eq d.how_receiver 0 || same_address a (address_of d.receiver)

-- in whole microseconds, and both ends of the window are in it
abbrev pub is_near : KrbDemand → ℕ → ℕ → Bool
is_near d now at = nat_le (abs_diff now at) (micros_per_second * d.skew)

abbrev pub is_within : KrbDemand → ℕ → Option ℕ → Option ℕ → Bool
is_within d now (Some secs) (Some usec) = is_near d now (moment_of secs usec)
is_within d now (Some secs) None = nat_eq d.how_time 3 && is_near d now (moment_of secs 0)
is_within d now None None = nat_le d.how_time 1
is_within d now None (Some usec) = false

abbrev pub time_meets : KrbDemand → ℕ → Body → Bool
time_meets d now b = nat_eq d.how_time 0 || is_within d now b.time b.usec

abbrev pub number_meets : KrbDemand → Option ℕ → Bool
number_meets d None =
    not (nat_eq d.how_number 2) && (not (nat_eq d.how_number 3) || nat_eq d.number 0)
number_meets d (Some n) = nat_eq d.how_number 0 || nat_eq n d.number

-- the message tells its time: seconds and microseconds, and 3 counts absent microseconds as 0
abbrev pub tells_time : KrbDemand → Option ℕ → Option ℕ → Bool
tells_time d (Some secs) (Some usec) = true
tells_time d (Some secs) None = nat_eq d.how_time 3
tells_time d None (Some usec) = false
tells_time d None None = false

-- The message tells its time or its number, where one of both is needed. A number that is counted as 0
-- isn't told: without a time, such a message could be brought again and again.
abbrev pub needs_meet : KrbDemand → Body → Bool
needs_meet d b =
    nat_eq d.needs_time_or_number 0 || (tells_time d b.time b.usec || is_some b.seq)

-- ---- the checks, in their order

abbrev pub demand_checks : KrbDemand → ℕ → Body → Checks
demand_checks d now b =
    (all_have_room b.s_addr b.r_addr, BadAddr)
    ∷ (sender_meets d b.s_addr && receiver_meets d b.r_addr, BadAddr)
    ∷ (time_meets d now b, Skew)
    ∷ (number_meets d b.seq, BadOrder)
    ∷ (needs_meet d b, Modified)
    ∷ []

-- The body meets all of a demand but its number.
pub record MeetsAllButNumber (d : KrbDemand) (now : ℕ) (b : Body) : Type 0 where
  pub room : all_have_room b.s_addr b.r_addr ≡ true
  pub addresses : (sender_meets d b.s_addr && receiver_meets d b.r_addr) ≡ true
  pub time : time_meets d now b ≡ true
  pub number : number_meets d b.seq ≡ false

-- a body goes on where it meets the demands, and a refusal stays
abbrev pub AsDemanded : KrbDemand → ℕ → Authenticity → Authenticity → Type 0
AsDemanded d now (Ok b) outcome = Passes (demand_checks d now b) (GivesBody b) outcome
AsDemanded d now (Err r) outcome = outcome ≡ Err r

-- The outcome of opening a frame with demands: it is authenticated first.
abbrev pub OpensWith : OpenerState → KrbDemand → ℕ → List ℕ → Authenticity → Type 0
OpensWith o d now frame outcome =
    (x : Authenticity) × Authenticates o frame x × AsDemanded d now x outcome
