-- What demands mean, on the fields of a message.
use Rattle.std.specs.Prelude.{◌≡◌, ◌≢◌, ◌⊎◌, ◌↔◌, ◌*◌, ◌≤◌, ℕ, ℤ, true, is_some, List, Some, None, Ok}
use Rattle.std.specs.Int.{abs_diff}
use Rattle.krb_der.specs.declared.address.HostAddress.{HostAddress}
use Rattle.krb_der.specs.declared.body.Body.{Body}
use Rattle.krb_der.specs.Moment.{micros_per_second, moment_of}
use Rattle.krb_seal.specs.declared.session.Session.{Session}
use Rattle.krb_seal.specs.declared.session.Expect.{Expect}
use Rattle.krb_seal.specs.Authentic.{Authenticates}
use Rattle.krb_seal.specs.Opens.{OpenerState, opener_of}
use Rattle.krb_seal.specs.Seals.{Seals, body_of}
use Rattle.krb_structs.specs.declared.demand.KrbDemand.{KrbDemand}
use Rattle.krb_structs.specs.Demand.{AreShort, OpensWith}
use Rattle.krb_structs.specs.Session.{address_of}

-- the message tells its time: seconds and microseconds, and 3 takes absent microseconds for 0
abbrev pub TellsTime : KrbDemand → Body → Type 0
TellsTime d b = (is_some b.time ≡ true) × ((is_some b.usec ≡ true) ⊎ (d.how_time ≡ 3))

-- What is demanded of the fields (RFC 4120 sections 3.4.2 and 3.5.2): 0 ignores a field, whatever it is;
-- where one isn't ignored, what a message tells has to be this; 2 asks the message to tell it; and 3 takes
-- an absent number for 0, and absent microseconds (section 5.1.2). One of time and number can be asked for:
-- an absent number isn't told then, also where it is taken for 0.
-- The addresses have room in a struct of C, and microseconds belong to a second.
pub record MeetsFields (d : KrbDemand) (now : ℕ) (b : Body) : Type 0 where
  pub short : AreShort b.s_addr b.r_addr
  pub sender : d.how_sender ≢ 0 → b.s_addr ≡ address_of d.sender
  pub receiver : d.how_receiver ≢ 0 → (a : HostAddress) → b.r_addr ≡ Some a
      → a ≡ address_of d.receiver
  pub receiver_told : d.how_receiver ≡ 2 → is_some b.r_addr ≡ true
  pub time : d.how_time ≢ 0 → (secs usec : ℕ) → b.time ≡ Some secs → b.usec ≡ Some usec
      → abs_diff now (moment_of secs usec) ≤ micros_per_second * d.skew
  pub time_of_second : d.how_time ≢ 0 → (secs : ℕ) → b.time ≡ Some secs → b.usec ≡ None
      → (d.how_time ≡ 3) × (abs_diff now (moment_of secs 0) ≤ micros_per_second * d.skew)
  pub time_told : 2 ≤ d.how_time → is_some b.time ≡ true
  pub second_told : d.how_time ≢ 0 → is_some b.usec ≡ true → is_some b.time ≡ true
  pub number : d.how_number ≢ 0 → (n : ℕ) → b.seq ≡ Some n → n ≡ d.number
  pub number_told : d.how_number ≡ 2 → is_some b.seq ≡ true
  pub absent_is_0 : d.how_number ≡ 3 → b.seq ≡ None → d.number ≡ 0
  pub needs : d.needs_time_or_number ≢ 0 → TellsTime d b ⊎ (is_some b.seq ≡ true)

-- a frame opens with demands if and only if it is authentic, and its fields are what is demanded
abbrev pub DemandsMean : Type 0
DemandsMean =
    (o : OpenerState) (d : KrbDemand) (now : ℕ) (frame : List ℕ) (b : Body)
    → OpensWith o d now frame (Ok b) ↔ (Authenticates o frame (Ok b) × MeetsFields d now b)

-- Whatever else is demanded or ignored, a sealed frame opens with a demand of a number under its own
-- number alone, and gives what was sealed.
abbrev pub OpensAtItsNumberAlone : Type 0
OpensAtItsNumberAlone =
    (etype : ℤ) (key : List ℕ) (s : Session) (x : Expect) (d : KrbDemand) (q at now : ℕ)
    (user conf frame : List ℕ) (b : Body)
    → Seals etype key s q user at conf frame → s.mode ≡ x.mode → d.how_number ≢ 0
    → OpensWith (opener_of etype key x) d now frame (Ok b)
    → (d.number ≡ q) × (b ≡ body_of s q user at)
