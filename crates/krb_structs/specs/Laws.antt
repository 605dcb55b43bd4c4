-- Demands that say all, beside what an opener expects.
use Rattle.std.specs.Prelude.{◌≡◌, ◌↔◌, ℕ, Bool, List, Ok, if◌then◌else◌}
use Rattle.krb_der.specs.declared.body.Body.{Body}
use Rattle.krb_seal.specs.declared.session.Expect.{Expect}
use Rattle.krb_seal.specs.Opens.{OpenerState, Opens}
use Rattle.krb_structs.specs.declared.demand.KrbDemand.{KrbDemand}
use Rattle.krb_structs.specs.Demand.{IsDemand, OpensWith}
use Rattle.krb_structs.specs.Session.{address_of}

-- how something is demanded that may be absent unless it is required
abbrev pub how_of : Bool → ℕ
how_of required = if required then 2 else 1

-- The demands are what an opener expects, and this number.
pub record Demands (d : KrbDemand) (x : Expect) (n : ℕ) : Type 0 where
  pub how_sender : d.how_sender ≡ 2
  pub how_receiver : d.how_receiver ≡ how_of x.require_r
  pub how_time : d.how_time ≡ how_of x.expect_time
  pub how_number : d.how_number ≡ 2
  pub sender : address_of d.sender ≡ x.s_addr
  pub receiver : address_of d.receiver ≡ x.r_addr
  pub skew : d.skew ≡ x.skew
  pub number : d.number ≡ n

-- Opening with such demands gives a body if and only if unsealing gives its user data.
abbrev pub DemandedIsUnsealed : Type 0
DemandedIsUnsealed =
    (o : OpenerState) (d : KrbDemand) (number now : ℕ) (frame user : List ℕ) → IsDemand d
    → Demands d o.expect number
    → ((b : Body) × OpensWith o d now frame (Ok b) × (user ≡ b.user_data))
    ↔ Opens o number now frame (Ok user)
