-- The bodies that a session's messages carry.
use Rattle.std.specs.Prelude.{◌≡◌, ℕ, ◌≤◌, ℤ, List, length}
use Rattle.std.specs.Option.{ForSome}
use Rattle.krb_base.specs.Limits.{user_data_limit}
use Rattle.krb_der.specs.declared.body.Body.{Body}
use Rattle.krb_der.specs.Size.{with_data}
use Rattle.krb_seal.specs.declared.session.Mode.{Mode}
use Rattle.krb_seal.specs.Seals.{SealsBody}
use Rattle.krb_seal.specs.Session.{IsShortAddress}

-- The data and the addresses of a body are within the limits.
pub record IsSmall (b : Body) : Type 0 where
  pub user : length b.user_data ≤ user_data_limit
  pub sender : IsShortAddress b.s_addr
  pub receiver : ForSome b.r_addr IsShortAddress

-- The addresses of a body are within the limit.
pub record HasSmallAddresses (b : Body) : Type 0 where
  pub sender : IsShortAddress b.s_addr
  pub receiver : ForSome b.r_addr IsShortAddress

-- Each frame of a mode that carries the body, with any n bytes as its user data, has this size.
abbrev pub HasSizeOf : Mode → ℤ → Body → ℕ → ℕ → Type 0
HasSizeOf mode etype b n size =
    (key user conf frame : List ℕ) → length user ≡ n
    → SealsBody mode etype key conf (with_data user b) frame → length frame ≡ size
