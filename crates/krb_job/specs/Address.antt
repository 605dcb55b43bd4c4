-- Addresses, as `2:c0000201`: the type of an address (RFC 4120 section 7.5.3), a colon, and its
-- bytes.
use Rattle.std.specs.Prelude.{ℕ, List, Option, Some, None}
use Rattle.krb_base.specs.Limits.{address_limit}
use Rattle.toml.specs.Data.{Data, string}
use Rattle.krb_der.specs.declared.address.HostAddress.{HostAddress}
use Rattle.krb_base.specs.Steps.{◌>>=◌}
use Rattle.krb_job.specs.Decimal.{int32_of}
use Rattle.krb_job.specs.Text.{split_at}
use Rattle.krb_job.specs.Values.{hex_of}

-- a colon is 58
abbrev pub address_named : List ℕ → Option HostAddress
address_named text = do
  parts ← split_at 58 text
  kind ← int32_of parts.0
  bytes ← hex_of 0 address_limit parts.1
  Some (record { kind = kind; bytes = bytes })

abbrev pub address_of : Data → Option HostAddress
address_of (string text) = address_named text
address_of _ = None
