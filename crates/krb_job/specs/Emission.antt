-- Emissions of a plan: `K`, `flip K AT MASK` and `raw HEX`.
use Rattle.std.specs.Prelude.{ℕ, nat_eq, List, drop, codes, slice_get, Option, Some, None}
use Rattle.std.specs.Prelude.{option_map, if◌then◌else◌}
use Rattle.std.specs.Result.{result_ok}
use Rattle.std.specs.List.{starts_with}
use Rattle.toml.specs.Data.{Data, string}
use Rattle.hex.specs.Hex.{decode_sized}
use Rattle.krb_base.specs.Limits.{raw_limit}
use Rattle.krb_record.specs.declared.plan.Emit.{Emit}
use Rattle.krb_record.specs.declared.plan.Emit.TheVariants.{Frame, Flip, Raw}
use Rattle.krb_base.specs.Steps.{◌>>=◌}
use Rattle.krb_job.specs.Decimal.{decimal_of}
use Rattle.krb_job.specs.Text.{split_at}
use Rattle.krb_job.specs.Values.{hex_of}

-- a byte of two hexadecimal digits
abbrev pub mask_of : List ℕ → Option ℕ
mask_of digits = result_ok (decode_sized digits 1) >>= λ bytes. slice_get bytes 0

-- a frame, a byte of it and a mask, separated by single spaces, which are 32
abbrev pub flip_of : List ℕ → Option Emit
flip_of text = do
  parts ← split_at 32 text
  k ← decimal_of 9 parts.0
  others ← split_at 32 parts.1
  at ← decimal_of 9 others.0
  mask ← mask_of others.1
  Some (Flip k at mask)

unfoldable pub emission_named : List ℕ → Option Emit
emission_named text =
    if starts_with nat_eq text (codes "flip ") then flip_of (drop 5 text)
    else if starts_with nat_eq text (codes "raw ")
    then option_map Raw (hex_of 0 raw_limit (drop 4 text))
    else option_map Frame (decimal_of 9 text)

abbrev pub emission_of : Data → Option Emit
emission_of (string text) = emission_named text
emission_of _ = None
