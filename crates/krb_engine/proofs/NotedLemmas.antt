-- A refusal that isn't heeded now changes nothing but that it is noted.
use Rattle.std.proofs.Common.{ℕ, Bool, true, false, if◌then◌else◌}
use Rattle.krb_engine.specs.declared.sending.Asks.{Asks}
use Rattle.krb_engine.specs.SendingState.{SendingState}
use Rattle.krb_engine.specs.Sending.{held, is_refused, noted}

pub of_noted : (P : SendingState → Type 0) (old : SendingState) (number : ℕ) (it : Asks) → P old → P (held old) → P (noted old number it)
of_noted P old number it before after = by_test (is_refused old number it)
  where
    by_test : (b : Bool) → P (if b then held old else old)
    by_test true = after
    by_test false = before
