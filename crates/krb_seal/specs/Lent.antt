-- What a sealer lends to what seals several messages in one call.
use Rattle.std.specs.Prelude.{ℕ, ◌+◌}
use Rattle.krb_etype.specs.HeldKeys.{HeldKeys}
use Rattle.krb_etype.specs.declared.private_keys.End.TheVariants.{Sealer}
use Rattle.krb_seal.specs.Mode.{purpose_of}
use Rattle.krb_seal.specs.Sealer.{SealerState}

-- The sealer after n sealed frames.
abbrev pub advanced_by : SealerState → ℕ → SealerState
advanced_by s n = record s { next = s.next + n }

-- The keys that it seals with.
abbrev pub keys_of : SealerState → HeldKeys
keys_of s =
    record { key = s.key; end = Sealer; purpose = purpose_of s.session.mode; wiped = s.wiped }
