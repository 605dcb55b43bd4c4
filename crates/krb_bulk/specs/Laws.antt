-- Laws of messages that are sealed in one call.
use Rattle.std.specs.Prelude.{◌≡◌, ◌↔◌, ℕ, ◌+◌, ◌^◌, ◌<◌, ◌≤◌, List, length, false, Some, slice_get}
use Rattle.std.specs.Global.{Vec}
use Rattle.krb_seal.specs.declared.seal_error.SealError.{SealError}
use Rattle.krb_seal.specs.Lent.{advanced_by}
use Rattle.krb_seal.specs.Sealer.{SealerState}
use Rattle.krb_seal.specs.Seals.{Seals}
use Rattle.krb_bulk.specs.declared.unsealed.Unsealed.{Unsealed}
use Rattle.krb_bulk.specs.Many.{CanSeal, RefusesFirst, SealsInTurn}

-- Each message has one frame, which is sealed at its own number: the first at the next, and each at the one after that of
-- the message before.
abbrev pub EachAtItsNumber : Type 0
EachAtItsNumber =
    (s : SealerState) (ms : List Unsealed) (fs : List (Vec ℕ)) → SealsInTurn s ms fs
    → (length fs ≡ length ms)
    × ((k : ℕ) (m : Unsealed) (f : Vec ℕ) → slice_get ms k ≡ Some m → slice_get fs k ≡ Some f
    → Seals s.etype s.key s.session (s.next + k) m.user_data.now m.at m.confounder f.items)

-- A message can be sealed if and only if the sealer isn't wiped, the message has at most 1,000,001 bytes, and a number is
-- left.
abbrev pub WhatCanBeSealed : Type 0
WhatCanBeSealed =
    (s : SealerState) (m : Unsealed)
    → CanSeal s m ↔ ((s.wiped ≡ false) × (length m.user_data.now ≤ 1000001) × (s.next < 2 ^ 32))

-- The one that is refused is one of them, and each before it can be sealed at its number.
abbrev pub TheFirstIsRefused : Type 0
TheFirstIsRefused =
    (s : SealerState) (ms : List Unsealed) (i : ℕ) (why : SealError) → RefusesFirst s ms i why
    → (i < length ms)
    × ((k : ℕ) (m : Unsealed) → k < i → slice_get ms k ≡ Some m → CanSeal (advanced_by s k) m)
