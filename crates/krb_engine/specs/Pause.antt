-- Pauses that double.
use Rattle.std.specs.Prelude.{◌≡◌, ℕ, ◌+◌, ◌*◌, ◌^◌, ◌≤◌, min}
use Rattle.krb_engine.specs.declared.pause.Pause.{Pause}

abbrev pub begun : ℕ → ℕ → Pause
begun length now = record { since = now; length = length }

abbrev pub IsOver : Pause → ℕ → Type 0
IsOver pause now = pause.since + pause.length ≤ now

-- the next one: twice as long, up to the cap
abbrev pub longer : ℕ → Pause → ℕ → Pause
longer cap pause now = begun (min (2 * pause.length) cap) now

-- the pause after so many tries: the first one doubled each time, up to the cap
abbrev pub pause_after : ℕ → ℕ → ℕ → ℕ
pause_after cap first tries = min (first * 2 ^ tries) cap
