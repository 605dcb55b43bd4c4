-- How many frames are under way, and how long pauses are, in milliseconds.
use Rattle.std.specs.Prelude.{ℕ}

-- so many frames of a session at first, and at most
abbrev pub window_first : ℕ
window_first = 16

abbrev pub window_most : ℕ
window_most = 256

-- so many frames in one service at most
abbrev pub service_most : ℕ
service_most = 16

-- until what wasn't confirmed is published again, at first and at most
abbrev pub again_first : ℕ
again_first = 2000

abbrev pub again_most : ℕ
again_most = 64000

-- until a carried frame without a receipt is probed, at first and at most
abbrev pub probe_first : ℕ
probe_first = 5000

abbrev pub probe_most : ℕ
probe_most = 960000

-- for which a receiver that asks again isn't heeded, at first and at most
abbrev pub ask_first : ℕ
ask_first = 4000

abbrev pub ask_most : ℕ
ask_most = 64000

-- until a session asks again for room in its shard
abbrev pub room_pause : ℕ
room_pause = 2000

-- so many frames of a shard are under way at most
abbrev pub under_way_most : ℕ
under_way_most = 2048
