-- The limits of this project's profile. No other definition has these numbers.
use Rattle.std.specs.Prelude.{ℕ, ◌+◌}

-- the most bytes of a text
abbrev pub text_limit : ℕ
text_limit = 1000000

-- the most bytes of the user data of a message: a text and the byte before it
abbrev pub user_data_limit : ℕ
user_data_limit = text_limit + 1

-- the most bytes of a message on the wire, and of the encrypted part of one
abbrev pub frame_limit : ℕ
frame_limit = 1005000

-- the most bytes of a raw emission of a plan
abbrev pub raw_limit : ℕ
raw_limit = 1010000

-- the most bytes of an address in a job
abbrev pub address_limit : ℕ
address_limit = 32

-- the most lanes of a relay, and senders of a job
abbrev pub lane_limit : ℕ
lane_limit = 8

-- the most items of a lane, its end counted
abbrev pub capacity_limit : ℕ
capacity_limit = 64

-- the most seconds that a message's time may be off: a day
abbrev pub skew_limit : ℕ
skew_limit = 86400

-- the most texts of a job's sender
abbrev pub texts_limit : ℕ
texts_limit = 1000

-- the most texts of a batch
abbrev pub batch_limit : ℕ
batch_limit = 1000

-- the most bytes of a batch after its first byte
abbrev pub batch_size_limit : ℕ
batch_size_limit = 1000000

-- the most timestamps of a job's sender, and the most emissions or frames
abbrev pub entries_limit : ℕ
entries_limit = 2000

-- the last sequence number (RFC 4120 section 5.2.4, UInt32)
abbrev pub last_number : ℕ
last_number = 4294967295
