-- The time of day of RFC 868: the seconds since 1 January 1900, 00:00 UTC, as a 32-bit number, its
-- most significant byte first. The number begins again at 0 every 2^32 seconds.
use Rattle.std.specs.Prelude.{ℕ, ◌+◌, ◌%◌, ◌^◌, List, min}
use Rattle.std.specs.Int.{w32, to_be_bytes}
use Rattle.off_base.specs.Number.{greatest_u64}

-- the greatest moment
abbrev pub last_moment : ℕ
last_moment = greatest_u64

-- a moment so many seconds later; every sum of moments stops at the greatest
abbrev pub later_by : ℕ → ℕ → ℕ
later_by seconds now = min (now + seconds) last_moment

-- the seconds from 1 January 1900 to 1 January 1970 (RFC 868: 2,208,988,800)
abbrev pub seconds_before_1970 : ℕ
seconds_before_1970 = 2208988800

-- the time at a moment, in four bytes
abbrev pub time_bytes : ℕ → List ℕ
time_bytes now = to_be_bytes w32 (later_by seconds_before_1970 now % 2 ^ 32)
