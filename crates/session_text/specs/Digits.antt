-- The next step of reading a number of 64 bits.
use Rattle.std.specs.Prelude.{ℕ, ◌+◌, ◌-◌, ◌*◌, ◌^◌, nat_lt, if◌then◌else◌, Option, Some, None}
use Rattle.session_text.specs.Requests.{is_digit}

abbrev pub if_small : ℕ → Option ℕ
if_small n = if nat_lt n (2 ^ 64) then Some n else None

-- a number with one more digit behind it, if the byte is a digit and the number has 64 bits
abbrev pub next_value : ℕ → ℕ → Option ℕ
next_value n c = if is_digit c then if_small (n * 10 + (c - 48)) else None
