-- Transaction statuses packed into bytes, two bits each (PostgreSQL's clog.c and clog.h).
use Rattle.std.specs.Prelude.{ℕ, ◌*◌, ◌/◌, ◌%◌, ◌^◌, ◌==◌, List, slice_index, if◌then◌else◌}
use Rattle.pg_types.specs.declared.status.Status.{Status}
use Rattle.pg_types.specs.declared.status.Status.TheVariants.{None, Committed, Aborted, Sub}

-- the two bits of status number n, four a byte from the low bits (clog.c, CLOG_XACTS_PER_BYTE)
unfoldable pub bits_at : List ℕ → ℕ → ℕ
bits_at bytes n = slice_index bytes (n / 4) / 2 ^ (2 * (n % 4)) % 4

-- the status that two bits tell (clog.h, TRANSACTION_STATUS_IN_PROGRESS and the three below it)
abbrev pub status_of_bits : ℕ → Status
status_of_bits bits = if bits == 1 then Committed else if bits == 2 then Aborted else if bits == 3 then Sub else None

-- the two bits of a status
abbrev pub bits_of : Status → ℕ
bits_of None = 0
bits_of Committed = 1
bits_of Aborted = 2
bits_of Sub = 3
