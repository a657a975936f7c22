-- The record at a position, or the rule by which none stands there (ReadRecord, xlogrecovery.c; XLogReadRecord,
-- xlogreader.c).
use Rattle.std.specs.Prelude.{ℕ, ◌+◌, ◌-◌, ◌*◌, ◌/◌, ◌==◌, Bool, ◌&&◌, nat_le, nat_lt, bit_and, Some, None, Result, Ok, Err, List, ◌++◌, length, if◌then◌else◌}
use Rattle.pg_types.specs.Numbers.{number_at}
use Rattle.wal_record.specs.declared.types.PrevRule.{PrevRule}
use Rattle.wal_record.specs.declared.types.RecordHead.{RecordHead}
use Rattle.wal_record.specs.declared.types.RecordFault.{RecordFault}
use Rattle.wal_record.specs.declared.types.RecordFault.TheVariants as fault
use Rattle.wal_record.specs.Record.{Record}
use Rattle.wal_record.specs.Decoded.{head_of, decoded}
use Rattle.wal_reader.specs.declared.types.EndWhy.TheVariants as why
use Rattle.wal_reader.specs.declared.types.NoRecord.{NoRecord}
use Rattle.wal_reader.specs.declared.types.NoRecord.TheVariants.{End, Compressed, TooLong}
use Rattle.wal_reader.specs.Halt.{Halt, Stops, GivesUp}
use Rattle.wal_reader.specs.Told.{Told}
use Rattle.wal_reader.specs.Gathered.{◌>>=◌, place_at, gathered}

-- a record with its place: where its first byte stands, and where the next record would stand
pub record Entry : Type 0 where
  pub start : ℕ
  pub end : ℕ
  pub record_ : Record

-- a record's fault as a rule of the log
abbrev pub stop_of : RecordFault → NoRecord
stop_of fault.Zero = End why.Zero
stop_of fault.Short = End why.Short
stop_of fault.Manager = End why.Manager
stop_of fault.Prev = End why.Prev
stop_of fault.TooLong = TooLong
stop_of fault.Crc = End why.Crc
stop_of fault.Layout = End why.Layout
stop_of fault.Compressed = Compressed

abbrev pub unless_faulty : {T : Type 0} → Result T RecordFault → Result T Halt
unless_faulty (Ok x) = Ok x
unless_faulty (Err found) = Err (Stops (stop_of found))

-- the length field: 0 behind the log's end, and no less than a header's 24 bytes
abbrev pub length_in : List ℕ → Result ℕ Halt
length_in bytes =
    if number_at 4 bytes 0 == 0 then Err (Stops (End why.Zero))
    else if nat_lt (number_at 4 bytes 0) 24 then Err (Stops (End why.Short))
    else Ok (number_at 4 bytes 0)

-- the first multiple from a position on
abbrev pub rounded_up : ℕ → ℕ → ℕ
rounded_up unit at = (at + (unit - 1)) / unit * unit

-- of this manager and kind; the low four bits of a record's info are no part of its kind (XLR_INFO_MASK)
abbrev pub is_kind : ℕ → ℕ → RecordHead → Bool
is_kind manager kind head = head.manager == manager && bit_and head.info 240 == kind

-- a record ends at the next multiple of 8, and a switch (XLOG_SWITCH) at the end of its segment
unfoldable pub end_after : ℕ → RecordHead → ℕ → ℕ
end_after segsize head behind =
    if is_kind 0 64 head then rounded_up segsize (rounded_up 8 behind) else rounded_up 8 behind

-- the length of the record whose first byte stands here, with the bytes that say so and the position behind them
unfoldable pub begun : Told → ℕ → Result (ℕ × (List ℕ × ℕ)) Halt
begun told start =
    gathered told None 4 start
    >>= λ four. length_in four.0
    >>= λ total. Ok (total, four)

-- its length and its header, which is tested as soon as it is there
unfoldable pub headed : Told → ℕ → PrevRule → Result (ℕ × (List ℕ × ℕ)) Halt
headed told start prev =
    begun told start
    >>= λ four. gathered told (Some (four.0 - 4)) 20 four.1.1
    >>= λ twenty. unless_faulty (head_of (four.1.0 ++ twenty.0) start prev)
    >>= λ head. Ok (four.0, (four.1.0 ++ twenty.0, twenty.1))

-- The record whose first byte stands here. Its length is read first, then its header, then the rest;
-- each is tested as soon as it is there.
unfoldable pub attempt : Told → ℕ → PrevRule → Result Entry Halt
attempt told start prev =
    headed told start prev
    >>= λ head. gathered told (Some (head.0 - 24)) (head.0 - 24) head.1.1
    >>= λ rest. unless_faulty (decoded (head.1.0 ++ rest.0) start prev)
    >>= λ record_. Ok (record { start = start; end = end_after told.segsize record_.head rest.1; record_ = record_ })

-- the record says that the one that began at a position was given up (XLOG_OVERWRITE_CONTRECORD)
abbrev pub overwrites : ℕ → Record → Bool
overwrites begun record_ = is_kind 0 208 record_.head && nat_le 8 (length record_.main) && number_at 8 record_.main 0 == begun

-- what stands in the place of a record that was given up
abbrev pub in_place_of : ℕ → Result Entry Halt → Result Entry NoRecord
in_place_of begun (Ok entry) = if overwrites begun entry.record_ then Ok entry else Err (End why.Layout)
in_place_of begun (Err (Stops (End rule))) = Err (End rule)
in_place_of begun (Err (Stops Compressed)) = Err (End why.Layout)
in_place_of begun (Err (Stops TooLong)) = Err (End why.Layout)
in_place_of begun (Err (GivesUp place)) = Err (End why.Layout)

-- where a record is given up, the one behind the page's header is read, after the same record before it
abbrev pub unless_given_up : Told → ℕ → PrevRule → Result Entry Halt → Result Entry NoRecord
unless_given_up told start prev (Ok entry) = Ok entry
unless_given_up told start prev (Err (Stops stop)) = Err stop
unless_given_up told start prev (Err (GivesUp place)) = in_place_of start (attempt told place prev)

abbrev pub begun_at : Told → PrevRule → Result ℕ Halt → Result Entry NoRecord
begun_at told prev (Ok start) = unless_given_up told start prev (attempt told start prev)
begun_at told prev (Err (Stops stop)) = Err stop
begun_at told prev (Err (GivesUp place)) = Err (End why.Layout)

-- The record at a position, behind a page's header where the position is a page's start, after the
-- record that the rule names; or the first rule that fails, in their order.
unfoldable pub step : Told → ℕ → PrevRule → Result Entry NoRecord
step told at prev = begun_at told prev (place_at told None at)
