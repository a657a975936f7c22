-- What the main data of a record says, by its resource manager (rmgrlist.h) and its info.
use Rattle.std.specs.Prelude.{ℕ, ℤ, ◌+◌, ◌*◌, ◌==◌, not, ◌&&◌, ◌||◌, bit_and, nat_lt, nat_le, List, [], length, drop, slice_index, Result, Ok, Err, if◌then◌else◌}
use Rattle.std.specs.Int.{cast_signed, w32, w64}
use Rattle.pg_types.specs.Numbers.{number_at, has_bits}
use Rattle.pg_types.specs.declared.names.Locator.{Locator}
use Rattle.pg_types.specs.declared.names.Xid.{Xid}
use Rattle.wal_record.specs.Record.{Record}
use Rattle.typed_records.specs.declared.types.BodyFault.{BodyFault}
use Rattle.typed_records.specs.declared.types.BodyFault.TheVariants.{Length, Unsupported}
use Rattle.typed_records.specs.declared.types.What.TheVariants.{Prepared, Minimal, PageWrites, Database, Epoch, NotYet}
use Rattle.typed_records.specs.declared.types.RecKind.{RecKind}
use Rattle.typed_records.specs.declared.types.RecKind.TheVariants.{Checkpoint, BackupEnd, Parameters, FullPageWrites, Images, Overwrite, Ended, Assignment, Running, Truncate, Locks, Multixact, Other}
use Rattle.wal_bodies.specs.Fields.{◌>>=◌, lsn_at, tli_at, xid_at, xids_at, locator_at, locators_at, lock_entries_at, members_at, needed_number, behind}
use Rattle.wal_bodies.specs.HeapKinds.{heap_kind, heap2_kind}

-- A checkpoint (CheckPoint, pg_control.h). Timelines other than the first are not read yet.
unfoldable pub checkpoint : List ℕ → Result RecKind BodyFault
checkpoint main =
    if nat_lt (length main) 88 then Err Length
    else if not ((number_at 4 main 8 == 1) && (number_at 4 main 12 == 1)) then Err (Unsupported NotYet)
    else if slice_index main 16 == 0 then Err (Unsupported PageWrites)
    else if nat_le 4294967296 (number_at 8 main 24) then Err (Unsupported Epoch)
    else Ok (Checkpoint
    (lsn_at main 0) (tli_at main 8) (tli_at main 12) (not (slice_index main 16 == 0))
    (record { 0 = number_at 8 main 24 })
    (number_at 4 main 36) (number_at 4 main 40) (number_at 4 main 52) (xid_at main 80))

-- the end of a base backup, by the position where it began
unfoldable pub backup_end : List ℕ → Result RecKind BodyFault
backup_end main = if nat_lt (length main) 8 then Err Length else Ok (BackupEnd (lsn_at main 0))

-- the server's parameters (xl_parameter_change, xlog_internal.h)
unfoldable pub parameters : List ℕ → Result RecKind BodyFault
parameters main =
    if nat_lt (length main) 24 then Err Length
    else if number_at 4 main 20 == 0 then Err (Unsupported Minimal)
    else Ok (Parameters
    (cast_signed w32 (number_at 4 main 0)) (cast_signed w32 (number_at 4 main 4))
    (cast_signed w32 (number_at 4 main 8)) (cast_signed w32 (number_at 4 main 12))
    (cast_signed w32 (number_at 4 main 16)) (cast_signed w32 (number_at 4 main 20)))

-- full page writes, turned on or off
unfoldable pub page_writes : List ℕ → Result RecKind BodyFault
page_writes main =
    if nat_lt (length main) 1 then Err Length
    else if slice_index main 0 == 0 then Err (Unsupported PageWrites)
    else Ok (FullPageWrites (not (slice_index main 0 == 0)))

-- a record that was begun and given up (xl_overwrite_contrecord)
unfoldable pub overwrite : List ℕ → Result RecKind BodyFault
overwrite main =
    if nat_lt (length main) 16 then Err Length
    else Ok (Overwrite (lsn_at main 0) (cast_signed w64 (number_at 8 main 8)))

-- manager 0, the log's own records (pg_control.h)
unfoldable pub xlog_kind : ℕ → List ℕ → Result RecKind BodyFault
xlog_kind info main =
    if (info == 0x00) || (info == 0x10) then checkpoint main
    else if info == 0x50 then backup_end main
    else if info == 0x60 then parameters main
    else if info == 0x80 then page_writes main
    else if info == 0x90 then Err (Unsupported NotYet)
    else if (info == 0xA0) || (info == 0xB0) then Ok Images
    else if info == 0xD0 then overwrite main
    else Ok Other

-- xinfo, which is there with info bit 0x80 (XLOG_XACT_HAS_INFO)
unfoldable pub xinfo_from : ℕ → List ℕ → Result (ℕ × List ℕ) BodyFault
xinfo_from info text = if has_bits info 0x80 then needed_number 4 text else Ok (0, text)

-- the database and its tablespace, which are there with xinfo bit 0 (XACT_XINFO_HAS_DBINFO)
unfoldable pub behind_database : ℕ → List ℕ → Result (List ℕ) BodyFault
behind_database xinfo text = if has_bits xinfo 1 then behind 8 text else Ok text

-- a count of four bytes, which is not below 0, and what stands behind it
unfoldable pub count_from : List ℕ → Result (ℕ × List ℕ) BodyFault
count_from text = do
  count ← needed_number 4 text
  if nat_le 2147483648 count.0 then Err Length else Ok count

-- a count, as many transaction ids, and what stands behind them
unfoldable pub counted_xids : List ℕ → Result (List Xid × List ℕ) BodyFault
counted_xids text = do
  count ← count_from text
  if nat_lt (length count.1) (4 * count.0) then Err Length
      else Ok (xids_at count.1 0 count.0, drop (4 * count.0) count.1)

-- the subtransactions, which are there with xinfo bit 1 (XACT_XINFO_HAS_SUBXACTS)
unfoldable pub subs_from : ℕ → List ℕ → Result (List Xid × List ℕ) BodyFault
subs_from xinfo text = if has_bits xinfo 2 then counted_xids text else Ok ([], text)

-- a count, and as many files
unfoldable pub counted_files : List ℕ → Result (List Locator) BodyFault
counted_files text = do
  count ← count_from text
  if nat_lt (length count.1) (12 * count.0) then Err Length else Ok (locators_at count.1 0 count.0)

-- the files that are dropped, which are there with xinfo bit 2 (XACT_XINFO_HAS_RELFILELOCATORS)
unfoldable pub files_from : ℕ → List ℕ → Result (List Locator) BodyFault
files_from xinfo text = if has_bits xinfo 4 then counted_files text else Ok []

-- what stands behind xinfo: subtransactions and dropped files; the rest is not read
unfoldable pub parts_by : ℕ → List ℕ → Result (List Xid × List Locator) BodyFault
parts_by xinfo text = do
  rest ← behind_database xinfo text
  subs ← subs_from xinfo rest
  files ← files_from xinfo subs.1
  Ok (subs.0, files)

-- a time of eight bytes (TimestampTz), and what stands behind it
unfoldable pub time_from : List ℕ → Result (ℤ × List ℕ) BodyFault
time_from text = do
  time ← needed_number 8 text
  Ok (cast_signed w64 time.0, time.1)

-- the end of a transaction (xl_xact_commit, xl_xact_abort, xact.h)
unfoldable pub ended : ℕ → List ℕ → Result RecKind BodyFault
ended info main = do
  time ← time_from main
  xinfo ← xinfo_from info time.1
  parts ← parts_by xinfo.0 xinfo.1
  Ok (Ended time.0 xinfo.0 parts.0 parts.1)

-- subtransactions that are assigned to a top-level transaction (xl_xact_assignment, xact.h)
unfoldable pub assignment : List ℕ → Result RecKind BodyFault
assignment main = do
  top ← needed_number 4 main
  subs ← counted_xids top.1
  Ok (Assignment (record { 0 = top.0 }) subs.0)

-- manager 1, transactions (xact.h, XLOG_XACT_OPMASK): two-phase commit is not supported
unfoldable pub xact_kind : ℕ → List ℕ → Result RecKind BodyFault
xact_kind info main =
    if (bit_and info 0x70 == 0x00) || (bit_and info 0x70 == 0x20) then ended info main
    else if bit_and info 0x70 == 0x50 then assignment main
    else if (bit_and info 0x70 == 0x10) || (bit_and info 0x70 == 0x30) || (bit_and info 0x70 == 0x40)
    then Err (Unsupported Prepared)
    else Ok Other

-- The transactions that are running (xl_running_xacts, standbydefs.h). Their number is that of the
-- top-level ones and the subtransactions.
unfoldable pub running : List ℕ → Result RecKind BodyFault
running main =
    if nat_lt (length main) 24 then Err Length
    else if nat_le 2147483648 (number_at 4 main 0) || nat_le 2147483648 (number_at 4 main 4) then Err Length
    else if nat_lt (length main) (24 + 4 * (number_at 4 main 0 + number_at 4 main 4)) then Err Length
    else Ok (Running
    (number_at 4 main 0) (number_at 4 main 4) (not (slice_index main 8 == 0))
    (xid_at main 12) (xid_at main 16) (xid_at main 20)
    (xids_at main 24 (number_at 4 main 0 + number_at 4 main 4)))

-- manager 4, databases (dbcommands_xlog.h): a copy (0x00) or a drop (0x20) of the described one
unfoldable pub database_kind : ℕ → ℕ → List ℕ → Result RecKind BodyFault
database_kind database info main =
    if not ((info == 0x00) || (info == 0x20)) then Ok Other
    else if nat_lt (length main) 4 then Err Length
    else if number_at 4 main 0 == database then Err (Unsupported Database)
    else Ok Other

-- manager 2, storage (storage_xlog.h): a file is cut to so many blocks (0x20), unless the heap's own part stays
-- (SMGR_TRUNCATE_HEAP)
unfoldable pub storage_kind : ℕ → List ℕ → Result RecKind BodyFault
storage_kind info main =
    if not (info == 0x20) then Ok Other
    else if nat_lt (length main) 20 then Err Length
    else if has_bits (number_at 4 main 16) 1
    then Ok (Truncate (number_at 4 main 0) (locator_at main 4) (cast_signed w32 (number_at 4 main 16)))
    else Ok Other

-- access exclusive locks that transactions hold (xl_standby_locks, standbydefs.h)
unfoldable pub locks : List ℕ → Result RecKind BodyFault
locks main = do
  count ← count_from main
  if nat_lt (length count.1) (12 * count.0) then Err Length else Ok (Locks (lock_entries_at count.1 0 count.0))

-- manager 8, standby
unfoldable pub standby_kind : ℕ → List ℕ → Result RecKind BodyFault
standby_kind info main =
    if info == 0x00 then locks main
    else if info == 0x10 then running main
    else Ok Other

-- a multixact that is made, with its members (xl_multixact_create, multixact.h)
unfoldable pub multixact : List ℕ → Result RecKind BodyFault
multixact main =
    if nat_lt (length main) 12 then Err Length
    else if nat_le 2147483648 (number_at 4 main 8) then Err Length
    else if nat_lt (length main) (12 + 8 * number_at 4 main 8) then Err Length
    else Ok (Multixact (number_at 4 main 0) (number_at 4 main 4) (members_at main 12 (number_at 4 main 8)))

-- manager 6, multixacts (multixact.h): one is made (XLOG_MULTIXACT_CREATE_ID)
unfoldable pub multixact_kind : ℕ → List ℕ → Result RecKind BodyFault
multixact_kind info main = if info == 0x20 then multixact main else Ok Other

-- The kind of a record. The low four bits of the info are the log's own (XLR_INFO_MASK, xlogrecord.h),
-- and heap records and ends of transactions have a mark in the highest one.
unfoldable pub kind_of : Record → ℕ → List Locator → Result RecKind BodyFault
kind_of rec database known =
    if rec.head.manager == 0 then xlog_kind (bit_and rec.head.info 0xF0) rec.main
    else if rec.head.manager == 1 then xact_kind rec.head.info rec.main
    else if rec.head.manager == 2 then storage_kind (bit_and rec.head.info 0xF0) rec.main
    else if rec.head.manager == 4 then database_kind database (bit_and rec.head.info 0xF0) rec.main
    else if rec.head.manager == 6 then multixact_kind (bit_and rec.head.info 0xF0) rec.main
    else if rec.head.manager == 8 then standby_kind (bit_and rec.head.info 0xF0) rec.main
    else if rec.head.manager == 9 then heap2_kind rec
    else if rec.head.manager == 10 then heap_kind rec known
    else Ok Other
