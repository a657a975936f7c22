-- The typed form of a record, or why it is refused.
use Rattle.std.specs.Prelude.{ℕ, ◌==◌, Bool, ◌||◌, bit_and, nat_le, List, [], Result, Ok, Err, if◌then◌else◌}
use Rattle.std.specs.List.{list_any}
use Rattle.pg_types.specs.declared.names.Locator.{Locator}
use Rattle.pg_types.specs.declared.names.Lsn.{Lsn}
use Rattle.pg_types.specs.declared.names.Xid.{Xid}
use Rattle.wal_record.specs.declared.types.RecordHead.{RecordHead}
use Rattle.wal_record.specs.Record.{Record}
use Rattle.typed_records.specs.declared.types.BodyFault.{BodyFault}
use Rattle.typed_records.specs.declared.types.BodyFault.TheVariants.{Unsupported}
use Rattle.typed_records.specs.declared.types.What.TheVariants.{Epoch}
use Rattle.typed_records.specs.declared.types.NewTuple.{NewTuple}
use Rattle.typed_records.specs.declared.types.RecBlock.{RecBlock}
use Rattle.typed_records.specs.declared.types.Rec.{Rec}
use Rattle.typed_records.specs.declared.types.RecKind.{RecKind}
use Rattle.typed_records.specs.declared.types.RecKind.TheVariants.{Checkpoint, BackupEnd, Parameters, FullPageWrites, Images, Overwrite, Ended, Assignment, Running, Insert, Delete, Update, Confirm, Lock, MultiInsert, LockUpdated, Prune, Vacuum, Freeze, Visible, Truncate, Locks, Multixact, Other}
use Rattle.typed_records.specs.Blocks.{blocks_from, blocks_of}
use Rattle.wal_bodies.specs.Fields.{◌>>=◌}
use Rattle.wal_bodies.specs.Kinds.{kind_of}
use Rattle.wal_bodies.specs.Tuples.{tuples_of}

-- redo of this kind changes blocks whose id is below this number
unfoldable pub ids_of : RecKind → ℕ
ids_of (Checkpoint redo timeline previous writes next multi member oldest active) = 0
ids_of (BackupEnd start) = 0
ids_of (Parameters connections processes senders prepared locks level) = 0
ids_of (FullPageWrites on) = 0
ids_of Images = 33
ids_of (Overwrite given_up time) = 0
ids_of (Ended time xinfo xids files) = 0
ids_of (Assignment top xids) = 0
ids_of (Running tops subs overflow next oldest latest xids) = 0
ids_of (Insert line flags) = 1
ids_of (Delete xmax line bits flags) = 1
ids_of (Update old_xmax old_line old_bits flags new_xmax new_line) = 2
ids_of (Confirm line) = 1
ids_of (Lock xmax line bits flags) = 1
ids_of (MultiInsert flags lines) = 1
ids_of (LockUpdated xmax line bits flags) = 1
ids_of (Prune horizon catalogue redirected died freed) = 1
ids_of (Vacuum freed) = 1
ids_of (Freeze horizon catalogue plans) = 1
ids_of (Visible horizon flags) = 2
ids_of (Truncate block locator flags) = 0
ids_of (Locks entries) = 0
ids_of (Multixact id offset members) = 0
ids_of Other = 0

-- the blocks of a record of this kind; a visibility record has the heap's block as block 1
unfoldable pub blocks_as : RecKind → List NewTuple → Record → List RecBlock
blocks_as (Visible horizon flags) tuples rec = blocks_from rec 1 1
blocks_as kind tuples rec = blocks_of (ids_of kind) tuples rec

-- of a record that ends a transaction: it is a commit, and not an abort (XLOG_XACT_OPMASK, xact.h)
abbrev pub is_commit : RecordHead → Bool
is_commit head = bit_and head.info 0x70 == 0x00

-- the greatest transaction id, which ends the first epoch, or one past it
abbrev pub is_last : Xid → Bool
is_last xid = nat_le 4294967295 xid.0

-- the transactions that a record of this kind lists as ended, or as assigned to another
abbrev pub listed_in : RecKind → List Xid
listed_in (Checkpoint redo timeline previous writes next multi member oldest active) = []
listed_in (BackupEnd start) = []
listed_in (Parameters connections processes senders prepared locks level) = []
listed_in (FullPageWrites on) = []
listed_in Images = []
listed_in (Overwrite given_up time) = []
listed_in (Ended time xinfo xids files) = xids
listed_in (Assignment top xids) = xids
listed_in (Running tops subs overflow next oldest latest xids) = []
listed_in (Insert line flags) = []
listed_in (Delete xmax line bits flags) = []
listed_in (Update old_xmax old_line old_bits flags new_xmax new_line) = []
listed_in (Confirm line) = []
listed_in (Lock xmax line bits flags) = []
listed_in (MultiInsert flags lines) = []
listed_in (LockUpdated xmax line bits flags) = []
listed_in (Prune horizon catalogue redirected died freed) = []
listed_in (Vacuum freed) = []
listed_in (Freeze horizon catalogue plans) = []
listed_in (Visible horizon flags) = []
listed_in (Truncate block locator flags) = []
listed_in (Locks entries) = []
listed_in (Multixact id offset members) = []
listed_in Other = []

-- the record names the last transaction id in its header, or in a list of ended or assigned ones
abbrev pub names_last : RecordHead → RecKind → Bool
names_last head kind = is_last head.xid || list_any is_last (listed_in kind)

-- what is read of a record, for the described database and the described tables
unfoldable pub read_as : Record → ℕ → List Locator → Result (RecKind × List RecBlock) BodyFault
read_as rec database known = do
  kind ← kind_of rec database known
  tuples ← tuples_of kind rec
  if names_last rec.head kind then Err (Unsupported Epoch)
      else Ok (kind, blocks_as kind tuples rec)

abbrev pub formed : RecordHead → Lsn → Lsn → Result (RecKind × List RecBlock) BodyFault → Result Rec BodyFault
formed head start end (Ok x) = Ok (record { head = head; start = start; end = end; kind = x.0; blocks = x.1 })
formed head start end (Err fault) = Err fault

-- The typed form of a record that begins and ends at these positions, or the one answer why it has none.
unfoldable pub typed : Record → Lsn → Lsn → ℕ → List Locator → Result Rec BodyFault
typed rec start end database known = formed rec.head start end (read_as rec database known)
