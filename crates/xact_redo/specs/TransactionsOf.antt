-- What a typed record says of transactions.
-- Sources: xact.c (xact_redo), standby.c (standby_redo), xlog.c (xlog_redo).
use Rattle.std.specs.Prelude.{◌==◌, Bool, List, bit_and, map, if◌then◌else◌}
use Rattle.wal_record.specs.declared.types.RecordHead.{RecordHead}
use Rattle.typed_records.specs.declared.types.Rec.{Rec}
use Rattle.typed_records.specs.declared.types.RecKind.{RecKind}
use Rattle.typed_records.specs.declared.types.RecKind.TheVariants as rec
pub use Rattle.wal_bodies.specs.Typed.{is_commit}
use Rattle.known_assigned.specs.Ids.{numbers}
use Rattle.transaction_model.specs.Transactions.{Kind, Commit, Abort, Assignment, Running, Shutdown, Online, Other, TransactionRecord}

-- of a checkpoint: it was made at shutdown, and not online (XLOG_CHECKPOINT_SHUTDOWN, pg_control.h)
abbrev pub at_shutdown : RecordHead → Bool
at_shutdown head = bit_and head.info 0xF0 == 0x00

-- a commit or an abort, an assignment of subtransactions, the running transactions, a checkpoint at shutdown or online;
-- all other records say nothing but the id of their header
abbrev pub kind_of : RecordHead → RecKind → Kind
kind_of head (rec.Ended time xinfo xids files) = if is_commit head then Commit (numbers xids) else Abort (numbers xids)
kind_of head (rec.Assignment top xids) = Assignment top.0 (numbers xids)
kind_of head (rec.Running tops subs overflow next oldest latest xids) =
    Running (record { overflow = overflow; tops = tops; next = next; oldest = oldest; latest = latest }) (numbers xids)
kind_of head (rec.Checkpoint redo timeline previous writes next multi member oldest active) =
    if at_shutdown head then Shutdown next.0 else Online redo.0 next.0
kind_of head _ = Other

unfoldable pub transaction_of : Rec → TransactionRecord
transaction_of r = record { start = r.start.0; end = r.end.0; xid = r.head.xid.0; kind = kind_of r.head r.kind }

-- the same of a log, the newest record first
abbrev pub transactions_of : List Rec → List TransactionRecord
transactions_of log = map transaction_of log
