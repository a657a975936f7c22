-- The transaction ids that a record bears.
use Rattle.std.specs.Prelude.{◌<◌, ◌^◌, List, [], ◌∷◌, All}
use Rattle.pg_types.specs.declared.names.Xid.{Xid}
use Rattle.wal_record.specs.declared.types.RecordHead.{RecordHead}
use Rattle.typed_records.specs.declared.types.Rec.{Rec}
use Rattle.typed_records.specs.declared.types.RecKind.{RecKind}
use Rattle.typed_records.specs.declared.types.RecKind.TheVariants.{Assignment, Checkpoint, Ended, Running}

-- those of the main data: the ended ones, the assigned ones with their top transaction, those of a running record, and the
-- next one of a checkpoint; deleters that a heap record brings and members of a multixact tell nothing of who runs
abbrev pub kind_xids : RecKind → List Xid
kind_xids (Ended time xinfo xids files) = xids
kind_xids (Assignment top xids) = top ∷ xids
kind_xids (Running tops subs overflow next oldest latest xids) = next ∷ oldest ∷ latest ∷ xids
kind_xids (Checkpoint redo timeline previous writes next multi member oldest active) = next ∷ []
kind_xids _ = []

-- and that of the header
abbrev pub record_xids : RecordHead → RecKind → List Xid
record_xids head kind = head.xid ∷ kind_xids kind

-- an id of 32 bits, as a record has room for (TransactionId, c.h)
abbrev pub IsShort : Xid → Type 0
IsShort x = x.0 < 2 ^ 32

abbrev pub AreXidsShort : Rec → Type 0
AreXidsShort rec = All IsShort (record_xids rec.head rec.kind)
