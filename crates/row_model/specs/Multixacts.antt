-- The multixacts of a log, and which transaction a deleter stands for.
-- Sources: multixact.c, heapam.c (MultiXactIdGetUpdateXid).
use Rattle.std.specs.Prelude.{◌≡◌, ◌≢◌, ℕ, ◌≤◌, List, [], ◌∷◌, filter, length, Option, Some, None}
use Rattle.pg_types.specs.declared.names.Xid.{Xid}
use Rattle.record_fields.specs.declared.members.Member.{Member}
use Rattle.typed_records.specs.declared.types.Rec.{Rec}
use Rattle.typed_records.specs.declared.types.RecKind.{RecKind}
use Rattle.typed_records.specs.declared.types.RecKind.TheVariants.{Multixact}
use Rattle.heap_tuple.specs.declared.tuple_view.MaxOf.{MaxOf}
use Rattle.heap_tuple.specs.declared.tuple_view.MaxOf.TheVariants.{None as NoDeleter, Xid as DeletedBy, Multi}
use Rattle.multixact.specs.Made.{Made, none_made, is_update}
use Rattle.xact_redo.specs.State.{updaters_after}

-- those of a log, the newest record first, that begins with none
unfoldable pub multixacts : List Rec → Made
multixacts [] = none_made
multixacts (rec ∷ older) = updaters_after rec.kind (multixacts older)

-- the updater of a multixact, if it was made and has one
abbrev pub updater_of : Option (Option Xid) → Option ℕ
updater_of None = None
updater_of (Some None) = None
updater_of (Some (Some updater)) = Some updater.0

-- the transaction that a deleter stands for
abbrev pub deleting : Made → MaxOf → Option ℕ
deleting made NoDeleter = None
deleting made (DeletedBy xid) = Some xid.0
deleting made (Multi id) = updater_of (made id)

abbrev pub deleter_in : List Rec → MaxOf → Option ℕ
deleter_in log d = deleting (multixacts log) d

-- a multixact that stands as a deleter was made
abbrev pub WasMade : List Rec → MaxOf → Type 0
WasMade log NoDeleter = Unit {0}
WasMade log (DeletedBy xid) = Unit {0}
WasMade log (Multi id) = (updater : Option Xid) × (multixacts log id ≡ Some updater)

-- a multixact that a record makes: its id, and its members
pub record NewMultixact : Type 0 where
  pub id : ℕ
  pub members : List Member

-- that of a record of this kind: XLOG_MULTIXACT_CREATE_ID makes one
abbrev pub made_by : RecKind → Option NewMultixact
made_by (Multixact id offset members) = Some (record { id = id; members = members })
made_by _ = None

-- the members that update or delete, and do not only lock
abbrev pub updaters_among : List Member → List Member
updaters_among members = filter (λ (m : Member). is_update m.status) members

-- it has an id, is made once, and has one updater at most
pub record NewMultixactRule (older : List Rec) (new : NewMultixact) : Type 0 where
  pub id : new.id ≢ 0
  pub once : multixacts older new.id ≡ None
  pub updater : length (updaters_among new.members) ≤ 1
