-- What a primary keeps to in each step on a table's rows: how versions are born, how their deleters change, how they
-- are removed and frozen, and which multixacts they name. Each rule speaks of one step, after the records before it
-- (`older`) and over the versions `vs` that the steps before it left.
-- Sources: heapam.c (heap_insert, heap_delete, heap_update, heap_lock_tuple, heap_abort_speculative,
-- heap_prepare_freeze_tuple), pruneheap.c (heap_prune_chain), heapam_visibility.c (HeapTupleSatisfiesVacuum).
use Rattle.std.specs.Prelude.{◌≡◌, ◌⊎◌, ℕ, ◌≤◌, Bool, true, false, List, [], ◌∷◌, Option, Some, None}
use Rattle.pg_types.specs.declared.names.Locator.{Locator}
use Rattle.typed_records.specs.declared.types.Rec.{Rec}
use Rattle.typed_records.specs.declared.types.RecKind.{RecKind}
use Rattle.typed_records.specs.declared.types.RecKind.TheVariants.{Prune, Freeze}
use Rattle.heap_redo.specs.TupleHeads.{head_bytes, head_of}
use Rattle.pg_types.specs.Numbers.{has_bits}
use Rattle.heap_tuple.specs.Tuple.{xmin_of, infomask_of, max_of}
use Rattle.heap_tuple.specs.declared.tuple_view.MaxOf.{MaxOf}
use Rattle.heap_page.specs.Put.{with_head}
use Rattle.tuple_visibility.specs.Visible.{xmin_marks}
use Rattle.transaction_model.specs.Transactions.{Statuses, TransactionRecord, Live, commits}
use Rattle.xact_redo.specs.TransactionsOf.{transactions_of}
use Rattle.row_model.specs.Versions.{Version, Inserter, Nobody, Always, By, FreezePlan, RowStep, Born, Deleter, Undone, Removed, Frozen, deleter_of_plan, freezes, frozen_by, is_frozen, version_at, with_step}
use Rattle.row_model.specs.Origins.{LogOrigin, HasFailed, IsLive, IsSameTree, committed_in}
use Rattle.row_model.specs.Multixacts.{WasMade, deleter_in}
use Rattle.row_model.specs.Locks.{UnderLock}
use Rattle.row_model.specs.RowSteps.{block_count, steps_of, versions}
use Rattle.row_model.specs.Rows.{counts}
use Rattle.row_model.specs.Shows.{Shows}

-- each step keeps a rule after those before it
abbrev pub EachStep : (List Version → RowStep → Type 0) → List Version → List RowStep → Type 0
EachStep Rule vs [] = Unit {0}
EachStep Rule vs (step ∷ steps) = Rule vs step × EachStep Rule (with_step vs step) steps

-- the steps of a record on a table keep it
abbrev pub KeepsTo : (List Version → RowStep → Type 0) → LogOrigin → Locator → List Rec → Rec → Type 0
KeepsTo Rule o table older rec =
    EachStep Rule (versions o table older) (steps_of rec table (block_count o table older) (versions o table older))

-- a rule of the version at a place, if one stands there
abbrev pub IfVersion : Option Version → (Version → Type 0) → Type 0
IfVersion None Rule = Unit {0}
IfVersion (Some v) Rule = Rule v

-- a deleter that never counts: none, or a transaction that failed
abbrev pub IsSpent : LogOrigin → List Rec → Option ℕ → Type 0
IsSpent o older None = Unit {0}
IsSpent o older (Some x) = HasFailed o older x

-- Births.

-- the marks of the inserter of a tuple that is born: none, or frozen under a lock of its own transaction
pub data BirthMarks (o : LogOrigin) (table : Locator) (older : List Rec) (tuple : List ℕ) : Type 0 where
  Unmarked : xmin_marks tuple ≡ 0 → BirthMarks o table older tuple
  BornFrozen : is_frozen tuple ≡ true → UnderLock o table older (xmin_of tuple) → BirthMarks o table older tuple

-- a tuple is born at a free line by a live transaction; its inserter bears no mark but frozen, its deleter none that it
-- committed; outside a page that was written whole it shows no deleter, or one that never counts
pub record BirthRule (o : LogOrigin) (table : Locator) (older : List Rec) (vs : List Version) (whole : Bool) (block line : ℕ) (tuple : List ℕ) : Type 0 where
  pub free : version_at block line vs ≡ None
  pub live : IsLive o older (xmin_of tuple)
  pub inserter : BirthMarks o table older tuple
  pub unmarked : has_bits (infomask_of tuple) 0x0400 ≡ false
  pub spent : whole ≡ false → IsSpent o older (deleter_in older (max_of tuple))

abbrev pub BirthStep : LogOrigin → Locator → List Rec → List Version → RowStep → Type 0
BirthStep o table older vs (Born whole block line tuple) = BirthRule o table older vs whole block line tuple
BirthStep o table older vs (Deleter block line d) = Unit {0}
BirthStep o table older vs (Undone block line) = Unit {0}
BirthStep o table older vs (Removed block line) = Unit {0}
BirthStep o table older vs (Frozen block line plan) = Unit {0}

-- Deleters.

-- a transaction may delete what was inserted by one that committed, or by its own tree
abbrev pub MayDelete : LogOrigin → List Rec → Inserter → ℕ → Type 0
MayDelete o older Nobody x = ⊥
MayDelete o older Always x = Unit {0}
MayDelete o older (By y) x = (committed_in o older y ≡ true) ⊎ IsSameTree o y x

-- how a version's deleter may change: it stays the same transaction; a live one takes the place of none or of one that
-- failed; one that failed is dropped, or replaced by another that did
pub data MayFollow (o : LogOrigin) (older : List Rec) (v : Version) (now : MaxOf) : Type 0 where
  Stays : deleter_in older now ≡ deleter_in older v.deleter → MayFollow o older v now
  Takes : (x : ℕ) → deleter_in older now ≡ Some x → IsLive o older x → IsSpent o older (deleter_in older v.deleter) → MayDelete o older v.inserter x → MayFollow o older v now
  Fades : IsSpent o older (deleter_in older v.deleter) → IsSpent o older (deleter_in older now) → MayFollow o older v now

-- an insertion is taken back by its own transaction, while that is live
abbrev pub MayUndo : LogOrigin → List Rec → Version → Type 0
MayUndo o older v = (x : ℕ) × (v.inserter ≡ By x) × IsLive o older x

abbrev pub DeleterStep : LogOrigin → List Rec → List Version → RowStep → Type 0
DeleterStep o older vs (Born whole block line tuple) = Unit {0}
DeleterStep o older vs (Deleter block line d) = IfVersion (version_at block line vs) (λ v. MayFollow o older v d)
DeleterStep o older vs (Undone block line) = IfVersion (version_at block line vs) (MayUndo o older)
DeleterStep o older vs (Removed block line) = Unit {0}
DeleterStep o older vs (Frozen block line plan) =
    IfVersion (version_at block line vs) (λ v. MayFollow o older v (deleter_of_plan plan))

-- Removals and freezing: XLOG_HEAP2_PRUNE, XLOG_HEAP2_VACUUM and XLOG_HEAP2_FREEZE_PAGE bring their steps.

-- an id up to a horizon was live as x committed
abbrev pub WasOutlived : Statuses → ℕ → ℕ → List TransactionRecord → Type 0
WasOutlived s horizon x [] = ⊥
WasOutlived s horizon x (r ∷ older) =
    ((commits x r.xid r.kind ≡ true) × ((y : ℕ) × (y ≤ horizon) × Live s y older)) ⊎ WasOutlived s horizon x older

-- the record's horizon covers a transaction: no snapshot that does not conflict with it still misses its commit
pub data Covers (o : LogOrigin) (older : List Rec) (horizon x : ℕ) : Type 0 where
  AtLeast : x ≤ horizon → Covers o older horizon x
  Outlived : WasOutlived o.transactions.at horizon x (transactions_of older) → Covers o older horizon x

-- a version may be removed where its insertion was taken back, its inserter failed, or its deleter committed; the
-- horizon covers a deleter of another tree than an inserter that counts
pub data MayBeRemoved (o : LogOrigin) (older : List Rec) (horizon : ℕ) (v : Version) : Type 0 where
  WasUndone : v.inserter ≡ Nobody → MayBeRemoved o older horizon v
  NeverCommitted : (x : ℕ) → v.inserter ≡ By x → HasFailed o older x → MayBeRemoved o older horizon v
  OwnDeleted : (x y : ℕ) → v.inserter ≡ By x → deleter_in older v.deleter ≡ Some y → committed_in o older y ≡ true → IsSameTree o x y → MayBeRemoved o older horizon v
  WasDeleted : (y : ℕ) → deleter_in older v.deleter ≡ Some y → committed_in o older y ≡ true → (counts (committed_in o older) v.inserter ≡ true → Covers o older horizon y) → MayBeRemoved o older horizon v

-- the xmin that a version's tuple shows: none, where its insertion was taken back
abbrev pub shown_xmin : Inserter → ℕ → ℕ
shown_xmin Nobody xmin = 0
shown_xmin Always xmin = xmin
shown_xmin (By x) xmin = xmin

-- the version's tuple with the plan
unfoldable pub planned : FreezePlan → Version → List ℕ
planned plan v =
    with_head v.tuple (head_bytes (record (head_of v.tuple) {
      xmin = shown_xmin v.inserter (xmin_of v.tuple);
      xmax = plan.xmax;
      mask2 = plan.mask2;
      mask = plan.mask;
    }))

-- a freeze keeps what the tuple shows of the version, with true marks; a frozen one stays so, and the inserter of one
-- that is frozen newly has committed and is covered
pub record PlanRule (o : LogOrigin) (older : List Rec) (horizon : ℕ) (plan : FreezePlan) (v : Version) : Type 0 where
  pub shows : Shows o older (frozen_by plan v) (planned plan v)
  pub stays : v.frozen ≡ true → freezes plan ≡ true
  pub covered : v.frozen ≡ false → freezes plan ≡ true → (x : ℕ) × (v.inserter ≡ By x) × (committed_in o older x ≡ true) × Covers o older horizon x

-- the horizon up to which a record of this kind removes or freezes (snapshotConflictHorizon, heapam_xlog.h)
abbrev pub horizon_of : RecKind → ℕ
horizon_of (Prune horizon catalogue redirected died freed) = horizon.0
horizon_of (Freeze horizon catalogue plans) = horizon.0
horizon_of kind = 0

abbrev pub RemovalStep : LogOrigin → List Rec → ℕ → List Version → RowStep → Type 0
RemovalStep o older horizon vs (Born whole block line tuple) = Unit {0}
RemovalStep o older horizon vs (Deleter block line d) = Unit {0}
RemovalStep o older horizon vs (Undone block line) = Unit {0}
RemovalStep o older horizon vs (Removed block line) = IfVersion (version_at block line vs) (MayBeRemoved o older horizon)
RemovalStep o older horizon vs (Frozen block line plan) = IfVersion (version_at block line vs) (PlanRule o older horizon plan)

-- Multixacts: one that a tuple shows as its deleter was made before.
abbrev pub MultixactStep : List Rec → List Version → RowStep → Type 0
MultixactStep older vs (Born whole block line tuple) = WasMade older (max_of tuple)
MultixactStep older vs (Deleter block line d) = WasMade older d
MultixactStep older vs (Undone block line) = Unit {0}
MultixactStep older vs (Removed block line) = Unit {0}
MultixactStep older vs (Frozen block line plan) = WasMade older (deleter_of_plan plan)
