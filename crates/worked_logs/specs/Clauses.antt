-- The clauses of the legal log, one by one.
-- Source: the rules of row_model and transaction_model.
use Rattle.std.specs.Prelude.{◌≡◌, ℕ, true, List, [], ◌∷◌, All, Ok}
use Rattle.pg_types.specs.declared.names.Locator.{Locator}
use Rattle.typed_records.specs.declared.types.Rec.{Rec}
use Rattle.page_store.specs.Seen.{View}
use Rattle.transaction_model.specs.LegalTransactions.{Legal}
use Rattle.xact_redo.specs.TransactionsOf.{kind_of, transactions_of}
use Rattle.row_model.specs.Origins.{LogOrigin}
use Rattle.row_model.specs.RowSteps.{cut_of, versions, view_after}
use Rattle.row_model.specs.LegalSteps.{BirthStep, DeleterStep, KeepsTo, MultixactStep, RemovalStep, horizon_of}
use Rattle.row_model.specs.LegalRows.{BlocksRule, CheckpointRule, CutRule, LegalLog, LockRule, MakesMultixacts, are_apart, is_redo, is_redo_own, renews_first}

-- of a table: how versions are born, get deleters and are removed; what a truncation takes; blocks that are restored or
-- made anew; its locks, and those that a checkpoint writes again; the multixacts that its tuples name; images after a redo
-- position. Of the records: blocks that are apart, the redo of a shutdown checkpoint, transactions, new multixacts, and
-- redo that is not refused
pub data Clause : Type 0 where
  Births : Clause
  Deleters : Clause
  Removals : Clause
  Cut : Clause
  Blocks : Clause
  Locks : Clause
  CheckpointLocks : Clause
  Multixacts : Clause
  Renews : Clause
  Apart : Clause
  Shutdowns : Clause
  Transactions : Clause
  NewMultixacts : Clause
  Redone : Clause

-- a rule of each record after the older ones
abbrev pub Along : (List Rec → Rec → Type 0) → List Rec → Type 0
Along Rule [] = Unit {0}
Along Rule (rec ∷ older) = Rule older rec × Along Rule older

-- redo of the log meets no refusal
abbrev pub IsRedone : LogOrigin → Locator → List Rec → Type 0
IsRedone o table log = (view : View) × (view_after o (table ∷ []) log ≡ Ok view)

-- a log of one described table keeps a clause
abbrev pub Keeps : Clause → LogOrigin → Locator → List Rec → Type 0
Keeps Births o table log = Along (λ older rec. KeepsTo (BirthStep o table older) o table older rec) log
Keeps Deleters o table log = Along (λ older rec. KeepsTo (DeleterStep o older) o table older rec) log
Keeps Removals o table log = Along (λ older rec. KeepsTo (RemovalStep o older (horizon_of rec.kind)) o table older rec) log
Keeps Cut o table log = Along (λ older rec. CutRule (cut_of table rec.kind) (versions o table (rec ∷ older))) log
Keeps Blocks o table log =
    Along (λ older rec. BlocksRule o table older (versions o table older) (versions o table (rec ∷ older)) rec.blocks) log
Keeps Locks o table log = Along (λ older rec. LockRule o table older rec) log
Keeps CheckpointLocks o table log = Along (λ older rec. CheckpointRule o table older (kind_of rec.head rec.kind)) log
Keeps Multixacts o table log = Along (λ older rec. KeepsTo (MultixactStep older) o table older rec) log
Keeps Renews o table log = (redo : ℕ) → is_redo log redo ≡ true → renews_first table redo log ≡ true
Keeps Apart o table log = All (λ (rec : Rec). are_apart rec.blocks ≡ true) log
Keeps Shutdowns o table log = All (λ (rec : Rec). is_redo_own rec ≡ true) log
Keeps Transactions o table log = Legal o.transactions (transactions_of log)
Keeps NewMultixacts o table log = MakesMultixacts log
Keeps Redone o table log = IsRedone o table log

-- a legal log keeps each clause
abbrev pub LegalKeeps : Type 0
LegalKeeps =
    (o : LogOrigin) (table : Locator) (log : List Rec) → LegalLog o (table ∷ []) log → (clause : Clause)
    → Keeps clause o table log

-- and a log that keeps each is legal: there are no further clauses
abbrev pub KeepingIsLegal : Type 0
KeepingIsLegal =
    (o : LogOrigin) (table : Locator) (log : List Rec) → ((clause : Clause) → Keeps clause o table log)
    → LegalLog o (table ∷ []) log
