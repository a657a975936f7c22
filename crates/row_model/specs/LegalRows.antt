-- What a primary keeps to when it writes its log, record by record and for one timeline: the rules of its records, of
-- transactions, and of each described table's rows, blocks and locks.
-- Sources: heapam.c, heapam_visibility.c (SetHintBits), xloginsert.c (XLogRegisterBuffer, XLogRecordAssemble), xlog.c
-- (CreateCheckPoint), standby.c (LogStandbySnapshot), storage.c (RelationTruncate), multixact.c.
use Rattle.std.specs.Prelude.{◌≡◌, ◌≢◌, ◌⊎◌, ℕ, ◌<◌, Bool, true, false, ◌==◌, not, ◌&&◌, ◌||◌, nat_lt, List, [], ◌∷◌, All, Option, Some, None, Ok, if◌then◌else◌}
use Rattle.std.specs.List.{list_all, list_any}
use Rattle.pg_types.specs.declared.names.Locator.{Locator}
use Rattle.typed_records.specs.declared.types.RecImage.{RecImage}
use Rattle.wal_record.specs.declared.types.RecordHead.{RecordHead}
use Rattle.typed_records.specs.declared.types.RecBlock.{RecBlock}
use Rattle.typed_records.specs.declared.types.Rec.{Rec}
use Rattle.typed_records.specs.declared.types.RecKind.{RecKind}
use Rattle.typed_records.specs.declared.types.RecKind.TheVariants.{Checkpoint}
use Rattle.heap_redo.specs.After.{applied}
use Rattle.page_store.specs.Seen.{View}
use Rattle.heap_redo.specs.Redone.{is_anew, is_left}
use Rattle.transaction_model.specs.Transactions.{Kind, Commit, Abort, Assignment, Running, Shutdown, Online, Other}
use Rattle.transaction_model.specs.LegalTransactions.{Legal}
use Rattle.xact_redo.specs.TransactionsOf.{at_shutdown, kind_of, transactions_of}
use Rattle.row_model.specs.Versions.{Version, version_at}
use Rattle.row_model.specs.Origins.{LogOrigin, IsLive}
use Rattle.row_model.specs.Multixacts.{NewMultixact, NewMultixactRule, made_by}
use Rattle.row_model.specs.Locks.{UnderLock, changes_block, changes_table, drops, is_gone, is_held_by, since, up_to_running}
use Rattle.row_model.specs.RowSteps.{cut_of, items_in, versions, view_after}
use Rattle.row_model.specs.Shows.{ShowsBlock}
use Rattle.row_model.specs.LegalSteps.{BirthStep, DeleterStep, KeepsTo, MultixactStep, RemovalStep, horizon_of}
use Rattle.pg_types.specs.Locators.{same_locator}

-- Blocks.

-- an image that is restored shows the versions after the record, a tuple exactly where there is one; its marks are true
-- before it. So one of a block inside the table brings no version of its own
abbrev pub ImageRule : LogOrigin → List Rec → List Version → ℕ → Option RecImage → Type 0
ImageRule o older after block None = Unit {0}
ImageRule o older after block (Some image) = ShowsBlock o older after block (items_in image)

-- a block that is made anew has no version before the record
abbrev pub AnewRule : List Version → RecBlock → Type 0
AnewRule before block = block.will_init ≡ true → (line : ℕ) → version_at block.block line before ≡ None

-- what the record keeps to in each of these blocks that is the table's, with the versions before and after it
abbrev pub BlocksRule : LogOrigin → Locator → List Rec → List Version → List Version → List RecBlock → Type 0
BlocksRule o table older before after blocks =
    All (λ (block : RecBlock). same_locator table block.locator ≡ true
    → ImageRule o older after block.block (applied block.image) × AnewRule before block) blocks

-- no two of these blocks of a record are one (XLogRegisterBuffer asserts it)
abbrev pub same_block : RecBlock → RecBlock → Bool
same_block a b = same_locator a.locator b.locator && (a.block == b.block)

unfoldable pub are_apart : List RecBlock → Bool
are_apart [] = true
are_apart (a ∷ blocks) = list_all (λ b. not (same_block a b)) blocks && are_apart blocks

-- Images after a redo position (full_page_writes).

-- each block of the table that the record changes and none of these records did is restored from an image or made anew
abbrev pub renews : Locator → List Rec → Rec → Bool
renews table earlier rec =
    list_all (λ (block : RecBlock).
    not (same_locator table block.locator) || is_left rec block || is_anew block
    || list_any (changes_block table block.block) earlier) rec.blocks

-- from a redo position on, the first record that changes a block of the table restores it or makes it anew
unfoldable pub renews_first : Locator → ℕ → List Rec → Bool
renews_first table redo [] = true
renews_first table redo (rec ∷ older) =
    (nat_lt rec.start.0 redo || renews table (since redo older) rec) && renews_first table redo older

-- the redo position of a checkpoint at this start
abbrev pub has_redo : ℕ → ℕ → Kind → Bool
has_redo redo start (Online at next) = at == redo
has_redo redo start (Shutdown next) = start == redo
has_redo redo start (Commit subs) = false
has_redo redo start (Abort subs) = false
has_redo redo start (Assignment top subs) = false
has_redo redo start (Running head xids) = false
has_redo redo start Other = false

-- a redo position of the log: that of one of its checkpoints, or of the origin, at which the log begins; 0 stands for
-- that, as no record starts before it
abbrev pub is_redo : List Rec → ℕ → Bool
is_redo log redo = (redo == 0) || list_any (λ (rec : Rec). has_redo redo rec.start.0 (kind_of rec.head rec.kind)) log

-- Locks.

-- a truncation of the table or a commit that drops it is made under a lock; after that commit no block of it is changed
pub record LockRule (o : LogOrigin) (table : Locator) (older : List Rec) (rec : Rec) : Type 0 where
  pub cut : (blocks : ℕ) → cut_of table rec.kind ≡ Some blocks → UnderLock o table older rec.head.xid.0
  pub drop : drops table rec ≡ true → UnderLock o table older rec.head.xid.0
  pub gone : is_gone table older ≡ true → changes_table table rec ≡ false

-- each lock in force of a live transaction is written again from the redo on, by itself or its top transaction
abbrev pub WritesLocks : LogOrigin → Locator → ℕ → List Rec → Type 0
WritesLocks o table redo log =
    (x : ℕ) → is_held_by o table log x ≡ true → IsLive o log x
    → (is_held_by o table (since redo log) x ≡ true) ⊎ (is_held_by o table (since redo log) (o.transactions.top x) ≡ true)

-- between an online checkpoint's redo and its own record stands a running record, and up to the last one the locks are
-- written again
pub record OnlineLocks (o : LogOrigin) (table : Locator) (redo : ℕ) (older : List Rec) : Type 0 where
  pub running : since redo (up_to_running older) ≢ []
  pub rewritten : WritesLocks o table redo (up_to_running older)

abbrev pub CheckpointRule : LogOrigin → Locator → List Rec → Kind → Type 0
CheckpointRule o table older (Online redo next) = OnlineLocks o table redo older
CheckpointRule o table older (Shutdown next) = Unit {0}
CheckpointRule o table older (Commit subs) = Unit {0}
CheckpointRule o table older (Abort subs) = Unit {0}
CheckpointRule o table older (Assignment top subs) = Unit {0}
CheckpointRule o table older (Running head xids) = Unit {0}
CheckpointRule o table older Other = Unit {0}

-- a truncation takes no block in which a version holds its place
abbrev pub CutRule : Option ℕ → List Version → Type 0
CutRule None after = Unit {0}
CutRule (Some blocks) after = All (λ (v : Version). v.holds ≡ true → v.block < blocks) after

-- The legal log.

-- what a record keeps to in a table, after the older ones
pub record TableRule (o : LogOrigin) (table : Locator) (older : List Rec) (rec : Rec) : Type 0 where
  pub births : KeepsTo (BirthStep o table older) o table older rec
  pub deleters : KeepsTo (DeleterStep o older) o table older rec
  pub removals : KeepsTo (RemovalStep o older (horizon_of rec.kind)) o table older rec
  pub cut : CutRule (cut_of table rec.kind) (versions o table (rec ∷ older))
  pub blocks : BlocksRule o table older (versions o table older) (versions o table (rec ∷ older)) rec.blocks
  pub locks : LockRule o table older rec
  pub checkpoint : CheckpointRule o table older (kind_of rec.head rec.kind)
  pub multixacts : KeepsTo (MultixactStep older) o table older rec

-- the rules of a table along a log, the newest record first
abbrev pub LegalAlong : LogOrigin → Locator → List Rec → Type 0
LegalAlong o table [] = Unit {0}
LegalAlong o table (rec ∷ older) = TableRule o table older rec × LegalAlong o table older

pub record LegalTable (o : LogOrigin) (log : List Rec) (table : Locator) : Type 0 where
  pub along : LegalAlong o table log
  pub renews : (redo : ℕ) → is_redo log redo ≡ true → renews_first table redo log ≡ true

-- a shutdown checkpoint's redo is its own start
abbrev pub is_redo_at : RecordHead → ℕ → RecKind → Bool
is_redo_at head start (Checkpoint redo timeline previous writes next multi member oldest active) =
    if at_shutdown head then redo.0 == start else true
is_redo_at head start _ = true

abbrev pub is_redo_own : Rec → Bool
is_redo_own rec = is_redo_at rec.head rec.start.0 rec.kind

-- the multixact of each record keeps its rule
abbrev pub MakesMultixact : List Rec → Option NewMultixact → Type 0
MakesMultixact older None = Unit {0}
MakesMultixact older (Some new) = NewMultixactRule older new

abbrev pub MakesMultixacts : List Rec → Type 0
MakesMultixacts [] = Unit {0}
MakesMultixacts (rec ∷ older) = MakesMultixact older (made_by rec.kind) × MakesMultixacts older

-- a log, the newest record first, that a primary could write from this origin on, with these described tables. Redo of
-- it meets no refusal: no block is missing or no page, or the one with the greatest number (InvalidBlockNumber), no line
-- is otherwise than its record has it, and each tuple has room
pub record LegalLog (o : LogOrigin) (known : List Locator) (log : List Rec) : Type 0 where
  pub apart : All (λ (rec : Rec). are_apart rec.blocks ≡ true) log
  pub shutdowns : All (λ (rec : Rec). is_redo_own rec ≡ true) log
  pub transactions : Legal o.transactions (transactions_of log)
  pub multixacts : MakesMultixacts log
  pub rows : All (LegalTable o log) known
  pub view : View
  pub redone : view_after o known log ≡ Ok view
