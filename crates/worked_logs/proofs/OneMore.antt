-- One record more, after a log that keeps each clause.
use Rattle.std.proofs.Common.{◌≡◌, ◌≢◌, ℕ, true, false, ◌==◌, ◌||◌, List, [], ◌∷◌, is_ok, None, sym, subst, inl, inr}
use Rattle.std.proofs.lemmas.Bool.{eqb-true, false≢true, or_cases, or_left, or_right}
use Rattle.std.proofs.lemmas.List.Elements.{All-cons, All-nil}
use Rattle.typed_records.specs.declared.types.RecBlock.{RecBlock}
use Rattle.typed_records.specs.declared.types.Rec.{Rec}
use Rattle.heap_redo.specs.After.{applied, after}
use Rattle.transaction_model.specs.LegalTransactions.{Legal, before}
use Rattle.xact_redo.specs.TransactionsOf.{kind_of, transactions_of}
use Rattle.row_model.specs.Versions.{Version}
use Rattle.row_model.specs.RowSteps.{cut_of, versions, view_after}
use Rattle.row_model.specs.LegalSteps.{BirthStep, DeleterStep, KeepsTo, MultixactStep, RemovalStep, horizon_of}
use Rattle.row_model.specs.Multixacts.{made_by}
use Rattle.row_model.specs.LegalRows.{AnewRule, BlocksRule, CheckpointRule, CutRule, ImageRule, LockRule, MakesMultixact, are_apart, is_redo, is_redo_own, renews_first}
use Rattle.row_model.specs.WorkedRows.{first_tuple, worked_block, worked_ids, worked_origin, worked_table}
use Rattle.row_model.proofs.WorkedLog.{answered_view}
use Rattle.worked_logs.specs.Clauses.{Clause, Births, Deleters, Removals, Cut, Blocks, Locks, CheckpointLocks, Multixacts, Renews, Apart, Shutdowns, Transactions, NewMultixacts, Redone, Keeps}
use Rattle.worked_logs.specs.BrokenLogs.{BreaksOnly, bare_block}
use Rattle.pg_types.specs.Locators.{same_locator}

-- what a record adds to a log that keeps a clause
abbrev pub Adds : Clause → List Rec → Rec → Type 0
Adds Births older rec = KeepsTo (BirthStep worked_origin worked_table older) worked_origin worked_table older rec
Adds Deleters older rec = KeepsTo (DeleterStep worked_origin older) worked_origin worked_table older rec
Adds Removals older rec = KeepsTo (RemovalStep worked_origin older (horizon_of rec.kind)) worked_origin worked_table older rec
Adds Cut older rec = CutRule (cut_of worked_table rec.kind) (versions worked_origin worked_table (rec ∷ older))
Adds Blocks older rec =
    BlocksRule worked_origin worked_table older (versions worked_origin worked_table older)
    (versions worked_origin worked_table (rec ∷ older)) rec.blocks
Adds Locks older rec = LockRule worked_origin worked_table older rec
Adds CheckpointLocks older rec = CheckpointRule worked_origin worked_table older (kind_of rec.head rec.kind)
Adds Multixacts older rec = KeepsTo (MultixactStep older) worked_origin worked_table older rec
Adds Renews older rec = (redo : ℕ) → is_redo (rec ∷ older) redo ≡ true → renews_first worked_table redo (rec ∷ older) ≡ true
Adds Apart older rec = are_apart rec.blocks ≡ true
Adds Shutdowns older rec = is_redo_own rec ≡ true
Adds Transactions older rec = Legal worked_ids (transactions_of older) → Legal worked_ids (transactions_of (rec ∷ older))
Adds NewMultixacts older rec = MakesMultixact older (made_by rec.kind)
Adds Redone older rec = is_ok (view_after worked_origin (worked_table ∷ []) (rec ∷ older)) ≡ true

pub one_more : (clause : Clause) (older : List Rec) (rec : Rec) → Keeps clause worked_origin worked_table older → Adds clause older rec → Keeps clause worked_origin worked_table (rec ∷ older)
one_more Births older rec keeps adds = (adds, keeps)
one_more Deleters older rec keeps adds = (adds, keeps)
one_more Removals older rec keeps adds = (adds, keeps)
one_more Cut older rec keeps adds = (adds, keeps)
one_more Blocks older rec keeps adds = (adds, keeps)
one_more Locks older rec keeps adds = (adds, keeps)
one_more CheckpointLocks older rec keeps adds = (adds, keeps)
one_more Multixacts older rec keeps adds = (adds, keeps)
one_more Renews older rec keeps adds = adds
one_more Apart older rec keeps adds = All-cons (λ (r : Rec). are_apart r.blocks ≡ true) rec older adds keeps
one_more Shutdowns older rec keeps adds = All-cons (λ (r : Rec). is_redo_own r ≡ true) rec older adds keeps
one_more Transactions older rec keeps adds = adds keeps
one_more NewMultixacts older rec keeps adds = (adds, keeps)
one_more Redone older rec keeps adds = answered_view (view_after worked_origin (worked_table ∷ []) (rec ∷ older)) adds

abbrev pub WorkedKeeps : List Rec → Type 0
WorkedKeeps log = (clause : Clause) → Keeps clause worked_origin worked_table log

pub each_keeps : (older : List Rec) (rec : Rec) → WorkedKeeps older → ((clause : Clause) → Adds clause older rec) → WorkedKeeps (rec ∷ older)
each_keeps older rec keeps adds clause = one_more clause older rec (keeps clause) (adds clause)

pub breaks_only :
    (broken : Clause) (older : List Rec) (rec : Rec) → WorkedKeeps older
    → (Keeps broken worked_origin worked_table (rec ∷ older) → ⊥)
    → ((clause : Clause) → clause ≢ broken → Adds clause older rec) → BreaksOnly broken (rec ∷ older)
breaks_only broken older rec keeps breaks adds =
    record { breaks = breaks; keeps = λ other ne. one_more other older rec (keeps other) (adds other ne) }

-- what a record keeps to in one of its blocks
abbrev pub IsBlockRule : List Rec → List Version → List Version → RecBlock → Type 0
IsBlockRule older before after block =
    same_locator worked_table block.locator ≡ true
    → ImageRule worked_origin older after block.block (applied block.image) × AnewRule before block

pub no_blocks : (older : List Rec) (before after : List Version) → BlocksRule worked_origin worked_table older before after []
no_blocks older before after = All-nil (IsBlockRule older before after)

-- the record of one block
pub one_block :
    (older : List Rec) (before after : List Version) (block : RecBlock) → IsBlockRule older before after block
    → BlocksRule worked_origin worked_table older before after (block ∷ [])
one_block older before after block rule = All-cons (IsBlockRule older before after) block [] rule (no_blocks older before after)

-- a block without an image that is not made anew
pub bare_rule :
    (older : List Rec) (before after : List Version) (id : ℕ) (blocks : List RecBlock)
    → BlocksRule worked_origin worked_table older before after blocks
    → BlocksRule worked_origin worked_table older before after (bare_block id false ∷ blocks)
bare_rule older before after id blocks rest =
    All-cons (IsBlockRule older before after) (bare_block id false) blocks (λ e. (tt, λ anew. absurd (false≢true anew))) rest

pub block_rule :
    (older : List Rec) (before after : List Version)
    → BlocksRule worked_origin worked_table older before after (worked_block false first_tuple)
block_rule older before after =
    one_block older before after
    (record { id = 0; locator = worked_table; block = 0; will_init = false; image = None; tuples = first_tuple ∷ [] })
    (λ e. (tt, λ anew. absurd (false≢true anew)))

-- from the log's begin on and from each redo position
pub renews_two :
    (log : List Rec) (redo : ℕ) → ((redo == 0) || ((0x2000028 == redo) || false)) ≡ true
    → renews_first worked_table 0 log ≡ true → renews_first worked_table 0x2000028 log ≡ true
    → renews_first worked_table redo log ≡ true
renews_two log redo h from_begin from_first =
    elim (or_cases (redo == 0) ((0x2000028 == redo) || false) h) [
      | inl begins ↦ subst (λ (n : ℕ). renews_first worked_table n log ≡ true) (sym (eqb-true redo 0 begins)) from_begin
      | inr later ↦ elim (or_cases (0x2000028 == redo) false later) [
        | inl at ↦ subst (λ (n : ℕ). renews_first worked_table n log ≡ true) (eqb-true 0x2000028 redo at) from_first
        | inr none ↦ absurd (false≢true none)
      ]
    ]

-- and from that of a later checkpoint
pub renews_three :
    (later : ℕ) (log : List Rec) (redo : ℕ) → ((redo == 0) || ((later == redo) || ((0x2000028 == redo) || false))) ≡ true
    → renews_first worked_table 0 log ≡ true → renews_first worked_table 0x2000028 log ≡ true
    → renews_first worked_table later log ≡ true → renews_first worked_table redo log ≡ true
renews_three later log redo h from_begin from_first from_later =
    elim (or_cases (redo == 0) ((later == redo) || ((0x2000028 == redo) || false)) h) [
      | inl begins ↦ renews_two log redo (or_left (redo == 0) ((0x2000028 == redo) || false) begins) from_begin from_first
      | inr rest ↦ elim (or_cases (later == redo) ((0x2000028 == redo) || false) rest) [
        | inl at ↦ subst (λ (n : ℕ). renews_first worked_table n log ≡ true) (eqb-true later redo at) from_later
        | inr older ↦ renews_two log redo (or_right (redo == 0) ((0x2000028 == redo) || false) older) from_begin from_first
      ]
    ]
