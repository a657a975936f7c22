-- The worked log keeps to the rules, and its rows are as worked by hand.
use Rattle.std.proofs.Common.{◌≡◌, ℕ, ◌<◌, Bool, true, false, nat_lt, ◌==◌, ◌^◌, Option, None, List, [], ◌∷◌, All, filter, Result, Ok, Err, is_ok, arith, refl, sym, ap, ◌∙◌, subst, inl, inr}
use Rattle.std.proofs.lemmas.Bool.{and_parts, eqb-true, ltb-true, false≢true, or_cases}
use Rattle.std.proofs.lemmas.List.Elements.{All-cons, All-nil}
use Rattle.std.proofs.lemmas.List.Sorted.{IsPermutation-refl}
use Rattle.std.specs.List.Sorted.{IsPermutation}
use Rattle.std.specs.List.{list_all}
use Rattle.pg_types.specs.declared.names.Locator.{Locator}
use Rattle.pg_types.specs.Numbers.{number_at}
use Rattle.typed_records.specs.declared.types.NewTuple.{NewTuple}
use Rattle.typed_records.specs.declared.types.RecBlock.{RecBlock}
use Rattle.typed_records.specs.declared.types.Rec.{Rec}
use Rattle.heap_tuple.specs.declared.tuple_view.MaxOf.TheVariants.{Xid as DeletedBy}
use Rattle.heap_tuple.specs.Tuple.{is_lock_only, is_tuple, is_tuple_head, max_of}
use Rattle.heap_page.specs.Item.{with_item}
use Rattle.heap_page.specs.Put.{put_answer, set_head_answer}
use Rattle.heap_redo.specs.declared.fault.RedoFault.{RedoFault}
use Rattle.page_store.specs.Seen.{View}
use Rattle.heap_redo.specs.Redone.{grown, redone, redone_at, redone_block, redone_record, view_with, with_seen}
use Rattle.transaction_model.specs.Transactions.{committed}
use Rattle.heap_redo.specs.After.{after, after_change, applied, change_head, changed, changed_page, joined, put, put_listed, put_version, tuple_of, update, update_old, update_within}
use Rattle.pg_types.specs.Locators.{same_locator}
use Rattle.wal_bodies.specs.Typed.{ids_of}
use Rattle.heap_redo.specs.TupleHeads.{head_bytes, head_of, marked_mask, marked_mask2, replaced}
use Rattle.xact_redo.specs.TransactionsOf.{kind_of, transaction_of}
use Rattle.row_model.specs.Versions.{RowStep, Version, changed_at, version_at, with_step, with_steps}
use Rattle.row_model.specs.Origins.{LogOrigin, committed_in}
use Rattle.row_model.specs.Multixacts.{multixacts}
use Rattle.row_model.specs.Locks.{drops, is_gone, locks, since, up_to_running}
use Rattle.row_model.specs.RowSteps.{births, births_written, block_count, count_with, cut_of, deleter_of_mark, own_steps, steps_in, update_steps, version_put, version_written, versions, view_after, view_with_record, whole_steps}
use Rattle.row_model.specs.Rows.{IsInPlaceOrder, is_row}
use Rattle.row_model.specs.LegalSteps.{BirthStep, DeleterStep, EachStep, KeepsTo, MultixactStep, RemovalStep, Takes, Unmarked, horizon_of}
use Rattle.pg_types.specs.Bytes.{AreBytes}
use Rattle.record_numbers.specs.Fits.{BlockFits, KindFits, RecordFits, TupleFits}
use Rattle.row_model.specs.LegalRows.{AnewRule, BlocksRule, CheckpointRule, CutRule, ImageRule, LegalAlong, LegalTable, LockRule, OnlineLocks, TableRule, are_apart, is_redo, is_redo_own, renews_first}
use Rattle.row_model.proofs.WorkedIds.{first_live, second_live, worked_legal}
use Rattle.row_model.specs.WorkedRows.{AreRowsAfter, IsWorkedRows, first_row, first_tuple, first_values, second_row, second_tuple, backup_end, commit_of_700, commit_of_701, insert_by_700, nothing_runs, online_checkpoint, update_by_701, worked_start, worked_block, worked_first, worked_log, worked_origin, worked_table}

-- what a record keeps to in one of its blocks
abbrev IsBlockRule : LogOrigin → Locator → List Rec → List Version → List Version → RecBlock → Type 0
IsBlockRule o table older before after block =
    same_locator table block.locator ≡ true
    → ImageRule o older after block.block (applied block.image) × AnewRule before block

-- bytes by a test of each
pub are_bytes : (bytes : List ℕ) → list_all (λ byte. nat_lt byte 256) bytes ≡ true → AreBytes bytes
are_bytes [] h = All-nil (λ (byte : ℕ). byte < 256)
are_bytes (b ∷ bytes) h =
    let (low, rest) = and_parts (nat_lt b 256) (list_all (λ byte. nat_lt byte 256) bytes) h in
    All-cons (λ (byte : ℕ). byte < 256) b bytes (ltb-true b 256 low) (are_bytes bytes rest)

-- a test holds of each
pub all_true : (f : Rec → Bool) (log : List Rec) → list_all f log ≡ true → All (λ (rec : Rec). f rec ≡ true) log
all_true f [] h = All-nil (λ (rec : Rec). f rec ≡ true)
all_true f (rec ∷ log) h =
    let (first, rest) = and_parts (f rec) (list_all f log) h in
    All-cons (λ (r : Rec). f r ≡ true) rec log first (all_true f log rest)

-- a record without blocks
pub plain_fits :
    (rec : Rec) (log : List Rec) → rec.head.xid.0 < 2 ^ 32 → KindFits rec.kind → rec.blocks ≡ [] → All RecordFits log
    → All RecordFits (rec ∷ log)
plain_fits rec log xid kind none rest =
    All-cons RecordFits rec log
    (record { xid = xid; kind = kind; blocks = subst (All BlockFits) (sym none) (All-nil BlockFits); blockless = λ e. none }) rest

-- one with the worked block
block_fits :
    (rec : Rec) (anew : Bool) (tuple : NewTuple) (log : List Rec) → rec.head.xid.0 < 2 ^ 32 → KindFits rec.kind
    → (ids_of rec.kind ≡ 0 → ⊥) → rec.blocks ≡ worked_block anew tuple → TupleFits tuple → All RecordFits log → All RecordFits (rec ∷ log)
block_fits rec anew tuple log xid kind some is fits rest =
    let block : RecBlock = record { id = 0; locator = worked_table; block = 0; will_init = anew; image = None; tuples = tuple ∷ [] } in
    let block_is : BlockFits block = record { number = omega arith; image = tt; tuples = All-cons TupleFits tuple [] fits (All-nil TupleFits) } in
    All-cons RecordFits rec log
    (record {
      xid = xid;
      kind = kind;
      blocks = subst (All BlockFits) (sym is) (All-cons BlockFits block [] block_is (All-nil BlockFits));
      blockless = λ none. absurd (some none);
    })
    rest

first_fits : TupleFits first_tuple
first_fits = record { mask2 = omega arith; mask = omega arith; hoff = omega arith; rest = are_bytes (0 ∷ first_values) refl }

second_fits : TupleFits second_tuple
second_fits = record { mask2 = omega arith; mask = omega arith; hoff = omega arith; rest = are_bytes (0 ∷ 116 ∷ 119 ∷ 111 ∷ []) refl }

all_fit : All RecordFits worked_log
unfolding ids_of
all_fit =
    plain_fits commit_of_701 (update_by_701 ∷ worked_first) (omega arith) tt refl
    (block_fits update_by_701 false second_tuple worked_first (omega arith) (omega arith, (omega arith, omega arith)) (λ e. omega arith) refl
    second_fits
    (plain_fits commit_of_700 (insert_by_700 ∷ worked_start) (omega arith) tt refl
    (block_fits insert_by_700 true first_tuple worked_start (omega arith) tt (λ e. omega arith) refl first_fits
    (plain_fits backup_end (online_checkpoint ∷ nothing_runs ∷ []) (omega arith) tt refl
    (plain_fits online_checkpoint (nothing_runs ∷ []) (omega arith) tt refl
    (plain_fits nothing_runs [] (omega arith) tt refl (All-nil RecordFits)))))))

-- a record that cuts and drops no table needs no lock, where none was dropped
pub no_locks :
    (o : LogOrigin) (table : Locator) (older : List Rec) (rec : Rec) → cut_of table rec.kind ≡ None → drops table rec ≡ false
    → is_gone table older ≡ false → LockRule o table older rec
no_locks o table older rec uncut kept there =
    record {
      cut = λ blocks e. absurd (cc);
      drop = λ e. absurd (false≢true (sym kept ∙ e));
      gone = λ e. absurd (false≢true (sym there ∙ e));
    }

-- a record without blocks keeps to each rule of rows
no_steps : (Rule : List Version → RowStep → Type 0) (o : LogOrigin) (table : Locator) (older : List Rec) (rec : Rec) → rec.blocks ≡ [] → KeepsTo Rule o table older rec
unfolding steps_in
no_steps Rule o table older rec none =
    subst (λ (blocks : List RecBlock). EachStep Rule (versions o table older) (steps_in rec table (block_count o table older) (versions o table older) blocks))
    (sym none) tt

-- so does each rule hold of one that cuts and drops no table
pub plain_rule :
    (o : LogOrigin) (table : Locator) (older : List Rec) (rec : Rec) → rec.blocks ≡ [] → cut_of table rec.kind ≡ None
    → drops table rec ≡ false → is_gone table older ≡ false
    → CheckpointRule o table older (kind_of rec.head rec.kind) → TableRule o table older rec
plain_rule o table older rec none uncut kept there checkpoint =
    record {
      births = no_steps (BirthStep o table older) o table older rec none;
      deleters = no_steps (DeleterStep o older) o table older rec none;
      removals = no_steps (RemovalStep o older (horizon_of rec.kind)) o table older rec none;
      cut =
          subst (λ (cut : Option ℕ). CutRule cut (versions o table (rec ∷ older))) (sym uncut) tt;
      blocks =
          subst (BlocksRule o table older (versions o table older) (versions o table (rec ∷ older))) (sym none)
          (All-nil (IsBlockRule o table older (versions o table older) (versions o table (rec ∷ older))));
      locks = no_locks o table older rec uncut kept there;
      checkpoint = checkpoint;
      multixacts = no_steps (MultixactStep older) o table older rec none;
    }

-- a block without an image, made anew only where nothing stood there
block_rule :
    (o : LogOrigin) (older : List Rec) (before after : List Version) (anew : Bool) (tuple : NewTuple)
    → (anew ≡ true → (line : ℕ) → version_at 0 line before ≡ None)
    → BlocksRule o worked_table older before after (worked_block anew tuple)
block_rule o older before after anew tuple none =
    All-cons (IsBlockRule o worked_table older before after)
    (record { id = 0; locator = worked_table; block = 0; will_init = anew; image = None; tuples = tuple ∷ [] })
    [] (λ e. (tt, none)) (All-nil (IsBlockRule o worked_table older before after))

first_rule : TableRule worked_origin worked_table worked_start insert_by_700
unfolding versions block_count steps_in count_with own_steps births births_written whole_steps tuple_of head_bytes with_steps with_step version_at max_of is_lock_only number_at
first_rule =
    record {
      births = (
        record { free = refl; live = first_live; inserter = Unmarked refl; unmarked = refl; spent = λ outside. tt },
        tt,
      );
      deleters = (tt, tt);
      removals = (tt, tt);
      cut = tt;
      blocks = block_rule worked_origin worked_start [] (first_row ∷ []) true first_tuple (λ e line. refl);
      locks = no_locks worked_origin worked_table worked_start insert_by_700 refl refl refl;
      checkpoint = tt;
      multixacts = (tt, tt);
    }

-- the versions after the first commit
first_versions : versions worked_origin worked_table worked_first ≡ first_row ∷ []
unfolding versions block_count steps_in count_with own_steps births births_written whole_steps tuple_of head_bytes with_steps with_step max_of is_lock_only number_at
first_versions = refl

-- the first version, once it has its deleter
abbrev replaced_row : Version
replaced_row = record first_row { deleter = DeletedBy (record { 0 = 701 }) }

first_committed : committed_in worked_origin worked_first 700 ≡ true
unfolding committed transaction_of
first_committed = refl

second_rule : TableRule worked_origin worked_table worked_first update_by_701
unfolding versions block_count steps_in count_with own_steps births births_written whole_steps tuple_of head_bytes with_steps with_step version_at max_of is_lock_only number_at update_steps version_put version_written deleter_of_mark joined marked_mask changed_at
second_rule =
    record {
      births = (
        tt,
        (
          record { free = refl; live = second_live; inserter = Unmarked refl; unmarked = refl; spent = λ outside. tt },
          tt,
        ),
      );
      deleters = (Takes 701 refl second_live tt (inl first_committed), (tt, tt));
      removals = (tt, (tt, tt));
      cut = tt;
      blocks =
          block_rule worked_origin worked_first (first_row ∷ []) (second_row ∷ replaced_row ∷ []) false second_tuple
          (λ e. absurd (false≢true e));
      locks = no_locks worked_origin worked_table worked_first update_by_701 refl refl refl;
      checkpoint = tt;
      multixacts = (tt, (tt, tt));
    }

-- the versions after the second
second_versions : versions worked_origin worked_table worked_log ≡ second_row ∷ replaced_row ∷ []
unfolding versions block_count steps_in count_with own_steps births births_written whole_steps tuple_of head_bytes with_steps with_step version_at max_of is_lock_only number_at update_steps version_put version_written deleter_of_mark joined marked_mask changed_at
second_versions = refl

-- the running record stands at the checkpoint's redo, and no lock is held
online_locks : OnlineLocks worked_origin worked_table 0x2000028 (nothing_runs ∷ [])
unfolding since up_to_running locks
online_locks = record { running = λ e. cc; rewritten = λ x held live. absurd (false≢true held) }

worked_along : LegalAlong worked_origin worked_table worked_log
worked_along = (
  plain_rule _ _ _ commit_of_701 refl refl refl refl tt,
  (
    second_rule,
    (
      plain_rule _ _ _ commit_of_700 refl refl refl refl tt,
      (
        first_rule,
        (
          plain_rule _ _ _ backup_end refl refl refl refl tt,
          (plain_rule _ _ _ online_checkpoint refl refl refl refl online_locks, (plain_rule _ _ _ nothing_runs refl refl refl refl tt, tt)),
        ),
      ),
    ),
  ),
)

-- the block is made anew by its first record, from the checkpoint's redo on as from the log's begin
worked_renews : (redo : ℕ) → is_redo worked_log redo ≡ true → renews_first worked_table redo worked_log ≡ true
unfolding renews_first since
worked_renews redo h =
    elim (or_cases (redo == 0) _ h) [
      | inl begins ↦ subst (λ (n : ℕ). renews_first worked_table n worked_log ≡ true) (sym (eqb-true redo 0 begins)) refl
      | inr later ↦ elim (or_cases (0x2000028 == redo) false later) [
        | inl at ↦ subst (λ (n : ℕ). renews_first worked_table n worked_log ≡ true) (eqb-true 0x2000028 redo at) refl
        | inr none ↦ absurd (false≢true none)
      ]
    ]

worked_legal_table : LegalTable worked_origin worked_log worked_table
worked_legal_table = record { along = worked_along; renews = worked_renews }

-- the blocks where redo is not refused
pub answered_view : (r : Result View RedoFault) → is_ok r ≡ true → (view : View) × (r ≡ Ok view)
answered_view (Ok view) h = (view, refl)
answered_view (Err fault) h = absurd (false≢true h)

worked_redone : is_ok (view_after worked_origin (worked_table ∷ []) worked_log) ≡ true
unfolding view_after view_with_record redone_record redone redone_at redone_block after after_change changed_page changed put_listed put tuple_of head_bytes view_with with_seen grown put_answer set_head_answer change_head update update_within update_old put_version joined is_tuple is_tuple_head with_item number_at head_of marked_mask marked_mask2 replaced
worked_redone = refl

-- the rows among these versions
is_among_rows : (log : List Rec) (vs rows : List Version) → versions worked_origin worked_table log ≡ vs
    → filter (is_row (multixacts log) (committed_in worked_origin log)) vs ≡ rows → IsInPlaceOrder rows
    → AreRowsAfter log rows
is_among_rows log vs rows is kept order =
    record {
      same =
          subst (λ (l : List Version). IsPermutation l rows)
          (sym (ap (filter (is_row (multixacts log) (committed_in worked_origin log))) is ∙ kept))
          (IsPermutation-refl rows);
      in_order = order;
    }

first_rows : AreRowsAfter worked_first (first_row ∷ [])
unfolding committed transaction_of
first_rows = is_among_rows worked_first (first_row ∷ []) (first_row ∷ []) first_versions refl (tt, tt)

second_rows : AreRowsAfter worked_log (second_row ∷ [])
unfolding committed transaction_of
second_rows = is_among_rows worked_log (second_row ∷ replaced_row ∷ []) (second_row ∷ []) second_versions refl (tt, tt)

pub worked_rows_are : IsWorkedRows
unfolding are_apart
worked_rows_are =
    let (view, redone_is) = answered_view (view_after worked_origin (worked_table ∷ []) worked_log) worked_redone in
    record {
      empty = record { tables = λ table. refl; none_committed = λ x. refl; none_aborted = λ x. refl };
      fits = all_fit;
      legal =
          record {
            apart = all_true (λ (rec : Rec). are_apart rec.blocks) worked_log refl;
            shutdowns = all_true is_redo_own worked_log refl;
            transactions = worked_legal;
            multixacts = (tt, (tt, (tt, (tt, (tt, (tt, (tt, tt)))))));
            rows = All-cons (LegalTable worked_origin worked_log) worked_table [] worked_legal_table
                (All-nil (LegalTable worked_origin worked_log));
            view = view;
            redone = redone_is;
          };
      first = first_rows;
      second = second_rows;
    }
