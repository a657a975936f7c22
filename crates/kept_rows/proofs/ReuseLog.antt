-- The log in which a place is used again keeps to the rules.
use Rattle.std.proofs.Common.{◌≡◌, ℕ, ◌<◌, ◌^◌, true, false, ◌==◌, nat_lt, List, [], ◌∷◌, All, None, is_ok, arith, refl, sym, subst, inl, inr}
use Rattle.std.specs.List.{list_all}
use Rattle.std.proofs.lemmas.Bool.{eqb-true, false≢true, or_cases}
use Rattle.std.proofs.lemmas.List.Elements.{All-cons, All-head, All-nil}
use Rattle.pg_types.specs.Numbers.{number_at}
use Rattle.heap_tuple.specs.Tuple.{is_lock_only, is_tuple, is_tuple_head, max_of}
use Rattle.heap_page.specs.Item.{with_item}
use Rattle.heap_page.specs.Put.{put_answer, set_head_answer, set_line_answer}
use Rattle.pg_types.specs.Locators.{same_locator}
use Rattle.wal_bodies.specs.Typed.{ids_of}
use Rattle.typed_records.specs.declared.types.NewTuple.{NewTuple}
use Rattle.typed_records.specs.declared.types.RecBlock.{RecBlock}
use Rattle.typed_records.specs.declared.types.Rec.{Rec}
use Rattle.heap_redo.specs.TupleHeads.{deleted, head_bytes, head_of, marked_mask, marked_mask2, replaced}
use Rattle.heap_redo.specs.After.{after, after_change, applied, change_head, changed, changed_page, freeze, freeze_lines, joined, prune, put, put_listed, put_version, redirect_lines, set_line, set_lines, tuple_of, update, update_old, update_within}
use Rattle.heap_redo.specs.Redone.{grown, redone, redone_at, redone_block, redone_record, view_with, with_seen}
use Rattle.record_numbers.specs.Fits.{BlockFits, KindFits, LineFits, PlanFits, RecordFits, RedirectFits, TupleFits}
use Rattle.transaction_model.specs.Transactions.{Live, committed, ended}
use Rattle.transaction_model.specs.LegalTransactions.{Legal}
use Rattle.transaction_model.proofs.Endings.{legal_rest}
use Rattle.xact_redo.specs.TransactionsOf.{transaction_of, transactions_of}
use Rattle.row_model.specs.Versions.{Version, changed_at, deleter_of_plan, frozen_by, version_at, with_step, with_steps}
use Rattle.row_model.specs.Origins.{committed_in}
use Rattle.row_model.specs.Shows.{Shows}
use Rattle.row_model.specs.Locks.{since}
use Rattle.row_model.specs.RowSteps.{births, births_written, block_count, count_with, deleter_of_mark, freezes_in, frozen_written, own_steps, plan_of, removals, removals_written, steps_in, versions, view_after, view_with_record, whole_steps}
use Rattle.row_model.specs.LegalSteps.{AtLeast, Stays, Takes, Unmarked, WasDeleted, planned}
use Rattle.row_model.specs.LegalRows.{AnewRule, BlocksRule, ImageRule, LegalAlong, LegalLog, LegalTable, TableRule, are_apart, is_redo, is_redo_own, renews_first}
use Rattle.row_model.specs.WorkedRows.{IsWorkedRows, commit_of_701, update_by_701, worked_first, worked_ids, worked_log, worked_origin, worked_table}
use Rattle.row_model.proofs.WorkedIds.{commit_rule}
use Rattle.row_model.proofs.WorkedLog.{all_true, answered_view, are_bytes, no_locks, plain_fits, plain_rule}
use Rattle.kept_rows.specs.WorkedReuse.{commit_second, commit_third, delete_first, free_first, freeze_plan, freeze_second, insert_second, insert_third, prune_first, reuse_log, reuse_opened, second_values, second_version, third_values, tuple_with}

-- the log in its parts
abbrev with_second : List Rec
with_second = insert_second ∷ worked_first

abbrev with_delete : List Rec
with_delete = delete_first ∷ with_second

abbrev pruned : List Rec
pruned = prune_first ∷ reuse_opened

abbrev with_frozen : List Rec
with_frozen = freeze_second ∷ pruned

abbrev freed : List Rec
freed = free_first ∷ with_frozen

abbrev with_third : List Rec
with_third = insert_third ∷ freed

-- block 0, neither restored nor made anew
abbrev block_with : List NewTuple → RecBlock
block_with tuples = record { id = 0; locator = worked_table; block = 0; will_init = false; image = None; tuples = tuples }

abbrev IsBlockRule : List Rec → List Version → List Version → RecBlock → Type 0
IsBlockRule older before after block =
    same_locator worked_table block.locator ≡ true
    → ImageRule worked_origin older after block.block (applied block.image) × AnewRule before block

block_rule :
    (older : List Rec) (before after : List Version) (tuples : List NewTuple)
    → BlocksRule worked_origin worked_table older before after (block_with tuples ∷ [])
block_rule older before after tuples =
    All-cons (IsBlockRule older before after) (block_with tuples) [] (λ e. (tt, λ anew. absurd (false≢true anew)))
    (All-nil (IsBlockRule older before after))

-- who is live, and who has committed
live_second : Live worked_ids.at 701 (transactions_of worked_first)
unfolding ended transaction_of
live_second = record { normal = omega arith; not_ended = refl }

live_deleting : Live worked_ids.at 701 (transactions_of with_second)
unfolding ended transaction_of
live_deleting = record { normal = omega arith; not_ended = refl }

live_committing : Live worked_ids.at 701 (transactions_of with_delete)
unfolding ended transaction_of
live_committing = record { normal = omega arith; not_ended = refl }

live_third : Live worked_ids.at 702 (transactions_of freed)
unfolding ended transaction_of
live_third = record { normal = omega arith; not_ended = refl }

live_committing_third : Live worked_ids.at 702 (transactions_of with_third)
unfolding ended transaction_of
live_committing_third = record { normal = omega arith; not_ended = refl }

first_committed : committed_in worked_origin with_second 700 ≡ true
unfolding committed transaction_of
first_committed = refl

second_committed : committed_in worked_origin reuse_opened 701 ≡ true
unfolding committed transaction_of
second_committed = refl

second_committed_still : committed_in worked_origin pruned 701 ≡ true
unfolding committed transaction_of
second_committed_still = refl

-- each record keeps to the rules of the table
insert_second_rule : TableRule worked_origin worked_table worked_first insert_second
unfolding versions block_count steps_in count_with own_steps births births_written whole_steps tuple_of head_bytes with_steps with_step version_at max_of is_lock_only number_at
insert_second_rule =
    record {
      births = (
        record { free = refl; live = live_second; inserter = Unmarked refl; unmarked = refl; spent = λ outside. tt },
        tt,
      );
      deleters = (tt, tt);
      removals = (tt, tt);
      cut = tt;
      blocks =
          block_rule worked_first (versions worked_origin worked_table worked_first) (versions worked_origin worked_table with_second)
          (tuple_with second_values ∷ []);
      locks = no_locks worked_origin worked_table worked_first insert_second refl refl refl;
      checkpoint = tt;
      multixacts = (tt, tt);
    }

delete_first_rule : TableRule worked_origin worked_table with_second delete_first
unfolding versions block_count steps_in count_with own_steps births births_written whole_steps tuple_of head_bytes with_steps with_step version_at max_of is_lock_only number_at deleter_of_mark marked_mask changed_at
delete_first_rule =
    record {
      births = (tt, tt);
      deleters = (Takes 701 refl live_deleting tt (inl first_committed), tt);
      removals = (tt, tt);
      cut = tt;
      blocks =
          block_rule with_second (versions worked_origin worked_table with_second) (versions worked_origin worked_table with_delete) [];
      locks = no_locks worked_origin worked_table with_second delete_first refl refl refl;
      checkpoint = tt;
      multixacts = (tt, tt);
    }

prune_first_rule : TableRule worked_origin worked_table reuse_opened prune_first
unfolding versions block_count steps_in count_with own_steps births births_written whole_steps tuple_of head_bytes with_steps with_step version_at max_of is_lock_only number_at deleter_of_mark marked_mask changed_at removals removals_written
prune_first_rule =
    record {
      births = (tt, tt);
      deleters = (tt, tt);
      removals = (WasDeleted 701 refl second_committed (λ counted. AtLeast (omega arith)), tt);
      cut = tt;
      blocks =
          block_rule reuse_opened (versions worked_origin worked_table reuse_opened) (versions worked_origin worked_table pruned) [];
      locks = no_locks worked_origin worked_table reuse_opened prune_first refl refl refl;
      checkpoint = tt;
      multixacts = (tt, tt);
    }

-- the second row's tuple with the plan shows it, frozen
planned_shows : Shows worked_origin pruned (frozen_by (plan_of freeze_plan) second_version) (planned (plan_of freeze_plan) second_version)
unfolding planned head_bytes head_of number_at max_of is_lock_only deleter_of_plan
planned_shows =
    record {
      row = record { columns = refl; nulls = refl; bytes = refl };
      inserter = refl;
      frozen = refl;
      deleter = refl;
      marks =
          record {
            inserter_committed = λ x by marked. absurd (omega arith);
            inserter_failed = λ x by marked. absurd (omega arith);
            deleter_committed = λ x by marked. absurd (cc);
            deleter_failed = λ x by marked. absurd (cc);
          };
    }

freeze_second_rule : TableRule worked_origin worked_table pruned freeze_second
unfolding versions block_count steps_in count_with own_steps births births_written whole_steps tuple_of head_bytes with_steps with_step version_at max_of is_lock_only number_at deleter_of_mark marked_mask changed_at removals removals_written freezes_in frozen_written deleter_of_plan
freeze_second_rule =
    record {
      births = (tt, tt);
      deleters = (Stays refl, tt);
      removals = (
        record {
          shows = planned_shows;
          stays = λ e. absurd (false≢true e);
          covered = λ was is. (701, refl, second_committed_still, AtLeast (omega arith));
        },
        tt,
      );
      cut = tt;
      blocks = block_rule pruned (versions worked_origin worked_table pruned) (versions worked_origin worked_table with_frozen) [];
      locks = no_locks worked_origin worked_table pruned freeze_second refl refl refl;
      checkpoint = tt;
      multixacts = (tt, tt);
    }

free_first_rule : TableRule worked_origin worked_table with_frozen free_first
unfolding versions block_count steps_in count_with own_steps births births_written whole_steps tuple_of head_bytes with_steps with_step version_at max_of is_lock_only number_at deleter_of_mark marked_mask changed_at removals removals_written freezes_in frozen_written
free_first_rule =
    record {
      births = (tt, tt);
      deleters = (tt, tt);
      removals = (tt, tt);
      cut = tt;
      blocks = block_rule with_frozen (versions worked_origin worked_table with_frozen) (versions worked_origin worked_table freed) [];
      locks = no_locks worked_origin worked_table with_frozen free_first refl refl refl;
      checkpoint = tt;
      multixacts = (tt, tt);
    }

insert_third_rule : TableRule worked_origin worked_table freed insert_third
unfolding versions block_count steps_in count_with own_steps births births_written whole_steps tuple_of head_bytes with_steps with_step version_at max_of is_lock_only number_at deleter_of_mark marked_mask changed_at removals removals_written freezes_in frozen_written
insert_third_rule =
    record {
      births = (
        record { free = refl; live = live_third; inserter = Unmarked refl; unmarked = refl; spent = λ outside. tt },
        tt,
      );
      deleters = (tt, tt);
      removals = (tt, tt);
      cut = tt;
      blocks =
          block_rule freed (versions worked_origin worked_table freed) (versions worked_origin worked_table with_third)
          (tuple_with third_values ∷ []);
      locks = no_locks worked_origin worked_table freed insert_third refl refl refl;
      checkpoint = tt;
      multixacts = (tt, tt);
    }

reuse_along : LegalAlong worked_origin worked_table worked_first → LegalAlong worked_origin worked_table reuse_log
reuse_along first = (
  plain_rule worked_origin worked_table with_third commit_third refl refl refl refl tt,
  (
    insert_third_rule,
    (
      free_first_rule,
      (
        freeze_second_rule,
        (
          prune_first_rule,
          (
            plain_rule worked_origin worked_table with_delete commit_second refl refl refl refl tt,
            (delete_first_rule, (insert_second_rule, first)),
          ),
        ),
      ),
    ),
  ),
)

-- the block is made anew by its first record
reuse_renews : (redo : ℕ) → is_redo reuse_log redo ≡ true → renews_first worked_table redo reuse_log ≡ true
unfolding renews_first since
reuse_renews redo h =
    elim (or_cases (redo == 0) _ h) [
      | inl begins ↦ subst (λ (n : ℕ). renews_first worked_table n reuse_log ≡ true) (sym (eqb-true redo 0 begins)) refl
      | inr later ↦ elim (or_cases (0x2000028 == redo) false later) [
        | inl at ↦ subst (λ (n : ℕ). renews_first worked_table n reuse_log ≡ true) (eqb-true 0x2000028 redo at) refl
        | inr none ↦ absurd (false≢true none)
      ]
    ]

-- and to those of transactions
reuse_transactions : Legal worked_ids (transactions_of worked_first) → Legal worked_ids (transactions_of reuse_log)
unfolding Legal transaction_of
reuse_transactions first = (
  commit_rule 702 (transactions_of with_third) live_committing_third,
  (tt, (tt, (tt, (tt, (commit_rule 701 (transactions_of with_delete) live_committing, (tt, (tt, first))))))),
)

-- redo is not refused
reuse_redone : is_ok (view_after worked_origin (worked_table ∷ []) reuse_log) ≡ true
unfolding view_after view_with_record redone_record redone redone_at redone_block after after_change changed_page changed put_listed put tuple_of head_bytes view_with with_seen grown put_answer set_head_answer set_line_answer change_head update update_within update_old put_version joined is_tuple is_tuple_head with_item number_at head_of marked_mask marked_mask2 replaced deleted prune redirect_lines set_lines set_line freeze freeze_lines
reuse_redone = refl

pub reuse_legal : IsWorkedRows → LegalLog worked_origin (worked_table ∷ []) reuse_log
unfolding are_apart
reuse_legal worked =
    let (view, redone_is) = answered_view (view_after worked_origin (worked_table ∷ []) reuse_log) reuse_redone in
    let (commit, (update, along)) = (All-head (LegalTable worked_origin worked_log) worked_table [] worked.legal.rows).along in
    let ids = legal_rest worked_ids (transaction_of commit_of_701) (transactions_of (update_by_701 ∷ worked_first)) worked.legal.transactions in
    let first_ids = legal_rest worked_ids (transaction_of update_by_701) (transactions_of worked_first) ids in
    record {
      apart = all_true (λ (rec : Rec). are_apart rec.blocks) reuse_log refl;
      shutdowns = all_true is_redo_own reuse_log refl;
      transactions = reuse_transactions first_ids;
      multixacts = (tt, (tt, (tt, (tt, (tt, (tt, (tt, (tt, (tt, (tt, (tt, (tt, (tt, tt)))))))))))));
      rows =
          All-cons (LegalTable worked_origin reuse_log) worked_table [] (record { along = reuse_along along; renews = reuse_renews })
          (All-nil (LegalTable worked_origin reuse_log));
      view = view;
      redone = redone_is;
    }

-- its numbers fit
tuple_fits : (values : List ℕ) → list_all (λ byte. nat_lt byte 256) (0 ∷ values) ≡ true → TupleFits (tuple_with values)
tuple_fits values h = record { mask2 = omega arith; mask = omega arith; hoff = omega arith; rest = are_bytes (0 ∷ values) h }

blocks_fit : (tuples : List NewTuple) → All TupleFits tuples → All BlockFits (block_with tuples ∷ [])
blocks_fit tuples fit =
    All-cons BlockFits (block_with tuples) [] (record { number = omega arith; image = tt; tuples = fit }) (All-nil BlockFits)

line_fits : (line : ℕ) → line < 2 ^ 16 → All LineFits (line ∷ [])
line_fits line small = All-cons LineFits line [] small (All-nil LineFits)

plan_fits : PlanFits freeze_plan
plan_fits = record { xmax = omega arith; mask2 = omega arith; mask = omega arith; flags = omega arith; lines = line_fits 2 (omega arith) }

record_fits :
    (rec : Rec) (tuples : List NewTuple) → rec.head.xid.0 < 2 ^ 32 → KindFits rec.kind → (ids_of rec.kind ≡ 0 → ⊥)
    → rec.blocks ≡ block_with tuples ∷ [] → All TupleFits tuples → RecordFits rec
record_fits rec tuples xid kind some is fit =
    record {
      xid = xid;
      kind = kind;
      blocks = subst (All BlockFits) (sym is) (blocks_fit tuples fit);
      blockless = λ none. absurd (some none);
    }

one_tuple : (values : List ℕ) → list_all (λ byte. nat_lt byte 256) (0 ∷ values) ≡ true → All TupleFits (tuple_with values ∷ [])
one_tuple values h = All-cons TupleFits (tuple_with values) [] (tuple_fits values h) (All-nil TupleFits)

pub reuse_fits : All RecordFits worked_first → All RecordFits reuse_log
unfolding ids_of
reuse_fits first =
    plain_fits commit_third with_third (omega arith) tt refl
    (All-cons RecordFits insert_third freed
    (record_fits insert_third (tuple_with third_values ∷ []) (omega arith) tt (λ e. omega arith) refl (one_tuple third_values refl))
    (All-cons RecordFits free_first with_frozen
    (record_fits free_first [] (omega arith) (line_fits 1 (omega arith)) (λ e. omega arith) refl (All-nil TupleFits))
    (All-cons RecordFits freeze_second pruned
    (record_fits freeze_second [] (omega arith) (omega arith, All-cons PlanFits freeze_plan [] plan_fits (All-nil PlanFits)) (λ e. omega arith) refl
    (All-nil TupleFits))
    (All-cons RecordFits prune_first reuse_opened
    (record_fits prune_first [] (omega arith)
    (record { xid = omega arith; redirects = All-nil RedirectFits; dead = line_fits 1 (omega arith); unused = All-nil LineFits })
    (λ e. omega arith) refl (All-nil TupleFits))
    (plain_fits commit_second with_delete (omega arith) tt refl
    (All-cons RecordFits delete_first with_second
    (record_fits delete_first [] (omega arith) (omega arith, omega arith) (λ e. omega arith) refl (All-nil TupleFits))
    (All-cons RecordFits insert_second worked_first
    (record_fits insert_second (tuple_with second_values ∷ []) (omega arith) tt (λ e. omega arith) refl (one_tuple second_values refl))
    first)))))))
