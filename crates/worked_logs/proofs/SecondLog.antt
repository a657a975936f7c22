-- The second log is legal, and its rows are as worked.
use Rattle.std.proofs.Common.{◌≡◌, ℕ, Bool, true, false, ◌==◌, ◌||◌, List, [], ◌∷◌, is_ok, Some, None, arith, refl, sym, ap, ◌∙◌, subst, inl, inr}
use Rattle.std.proofs.lemmas.Bool.{eqb-true, false_from_ne_true, false≢true, or_cases}
use Rattle.std.proofs.lemmas.List.Elements.{All-cons, All-nil}
use Rattle.pg_types.specs.Numbers.{number_at}
use Rattle.typed_records.specs.declared.types.RecBlock.{RecBlock}
use Rattle.typed_records.specs.declared.types.Rec.{Rec}
use Rattle.heap_tuple.specs.Tuple.{is_lock_only, is_tuple, is_tuple_head, max_of}
use Rattle.heap_page.specs.Item.{with_item}
use Rattle.heap_page.specs.Put.{put_answer, set_head_answer}
use Rattle.heap_redo.specs.Redone.{grown, redone, redone_record, redone_at, redone_block, view_with, with_seen}
use Rattle.heap_redo.specs.After.{after, after_change, change_head, changed, changed_page, joined, put, put_listed, put_version, tuple_of, update, update_old, update_within}
use Rattle.heap_redo.specs.TupleHeads.{deleted, head_bytes, head_of, locked, marked_mask, marked_mask2, replaced}
use Rattle.transaction_model.specs.Transactions.{committed, ended}
use Rattle.transaction_model.specs.LegalTransactions.{Legal}
use Rattle.xact_redo.specs.TransactionsOf.{transaction_of, transactions_of}
use Rattle.row_model.specs.Versions.{Version, changed_at, version_at, with_step, with_steps}
use Rattle.row_model.specs.Origins.{committed_in}
use Rattle.row_model.specs.Locks.{locks, since, up_to_running}
use Rattle.row_model.specs.RowSteps.{births, births_written, block_count, count_with, deleter_of_mark, own_steps, steps_in, update_steps, version_put, version_written, versions, view_after, view_with_record, whole_steps}
use Rattle.row_model.specs.LegalSteps.{Takes, Unmarked}
use Rattle.row_model.specs.LegalRows.{AnewRule, BlocksRule, ImageRule, LegalLog, OnlineLocks, are_apart, is_redo, is_redo_own, renews_first}
use Rattle.row_model.specs.WorkedRows.{first_row, first_tuple, worked_first, worked_ids, worked_log, worked_table}
use Rattle.row_model.specs.WorkedRows.{backup_end}
use Rattle.std.specs.Prelude.{zero, suc, if◌then◌else◌, filter}
use Rattle.row_model.specs.WorkedRows.{worked_start, insert_by_700, nothing_runs, online_checkpoint, commit_of_700}
use Rattle.worked_logs.specs.SecondLog.{IsSecondLog, abort_of_701, block_one, checkpoint_701, commit_of_702, delete_by_701, deleted_block, deleted_tuple, insert_by_702, insert_by_703, kept_row, page_image, row_of, running_701, second_aborted, second_checkpoint, second_log, second_origin, second_rows}
use Rattle.std.proofs.lemmas.List.Sorted.{IsPermutation-reverse}
use Rattle.std.specs.List.Sorted.{IsPermutation}
use Rattle.heap_redo.specs.After.{applied}
use Rattle.heap_page.specs.Item.{Item, is_normal, normal, numbered}
use Rattle.heap_page.specs.Page.{are_apart as rooms_apart, is_header, is_laid, is_page, is_placed, item_of, items_of, lines_of}
use Rattle.heap_page.specs.Put.{restored}
use Rattle.row_model.specs.Multixacts.{multixacts}
use Rattle.row_model.specs.RowSteps.{items_in}
use Rattle.row_model.specs.Rows.{is_row}
use Rattle.row_model.specs.Shows.{AreMarksTrue, Shows, ShowsBlock, ShowsPlace}
use Rattle.row_model.specs.LegalRows.{LegalAlong, LegalTable, TableRule}
use Rattle.row_model.specs.Rows.{IsInPlaceOrder, IsRows}
use Rattle.worked_logs.proofs.SecondIds.{live_701, live_702, live_703, second_legal}
use Rattle.row_model.proofs.WorkedLog.{all_true, answered_view, no_locks, plain_rule}
use Rattle.pg_types.specs.Locators.{same_locator}

abbrev before_it : List Rec → List Version
before_it older = versions second_origin worked_table older

-- what a record keeps to in one of its blocks
abbrev IsBlockRule : List Rec → Rec → RecBlock → Type 0
IsBlockRule older rec block =
    same_locator worked_table block.locator ≡ true
    → ImageRule second_origin older (before_it (rec ∷ older)) block.block (applied block.image)
    × AnewRule (before_it older) block

-- the record of one block
one_block :
    (older : List Rec) (rec : Rec) (block : RecBlock) → IsBlockRule older rec block
    → BlocksRule second_origin worked_table older (before_it older) (before_it (rec ∷ older)) (block ∷ [])
one_block older rec block rule = All-cons (IsBlockRule older rec) block [] rule (All-nil (IsBlockRule older rec))

-- the first row, as the worked log has it
first_rule : TableRule second_origin worked_table worked_start insert_by_700
unfolding versions block_count steps_in count_with own_steps births births_written whole_steps tuple_of head_bytes with_steps with_step version_at max_of is_lock_only number_at update_steps version_put version_written deleter_of_mark joined marked_mask changed_at ended transaction_of
first_rule =
    record {
      births = (
        record {
          free = refl;
          live = record { normal = omega arith; not_ended = refl };
          inserter = Unmarked refl;
          unmarked = refl;
          spent = λ outside. tt;
        },
        tt,
      );
      deleters = (tt, tt);
      removals = (tt, tt);
      cut = tt;
      blocks =
          one_block worked_start insert_by_700
          (record { id = 0; locator = worked_table; block = 0; will_init = true; image = None; tuples = first_tuple ∷ [] })
          (λ e. (tt, λ anew line. refl));
      locks = no_locks second_origin worked_table worked_start insert_by_700 refl refl refl;
      checkpoint = tt;
      multixacts = (tt, tt);
    }

-- the image's items
image_items : items_in page_image ≡ normal deleted_tuple ∷ []
unfolding items_of lines_of item_of restored number_at
image_items = refl

checkpoint_versions : before_it second_checkpoint ≡ first_row ∷ []
unfolding versions block_count steps_in count_with own_steps births births_written whole_steps tuple_of head_bytes with_steps with_step version_at max_of is_lock_only number_at update_steps version_put version_written deleter_of_mark joined marked_mask changed_at
checkpoint_versions = refl

deleted_versions : before_it (delete_by_701 ∷ second_checkpoint) ≡ kept_row ∷ []
unfolding versions block_count steps_in count_with own_steps births births_written whole_steps tuple_of head_bytes with_steps with_step version_at max_of is_lock_only number_at update_steps version_put version_written deleter_of_mark joined marked_mask changed_at
deleted_versions = refl

first_committed : committed_in second_origin second_checkpoint 700 ≡ true
unfolding committed transaction_of
first_committed = refl

-- the marks of its tuple are true: 700 committed
marks_true : AreMarksTrue second_origin second_checkpoint kept_row deleted_tuple
unfolding number_at
marks_true =
    record {
      inserter_committed = λ x by marked. let same : 700 ≡ x = cc in
          subst (λ (y : ℕ). committed_in second_origin second_checkpoint y ≡ true) same first_committed;
      inserter_failed = λ x by marked. absurd (omega arith);
      deleter_committed = λ x by marked. absurd (false≢true marked);
      deleter_failed = λ x by marked. absurd (false≢true marked);
    }

shows_it : Shows second_origin second_checkpoint kept_row deleted_tuple
unfolding number_at max_of is_lock_only
shows_it =
    record {
      row = record { columns = refl; nulls = refl; bytes = refl };
      inserter = refl;
      frozen = refl;
      deleter = refl;
      marks = marks_true;
    }

shows_none :
    (v : Version) (item : Item) (b : Bool) → b ≡ false → is_normal item ≡ false
    → ShowsPlace second_origin second_checkpoint (if b then Some v else None) item
shows_none v item false e h = h
shows_none v item true e h = absurd (false≢true (sym e))

shows_lines : (line : ℕ) → ShowsPlace second_origin second_checkpoint (version_at 0 line (kept_row ∷ [])) (numbered (normal deleted_tuple ∷ []) line)
unfolding version_at
shows_lines zero = refl
shows_lines (suc zero) = (deleted_tuple, refl, shows_it)
shows_lines (suc (suc k)) =
    shows_none kept_row (numbered (normal deleted_tuple ∷ []) (suc (suc k))) (1 == suc (suc k))
    (false_from_ne_true (1 == suc (suc k)) (λ e. let f = eqb-true 1 (suc (suc k)) e in omega arith)) refl

shows_image : (vs : List Version) (items : List Item) → vs ≡ kept_row ∷ [] → items ≡ normal deleted_tuple ∷ [] → ShowsBlock second_origin second_checkpoint vs 0 items
shows_image vs items is are =
    subst (λ (l : List Version). ShowsBlock second_origin second_checkpoint l 0 items) (sym is)
    (subst (λ (l : List Item). ShowsBlock second_origin second_checkpoint (kept_row ∷ []) 0 l) (sym are) shows_lines)

delete_rule : TableRule second_origin worked_table second_checkpoint delete_by_701
unfolding versions block_count steps_in count_with own_steps births births_written whole_steps tuple_of head_bytes with_steps with_step version_at max_of is_lock_only number_at update_steps version_put version_written deleter_of_mark joined marked_mask changed_at
delete_rule =
    record {
      births = (tt, tt);
      deleters = (Takes 701 refl live_701 tt (inl first_committed), tt);
      removals = (tt, tt);
      cut = tt;
      blocks =
          one_block second_checkpoint delete_by_701 deleted_block
          (λ e. (shows_image (before_it (delete_by_701 ∷ second_checkpoint)) (items_in page_image) deleted_versions image_items, λ anew. absurd (false≢true anew)));
      locks = no_locks second_origin worked_table second_checkpoint delete_by_701 refl refl refl;
      checkpoint = tt;
      multixacts = (tt, tt);
    }

aborted_versions : before_it second_aborted ≡ kept_row ∷ []
unfolding versions block_count steps_in count_with own_steps births births_written whole_steps tuple_of head_bytes with_steps with_step version_at max_of is_lock_only number_at update_steps version_put version_written deleter_of_mark joined marked_mask changed_at
aborted_versions = refl

rule_702 : TableRule second_origin worked_table second_aborted insert_by_702
unfolding versions block_count steps_in count_with own_steps births births_written whole_steps tuple_of head_bytes with_steps with_step version_at max_of is_lock_only number_at update_steps version_put version_written deleter_of_mark joined marked_mask changed_at
rule_702 =
    record {
      births = (
        record { free = refl; live = live_702; inserter = Unmarked refl; unmarked = refl; spent = λ outside. tt },
        tt,
      );
      deleters = (tt, tt);
      removals = (tt, tt);
      cut = tt;
      blocks = one_block second_aborted insert_by_702 (block_one true) (λ e. (tt, λ anew line. refl));
      locks = no_locks second_origin worked_table second_aborted insert_by_702 refl refl refl;
      checkpoint = tt;
      multixacts = (tt, tt);
    }

rule_703 : TableRule second_origin worked_table (insert_by_702 ∷ second_aborted) insert_by_703
unfolding versions block_count steps_in count_with own_steps births births_written whole_steps tuple_of head_bytes with_steps with_step version_at max_of is_lock_only number_at update_steps version_put version_written deleter_of_mark joined marked_mask changed_at
rule_703 =
    record {
      births = (
        record { free = refl; live = live_703; inserter = Unmarked refl; unmarked = refl; spent = λ outside. tt },
        tt,
      );
      deleters = (tt, tt);
      removals = (tt, tt);
      cut = tt;
      blocks =
          one_block (insert_by_702 ∷ second_aborted) insert_by_703 (block_one false) (λ e. (tt, λ anew. absurd (false≢true anew)));
      locks = no_locks second_origin worked_table (insert_by_702 ∷ second_aborted) insert_by_703 refl refl refl;
      checkpoint = tt;
      multixacts = (tt, tt);
    }

first_locks : OnlineLocks second_origin worked_table 0x2000028 (nothing_runs ∷ [])
unfolding since up_to_running locks
first_locks = record { running = λ e. cc; rewritten = λ x held live. absurd (false≢true held) }

second_locks : OnlineLocks second_origin worked_table 0x2000178 (running_701 ∷ worked_first)
unfolding since up_to_running locks
second_locks = record { running = λ e. cc; rewritten = λ x held live. absurd (false≢true held) }

second_along : LegalAlong second_origin worked_table second_log
second_along = (
  plain_rule second_origin worked_table (insert_by_703 ∷ insert_by_702 ∷ second_aborted) commit_of_702 refl refl refl refl tt,
  (
    rule_703,
    (
      rule_702,
      (
        plain_rule second_origin worked_table (delete_by_701 ∷ second_checkpoint) abort_of_701 refl refl refl refl tt,
        (
          delete_rule,
          (
            plain_rule second_origin worked_table (running_701 ∷ worked_first) checkpoint_701 refl refl refl refl second_locks,
            (
              plain_rule second_origin worked_table worked_first running_701 refl refl refl refl tt,
              (
                plain_rule second_origin worked_table (insert_by_700 ∷ worked_start) commit_of_700 refl refl refl refl tt,
                (
                  first_rule,
                  (
                    plain_rule second_origin worked_table (online_checkpoint ∷ nothing_runs ∷ []) backup_end refl refl refl refl tt,
                    (plain_rule second_origin worked_table (nothing_runs ∷ []) online_checkpoint refl refl refl refl first_locks, (plain_rule second_origin worked_table [] nothing_runs refl refl refl refl tt, tt)),
                  ),
                ),
              ),
            ),
          ),
        ),
      ),
    ),
  ),
)

-- from the begin and from each of both checkpoints' redo positions
second_renews : (redo : ℕ) → is_redo second_log redo ≡ true → renews_first worked_table redo second_log ≡ true
unfolding renews_first since
second_renews redo h =
    elim (or_cases (redo == 0) ((0x2000178 == redo) || ((0x2000028 == redo) || false)) h) [
      | inl begins ↦ subst (λ (n : ℕ). renews_first worked_table n second_log ≡ true) (sym (eqb-true redo 0 begins)) refl
      | inr later ↦ elim (or_cases (0x2000178 == redo) ((0x2000028 == redo) || false) later) [
        | inl at ↦ subst (λ (n : ℕ). renews_first worked_table n second_log ≡ true) (eqb-true 0x2000178 redo at) refl
        | inr older ↦ elim (or_cases (0x2000028 == redo) false older) [
          | inl at ↦ subst (λ (n : ℕ). renews_first worked_table n second_log ≡ true) (eqb-true 0x2000028 redo at) refl
          | inr none ↦ absurd (false≢true none)
        ]
      ]
    ]

redone_ok : is_ok (view_after second_origin (worked_table ∷ []) second_log) ≡ true
unfolding view_after view_with_record redone_record redone redone_at redone_block after after_change changed_page changed put_listed put tuple_of head_bytes view_with with_seen grown put_answer set_head_answer change_head update update_within update_old put_version joined is_tuple is_tuple_head with_item number_at head_of marked_mask marked_mask2 replaced deleted locked is_lock_only items_of lines_of item_of restored is_page is_laid is_header is_placed rooms_apart
redone_ok = refl

all_versions : before_it second_log ≡ row_of 2 703 191 ∷ row_of 1 702 190 ∷ kept_row ∷ []
unfolding versions block_count steps_in count_with own_steps births births_written whole_steps tuple_of head_bytes with_steps with_step version_at max_of is_lock_only number_at update_steps version_put version_written deleter_of_mark joined marked_mask changed_at
all_versions = refl

second_legal_log : Legal worked_ids (transactions_of worked_log) → LegalLog second_origin (worked_table ∷ []) second_log
unfolding are_apart
second_legal_log worked =
    let (view, redone_is) = answered_view (view_after second_origin (worked_table ∷ []) second_log) redone_ok in
    record {
      apart = all_true (λ (rec : Rec). are_apart rec.blocks) second_log refl;
      shutdowns = all_true is_redo_own second_log refl;
      transactions = second_legal worked;
      multixacts = (tt, (tt, (tt, (tt, (tt, (tt, (tt, (tt, (tt, (tt, (tt, (tt, tt))))))))))));
      rows =
          All-cons (LegalTable second_origin second_log) worked_table []
          (record { along = second_along; renews = second_renews }) (All-nil (LegalTable second_origin second_log));
      view = view;
      redone = redone_is;
    }

-- newest first
abbrev newest_first : List Version
newest_first = row_of 2 703 191 ∷ row_of 1 702 190 ∷ kept_row ∷ []

all_count :
    filter (is_row (multixacts second_log) (committed_in second_origin second_log)) newest_first ≡ newest_first
unfolding committed transaction_of
all_count = refl

in_order : IsInPlaceOrder second_rows
in_order = (
  (inl (omega arith), (inl (omega arith), tt)),
  ((inr (refl, omega arith), tt), (tt, tt)),
)

are_rows :
    IsRows (multixacts second_log) (committed_in second_origin second_log) (versions second_origin worked_table second_log)
    second_rows
are_rows =
    record {
      same =
          subst (λ (l : List Version). IsPermutation l second_rows)
          (sym (ap (filter (is_row (multixacts second_log) (committed_in second_origin second_log))) all_versions ∙ all_count))
          (IsPermutation-reverse newest_first);
      in_order = in_order;
    }

pub second_log_is : Legal worked_ids (transactions_of worked_log) → IsSecondLog
second_log_is worked = record { legal = second_legal_log worked; rows = are_rows }
