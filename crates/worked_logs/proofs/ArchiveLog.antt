-- The log that the example's archive tells keeps each clause.
use Rattle.std.proofs.Common.{◌≡◌, ℕ, true, false, ◌==◌, ◌||◌, List, [], ◌∷◌, is_ok, arith, refl, sym, subst, inl, inr}
use Rattle.std.proofs.lemmas.Bool.{eqb-true, false≢true, or_cases}
use Rattle.std.proofs.lemmas.List.Elements.{All-cons, All-head, All-nil}
use Rattle.pg_types.specs.Numbers.{number_at}
use Rattle.pg_types.specs.declared.names.Locator.{Locator}
use Rattle.typed_records.specs.declared.types.RecBlock.{RecBlock}
use Rattle.typed_records.specs.declared.types.Rec.{Rec}
use Rattle.heap_tuple.specs.Tuple.{is_lock_only, is_tuple, is_tuple_head, max_of}
use Rattle.heap_page.specs.Item.{with_item}
use Rattle.heap_page.specs.Put.{put_answer, set_head_answer}
use Rattle.heap_redo.specs.Redone.{grown, redone, redone_record, redone_at, redone_block, view_with, with_seen}
use Rattle.heap_redo.specs.After.{after, after_change, change_head, changed, changed_page, joined, put, put_listed, put_version, tuple_of, update, update_old, update_within}
use Rattle.heap_redo.specs.TupleHeads.{deleted, head_bytes, head_of, locked, marked_mask, marked_mask2, replaced}
use Rattle.transaction_model.specs.Transactions.{Live, ended}
use Rattle.transaction_model.specs.LegalTransactions.{Legal, before}
use Rattle.xact_redo.specs.TransactionsOf.{transaction_of, transactions_of}
use Rattle.row_model.specs.Versions.{Version, changed_at, version_at, with_step, with_steps}
use Rattle.row_model.specs.Locks.{locks, since, up_to_running}
use Rattle.row_model.specs.RowSteps.{births, births_written, block_count, count_with, deleter_of_mark, own_steps, steps_in, update_steps, version_put, version_written, versions, view_after, view_with_record, whole_steps}
use Rattle.row_model.specs.LegalSteps.{Unmarked}
use Rattle.row_model.specs.LegalRows.{AnewRule, BlocksRule, ImageRule, LegalLog, OnlineLocks, are_apart, is_redo, is_redo_own, renews_first}
use Rattle.row_model.specs.WorkedRows.{worked_ids, worked_log, worked_origin, worked_table}
use Rattle.worked_logs.specs.Clauses.{Clause, Births, Deleters, Removals, Cut, Blocks, Locks, CheckpointLocks, Multixacts, Renews, Apart, Shutdowns, Transactions, NewMultixacts, Redone}
use Rattle.worked_logs.proofs.OneMore.{Adds, IsBlockRule, WorkedKeeps, each_keeps, no_blocks, renews_two}
use Rattle.transaction_model.specs.LegalTransactions.{TransactionOriginRule}
use Rattle.std.specs.Prelude.{pos}
use Rattle.row_model.specs.RowSteps.{view_before}
use Rattle.heap_redo.specs.After.{applied}
use Rattle.typed_records.specs.declared.types.RecKind.TheVariants.{BackupEnd, Checkpoint, Ended, Insert, Running}
use Rattle.worked_archive.specs.WorkedArchive.{backup_end, commit_of_700, insert_by_700, inserted_block, known, log, online_checkpoint, rec_with, running_record}
use Rattle.worked_logs.proofs.Legal.{keeping_is_legal_holds}
use Rattle.row_model.specs.LegalRows.{LegalAlong, LegalTable, TableRule}
use Rattle.row_model.proofs.WorkedIds.{commit_rule}
use Rattle.row_model.proofs.WorkedLog.{answered_view, no_locks, plain_rule}
use Rattle.row_model.specs.WorkedRows.{worked_start}
use Rattle.worked_logs.specs.ArchiveLog.{ArchiveIsLegal}
use Rattle.pg_types.specs.Locators.{same_locator}

-- the records, and the logs up to them
abbrev running : Rec
running = rec_with running_record (Running 0 0 false (record { 0 = 700 }) (record { 0 = 700 }) (record { 0 = 699 }) []) []

abbrev checkpoint : Rec
checkpoint =
    rec_with online_checkpoint
    (Checkpoint (record { 0 = 0x2000028 }) (record { 0 = 1 }) (record { 0 = 1 }) true (record { 0 = 700 }) 1 0 1 (record { 0 = 700 }))
    []

abbrev ending : Rec
ending = rec_with backup_end (BackupEnd (record { 0 = 0x2000028 })) []

abbrev insert : Rec
insert = rec_with insert_by_700 (Insert 1 0) (inserted_block ∷ [])

abbrev commit : Rec
commit = rec_with commit_of_700 (Ended (pos 0) 0 [] []) []

abbrev at_start : List Rec
at_start = ending ∷ checkpoint ∷ running ∷ []

-- nothing is written
empty_keeps : TransactionOriginRule worked_ids → WorkedKeeps []
unfolding renews_first Legal view_after
empty_keeps rule Births = tt
empty_keeps rule Deleters = tt
empty_keeps rule Removals = tt
empty_keeps rule Cut = tt
empty_keeps rule Blocks = tt
empty_keeps rule Locks = tt
empty_keeps rule CheckpointLocks = tt
empty_keeps rule Multixacts = tt
empty_keeps rule Renews = λ redo h. refl
empty_keeps rule Apart = All-nil (λ (rec : Rec). are_apart rec.blocks ≡ true)
empty_keeps rule Shutdowns = All-nil (λ (rec : Rec). is_redo_own rec ≡ true)
empty_keeps rule Transactions = rule
empty_keeps rule NewMultixacts = tt
empty_keeps rule Redone = (view_before worked_origin (worked_table ∷ []), refl)

-- transactions are those of the worked log's begin
start_legal : Legal worked_ids (transactions_of worked_start) → Legal worked_ids (transactions_of at_start)
unfolding transaction_of
start_legal legal = legal

archive_locks : OnlineLocks worked_origin worked_table 0x2000028 (running ∷ [])
unfolding since up_to_running locks
archive_locks = record { running = λ e. cc; rewritten = λ x held live. absurd (false≢true held) }

-- redo begins at the log's begin alone
renews_one : (log : List Rec) (redo : ℕ) → ((redo == 0) || false) ≡ true → renews_first worked_table 0 log ≡ true → renews_first worked_table redo log ≡ true
renews_one log redo h from_begin =
    elim (or_cases (redo == 0) false h) [
      | inl begins ↦ subst (λ (n : ℕ). renews_first worked_table n log ≡ true) (sym (eqb-true redo 0 begins)) from_begin
      | inr none ↦ absurd (false≢true none)
    ]

module _ (legal : Legal worked_ids (transactions_of worked_start)) where
  running_redone : is_ok (view_after worked_origin (worked_table ∷ []) (running ∷ [])) ≡ true
  unfolding view_after view_with_record redone_record redone redone_at redone_block after after_change changed_page changed put_listed put tuple_of head_bytes view_with with_seen grown put_answer set_head_answer change_head update update_within update_old put_version joined is_tuple is_tuple_head with_item number_at head_of marked_mask marked_mask2 replaced deleted locked is_lock_only
  running_redone = refl

  running_adds : (clause : Clause) → Adds clause [] running
  unfolding versions block_count steps_in count_with own_steps births births_written whole_steps tuple_of head_bytes with_steps with_step version_at max_of is_lock_only number_at update_steps version_put version_written deleter_of_mark joined marked_mask changed_at renews_first since are_apart up_to_running locks transaction_of Legal
  running_adds Births = tt
  running_adds Deleters = tt
  running_adds Removals = tt
  running_adds Cut = tt
  running_adds Blocks = no_blocks [] (versions worked_origin worked_table []) (versions worked_origin worked_table (running ∷ []))
  running_adds Locks = no_locks worked_origin worked_table [] running refl refl refl
  running_adds CheckpointLocks = tt
  running_adds Multixacts = tt
  running_adds Renews = λ redo h. renews_one (running ∷ []) redo h refl
  running_adds Apart = refl
  running_adds Shutdowns = refl
  running_adds Transactions = λ before. (start_legal legal).1.1
  running_adds NewMultixacts = tt
  running_adds Redone = running_redone

  checkpoint_redone : is_ok (view_after worked_origin (worked_table ∷ []) (checkpoint ∷ (running ∷ []))) ≡ true
  unfolding view_after view_with_record redone_record redone redone_at redone_block after after_change changed_page changed put_listed put tuple_of head_bytes view_with with_seen grown put_answer set_head_answer change_head update update_within update_old put_version joined is_tuple is_tuple_head with_item number_at head_of marked_mask marked_mask2 replaced deleted locked is_lock_only
  checkpoint_redone = refl

  checkpoint_adds : (clause : Clause) → Adds clause (running ∷ []) checkpoint
  unfolding versions block_count steps_in count_with own_steps births births_written whole_steps tuple_of head_bytes with_steps with_step version_at max_of is_lock_only number_at update_steps version_put version_written deleter_of_mark joined marked_mask changed_at renews_first since are_apart up_to_running locks transaction_of Legal
  checkpoint_adds Births = tt
  checkpoint_adds Deleters = tt
  checkpoint_adds Removals = tt
  checkpoint_adds Cut = tt
  checkpoint_adds Blocks = no_blocks (running ∷ []) (versions worked_origin worked_table (running ∷ [])) (versions worked_origin worked_table (checkpoint ∷ (running ∷ [])))
  checkpoint_adds Locks = no_locks worked_origin worked_table (running ∷ []) checkpoint refl refl refl
  checkpoint_adds CheckpointLocks = archive_locks
  checkpoint_adds Multixacts = tt
  checkpoint_adds Renews = λ redo h. renews_two (checkpoint ∷ (running ∷ [])) redo h refl refl
  checkpoint_adds Apart = refl
  checkpoint_adds Shutdowns = refl
  checkpoint_adds Transactions = λ before. (start_legal legal).1
  checkpoint_adds NewMultixacts = tt
  checkpoint_adds Redone = checkpoint_redone

  ending_redone : is_ok (view_after worked_origin (worked_table ∷ []) (ending ∷ (checkpoint ∷ running ∷ []))) ≡ true
  unfolding view_after view_with_record redone_record redone redone_at redone_block after after_change changed_page changed put_listed put tuple_of head_bytes view_with with_seen grown put_answer set_head_answer change_head update update_within update_old put_version joined is_tuple is_tuple_head with_item number_at head_of marked_mask marked_mask2 replaced deleted locked is_lock_only
  ending_redone = refl

  ending_adds : (clause : Clause) → Adds clause (checkpoint ∷ running ∷ []) ending
  unfolding versions block_count steps_in count_with own_steps births births_written whole_steps tuple_of head_bytes with_steps with_step version_at max_of is_lock_only number_at update_steps version_put version_written deleter_of_mark joined marked_mask changed_at renews_first since are_apart up_to_running locks transaction_of Legal
  ending_adds Births = tt
  ending_adds Deleters = tt
  ending_adds Removals = tt
  ending_adds Cut = tt
  ending_adds Blocks = no_blocks (checkpoint ∷ running ∷ []) (versions worked_origin worked_table (checkpoint ∷ running ∷ [])) (versions worked_origin worked_table (ending ∷ (checkpoint ∷ running ∷ [])))
  ending_adds Locks = no_locks worked_origin worked_table (checkpoint ∷ running ∷ []) ending refl refl refl
  ending_adds CheckpointLocks = tt
  ending_adds Multixacts = tt
  ending_adds Renews = λ redo h. renews_two (ending ∷ (checkpoint ∷ running ∷ [])) redo h refl refl
  ending_adds Apart = refl
  ending_adds Shutdowns = refl
  ending_adds Transactions = λ before. start_legal legal
  ending_adds NewMultixacts = tt
  ending_adds Redone = ending_redone

insert_live : Live worked_ids.at 700 (transactions_of at_start)
unfolding ended transaction_of
insert_live = record { normal = omega arith; not_ended = refl }

commit_live : Live worked_ids.at 700 (transactions_of (insert ∷ at_start))
unfolding ended transaction_of
commit_live = record { normal = omega arith; not_ended = refl }

insert_blocks : BlocksRule worked_origin worked_table at_start [] (versions worked_origin worked_table (insert ∷ at_start)) (inserted_block ∷ [])
unfolding version_at
insert_blocks =
    All-cons (IsBlockRule at_start [] (versions worked_origin worked_table (insert ∷ at_start))) inserted_block []
    (λ e. (tt, λ anew line. refl)) (All-nil (IsBlockRule at_start [] (versions worked_origin worked_table (insert ∷ at_start))))

insert_redone : is_ok (view_after worked_origin (worked_table ∷ []) (insert ∷ at_start)) ≡ true
unfolding view_after view_with_record redone_record redone redone_at redone_block after after_change changed_page changed put_listed put tuple_of head_bytes view_with with_seen grown put_answer set_head_answer change_head update update_within update_old put_version joined is_tuple is_tuple_head with_item number_at head_of marked_mask marked_mask2 replaced deleted locked is_lock_only
insert_redone = refl

insert_adds : (clause : Clause) → Adds clause at_start insert
unfolding versions block_count steps_in count_with own_steps births births_written whole_steps tuple_of head_bytes with_steps with_step version_at max_of is_lock_only number_at update_steps version_put version_written deleter_of_mark joined marked_mask changed_at renews_first since are_apart up_to_running locks transaction_of Legal
insert_adds Births = (record { free = refl; live = insert_live; inserter = Unmarked refl; unmarked = refl; spent = λ outside. tt }, tt)
insert_adds Deleters = (tt, tt)
insert_adds Removals = (tt, tt)
insert_adds Cut = tt
insert_adds Blocks = insert_blocks
insert_adds Locks = no_locks worked_origin worked_table at_start insert refl refl refl
insert_adds CheckpointLocks = tt
insert_adds Multixacts = (tt, tt)
insert_adds Renews = λ redo h. renews_two (insert ∷ at_start) redo h refl refl
insert_adds Apart = refl
insert_adds Shutdowns = refl
insert_adds Transactions = λ legal. (tt, legal)
insert_adds NewMultixacts = tt
insert_adds Redone = insert_redone

commit_redone : is_ok (view_after worked_origin (worked_table ∷ []) (commit ∷ (insert ∷ at_start))) ≡ true
unfolding view_after view_with_record redone_record redone redone_at redone_block after after_change changed_page changed put_listed put tuple_of head_bytes view_with with_seen grown put_answer set_head_answer change_head update update_within update_old put_version joined is_tuple is_tuple_head with_item number_at head_of marked_mask marked_mask2 replaced deleted locked is_lock_only
commit_redone = refl

commit_adds : (clause : Clause) → Adds clause (insert ∷ at_start) commit
unfolding versions block_count steps_in count_with own_steps births births_written whole_steps tuple_of head_bytes with_steps with_step version_at max_of is_lock_only number_at update_steps version_put version_written deleter_of_mark joined marked_mask changed_at renews_first since are_apart up_to_running locks transaction_of Legal
commit_adds Births = tt
commit_adds Deleters = tt
commit_adds Removals = tt
commit_adds Cut = tt
commit_adds Blocks = no_blocks (insert ∷ at_start) (versions worked_origin worked_table (insert ∷ at_start)) (versions worked_origin worked_table (commit ∷ (insert ∷ at_start)))
commit_adds Locks = no_locks worked_origin worked_table (insert ∷ at_start) commit refl refl refl
commit_adds CheckpointLocks = tt
commit_adds Multixacts = tt
commit_adds Renews = λ redo h. renews_two (commit ∷ (insert ∷ at_start)) redo h refl refl
commit_adds Apart = refl
commit_adds Shutdowns = refl
commit_adds Transactions = λ legal. (commit_rule 700 (transactions_of (insert ∷ at_start)) commit_live, legal)
commit_adds NewMultixacts = tt
commit_adds Redone = commit_redone

-- the other table
abbrev other_table : Locator
other_table = record { space = 1663; db = 16384; rel = 16390 }

both_redone : is_ok (view_after worked_origin known log) ≡ true
unfolding view_after view_with_record redone_record redone redone_at redone_block after after_change changed_page changed put_listed put tuple_of head_bytes view_with with_seen grown put_answer set_head_answer change_head update update_within update_old put_version joined is_tuple is_tuple_head with_item number_at head_of marked_mask marked_mask2 replaced deleted locked is_lock_only
both_redone = refl

-- what a record keeps to in one of its blocks in the other table
abbrev IsOtherRule : List Rec → List Version → List Version → RecBlock → Type 0
IsOtherRule older before after block =
    same_locator other_table block.locator ≡ true
    → ImageRule worked_origin older after block.block (applied block.image) × AnewRule before block

other_insert : TableRule worked_origin other_table at_start insert
unfolding steps_in
other_insert =
    record {
      births = tt;
      deleters = tt;
      removals = tt;
      cut = tt;
      blocks =
          All-cons (IsOtherRule at_start (versions worked_origin other_table at_start) (versions worked_origin other_table (insert ∷ at_start)))
          inserted_block [] (λ e. absurd (false≢true e))
          (All-nil (IsOtherRule at_start (versions worked_origin other_table at_start) (versions worked_origin other_table (insert ∷ at_start))));
      locks = no_locks worked_origin other_table at_start insert refl refl refl;
      checkpoint = tt;
      multixacts = tt;
    }

other_locks : OnlineLocks worked_origin other_table 0x2000028 (running ∷ [])
unfolding since up_to_running locks
other_locks = record { running = λ e. cc; rewritten = λ x held live. absurd (false≢true held) }

other_along : LegalAlong worked_origin other_table log
other_along = (
  plain_rule worked_origin other_table (insert ∷ at_start) commit refl refl refl refl tt,
  (
    other_insert,
    (
      plain_rule worked_origin other_table (checkpoint ∷ running ∷ []) ending refl refl refl refl tt,
      (plain_rule worked_origin other_table (running ∷ []) checkpoint refl refl refl refl other_locks, (plain_rule worked_origin other_table [] running refl refl refl refl tt, tt)),
    ),
  ),
)

other_renews : (redo : ℕ) → is_redo log redo ≡ true → renews_first other_table redo log ≡ true
unfolding renews_first since
other_renews redo h =
    elim (or_cases (redo == 0) ((0x2000028 == redo) || false) h) [
      | inl begins ↦ subst (λ (n : ℕ). renews_first other_table n log ≡ true) (sym (eqb-true redo 0 begins)) refl
      | inr later ↦ elim (or_cases (0x2000028 == redo) false later) [
        | inl at ↦ subst (λ (n : ℕ). renews_first other_table n log ≡ true) (eqb-true 0x2000028 redo at) refl
        | inr none ↦ absurd (false≢true none)
      ]
    ]

archive_keeps : Legal worked_ids (transactions_of worked_start) → TransactionOriginRule worked_ids → WorkedKeeps log
archive_keeps legal rule =
    each_keeps (insert ∷ at_start) commit
    (each_keeps at_start insert
    (each_keeps (checkpoint ∷ running ∷ []) ending
    (each_keeps (running ∷ []) checkpoint (each_keeps [] running (empty_keeps rule) (running_adds legal)) (checkpoint_adds legal))
    (ending_adds legal)) insert_adds) commit_adds

-- the transactions' rules at the begin of the worked log
worked_begin : Legal worked_ids (transactions_of worked_log) → Legal worked_ids (transactions_of worked_start)
unfolding Legal
worked_begin legal = legal.1.1.1.1

at_origin : Legal worked_ids (transactions_of worked_start) → TransactionOriginRule worked_ids
unfolding Legal
at_origin legal = legal.1.1.1

pub archive_is_legal : LegalLog worked_origin (worked_table ∷ []) worked_log → ArchiveIsLegal
archive_is_legal worked =
    let begin : Legal worked_ids (transactions_of worked_start) = worked_begin worked.transactions in
    let first : LegalLog worked_origin (worked_table ∷ []) log =
    keeping_is_legal_holds worked_origin worked_table log (archive_keeps begin (at_origin begin)) in
    let (view, redone_is) = answered_view (view_after worked_origin known log) both_redone in
    record {
      apart = first.apart;
      shutdowns = first.shutdowns;
      transactions = first.transactions;
      multixacts = first.multixacts;
      rows =
          All-cons (LegalTable worked_origin log) worked_table (other_table ∷ [])
          (All-head (LegalTable worked_origin log) worked_table [] first.rows)
          (All-cons (LegalTable worked_origin log) other_table [] (record { along = other_along; renews = other_renews })
          (All-nil (LegalTable worked_origin log)));
      view = view;
      redone = redone_is;
    }
