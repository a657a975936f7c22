-- The node that replayed the example's files, and a scan that it opens.
use Rattle.std.proofs.Common.{◌≡◌, ℕ, Bool, true, false, nat_lt, ◌==◌, [], Option, None, Some, arith, inl, inr, refl, sym, subst, ◌∙◌}
use Rattle.std.proofs.lemmas.Bool.{cases_eq, le-ltb, ne_eqb}
use Rattle.std.specs.Prelude.{codes}
use Rattle.pg_types.specs.Numbers.{number_at}
use Rattle.heap_page.specs.Item.{with_item}
use Rattle.heap_page.specs.Put.{put_answer}
use Rattle.heap_tuple.specs.Tuple.{is_tuple, is_tuple_head, is_lock_only, max_of}
use Rattle.heap_tuple.specs.Values.{cell_of, cells_from, column_value, has_value, row_of, span_of, varlena_at}
use Rattle.heap_redo.specs.After.{after, after_change, changed, changed_page, put, put_listed, tuple_of}
use Rattle.heap_redo.specs.Redone.{grown, redone, redone_record, redone_at, redone_block, view_with, with_seen}
use Rattle.heap_redo.specs.TupleHeads.{head_bytes}
use Rattle.known_assigned.specs.Known.{after_end, after_observe, after_running, made_anew, past_oldest, unobserved}
use Rattle.standby_snapshot.specs.Snapshot.{in_progress, take_of}
use Rattle.tuple_visibility.specs.Visible.{deleter_of, inserter_counts, visible_of}
use Rattle.xact_redo.specs.State.{before_records, forgetting, state_after}
use Rattle.seq_scan.specs.BlockRows.{block_rows, rows_from}
use Rattle.pg_types.specs.declared.names.Lsn.{Lsn}
use Rattle.recovery_conflict.specs.Held.{locks_after}
use Rattle.recovery_conflict.specs.declared.locks.HeldLock.{HeldLock}
use Rattle.standby_core.specs.Conflicts.{gone_after}
use Rattle.standby_core.specs.Horizon.{parents_kept}
use Rattle.standby_core.specs.Standby.{Standby, at_origin}
use Rattle.standby_core.specs.Scans.{HasBlocks, OpensAdmitted, OpensTable, OpensUnlessCrowded, OpensUnlessGone, OpensUnlessLocked, gone_since, is_admitted, is_crowded, is_there, lock_of, with_new_scan}
use Rattle.standby_core.specs.declared.scans.Opened.{Opened as OpenedBy}
use Rattle.standby_core.specs.declared.scans.Opened.TheVariants as opened
use Rattle.table_schema.specs.Tables.{number_named}
use Rattle.session_model.specs.Events.{Reply, Open, Next, Opened, Page}
use Rattle.worked_archive.specs.WorkedArchive.{files, log}
use Rattle.worked_premise.specs.Premise.{node_step, page}
use Rattle.worked_premise.specs.WorkedSchema.{table_t, tables}
use Rattle.worked_premise.proofs.Redone.{AreRedone, node_after}

-- the node at the end of the log
abbrev pub node : Standby
node = node_after tables files log

pub are_redone : AreRedone tables files log
unfolding redone_record redone redone_at redone_block after after_change changed_page changed put_listed put tuple_of head_bytes put_answer is_tuple is_tuple_head with_item number_at at_origin
are_redone = (refl, (refl, (refl, (refl, (refl, tt)))))

admitted : is_admitted node ≡ true
unfolding at_origin parents_kept forgetting state_after before_records after_observe after_running past_oldest made_anew after_end
admitted = refl

not_crowded : is_crowded node ≡ false
unfolding at_origin
not_crowded = refl

-- no record dropped t, and no lock of it is in force
not_gone : gone_since node 0 ≡ None
unfolding at_origin gone_after
not_gone = refl

not_locked : lock_of node 0 ≡ None
unfolding at_origin locks_after
not_locked = refl

named : number_named node.tables (codes "t") ≡ Some 0
unfolding at_origin
named = refl

-- block 0 of t is there, and no other
first_is_there : is_there (node.blocks 0 0) ≡ true
unfolding redone_record redone redone_at redone_block after after_change changed_page changed put_listed put tuple_of head_bytes put_answer is_tuple is_tuple_head with_item number_at at_origin view_with with_seen grown
first_is_there = refl

none_there : (block : ℕ) → (block == 0) ≡ false → nat_lt block 0 ≡ false → is_there (node.blocks 0 block) ≡ false
unfolding redone_record redone redone_at redone_block after after_change changed_page changed put_listed put tuple_of head_bytes put_answer is_tuple is_tuple_head with_item number_at at_origin view_with with_seen grown
none_there block not_first none = rw (not_first, none) refl

count : HasBlocks node.blocks 0 1
count block =
    elim (cases_eq block 0) [
      | inl e ↦ subst (λ (b : ℕ). is_there (node.blocks 0 b) ≡ nat_lt b 1) (sym e) first_is_there
      | inr ne ↦
          none_there block (ne_eqb block 0 ne) (le-ltb block 0 (omega arith))
          ∙ sym (le-ltb block 1 (omega (arith, ne)))
    ]

-- the node with the scan
abbrev pub scanning : Standby
scanning = with_new_scan 0 1 node

abbrev answer : OpenedBy
answer = opened.Scan 1 (record { 0 = 0x2000168 })

id_is : opened.Scan node.next_id node.at ≡ answer
unfolding at_origin
id_is = refl

pub opens : node_step (Open (codes "t")) node (Opened 1 0x2000168) scanning
opens =
    let free : OpensUnlessLocked (lock_of node 0) node 0 answer scanning =
    subst (λ (held : Option HeldLock). OpensUnlessLocked held node 0 answer scanning) (sym not_locked)
    (1, count, sym id_is, refl) in
    let there : OpensUnlessGone (gone_since node 0) node 0 answer scanning =
    subst (λ (since : Option Lsn). OpensUnlessGone since node 0 answer scanning) (sym not_gone) free in
    let admits : OpensAdmitted (is_admitted node) node 0 answer scanning =
    subst (λ (b : Bool). OpensAdmitted b node 0 answer scanning) (sym admitted) there in
    let room : OpensUnlessCrowded (is_crowded node) node 0 answer scanning =
    subst (λ (b : Bool). OpensUnlessCrowded b node 0 answer scanning) (sym not_crowded) admits in
    (answer, subst (λ (o : Option ℕ). OpensTable o node answer scanning) (sym named) room, refl)

-- its first page, which is its last
abbrev pub page_reply : Reply
page_reply = Page 1 table_t 0 false page

abbrev pub read : Standby
read = record node { scans = []; next_id = 2 }

pub reads : node_step (Next 1) scanning page_reply read
unfolding redone_record redone redone_at redone_block after after_change changed_page changed put_listed put tuple_of head_bytes put_answer is_tuple is_tuple_head with_item number_at at_origin view_with with_seen grown parents_kept forgetting state_after before_records after_observe after_running past_oldest made_anew after_end unobserved block_rows rows_from visible_of inserter_counts deleter_of in_progress take_of row_of cells_from column_value has_value span_of varlena_at cell_of max_of is_lock_only
reads = (refl, refl)
