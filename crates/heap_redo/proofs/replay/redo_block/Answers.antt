use Rattle.std.proofs.Common.{rules, ap, sym, ◌∙◌, inr}
use Rattle.pg_types.specs.declared.names.Tag.{Tag}
use Rattle.heap_redo.specs.After.{no_page}
use Rattle.heap_redo.specs.Refused.{fault_at}
use Rattle.page_store.specs.Content.{content}
use Rattle.page_store.specs.Seen.{view_of}
use Rattle.heap_redo.specs.Redone.{redone_block, redone_in, redone_at, view_by}
use Rattle.heap_redo.proofs.OneBlock.{other-block, last-refused, left-kept}
use Rattle.heap_redo.proofs.Views.{left-outcome, err-is, followed}
use Rattle.heap_redo.proofs.replay.redo_block.Goals as goal

pub returns-in_default : goal.returns-in_default
unfolding redone_at
returns-in_default c =
    record {
      answer = inr (ap (redone_in c.args.rec.now c.args.block.now (view_of (content c.args.pool.now))) c.in_default.ensures.value);
      err = search rules;
      tables = search rules;
    }

pub returns-then-block : goal.returns-then-block
unfolding redone_at
returns-then-block c =
    let rec = c.args.rec.now in
    let block = c.args.block.now in
    let view = view_of (content c.args.pool.now) in
    let table = c.in-Some.table in
    let tag : Tag = record { table = table; block = block.block } in
    record {
      answer = inr (err-is c.fault_at.result (fault_at block no_page) c.fault_at.ensures
          ∙ ap (view_by rec block view tag) (last-refused rec block c.if-block.true (view table block.block))
          ∙ ap (redone_in rec block view) c.in-Some.ensures.value);
      err = search rules;
      tables = search rules;
    }

pub returns-then-is_left : goal.returns-then-is_left
unfolding redone_at
returns-then-is_left c =
    let rec = c.args.rec.now in
    let block = c.args.block.now in
    let view = view_of (content c.args.pool.now) in
    let table = c.in-Some.table in
    record {
      answer = inr (left-outcome rec block view (record { table = table; block = block.block }) (sym c.if-is_left.ensures)
          (redone_block rec block (view table block.block)) (left-kept rec block (other-block block.block c.if-block.false) (sym c.if-is_left.ensures) (view table block.block))
          ∙ ap (redone_in rec block view) c.in-Some.ensures.value);
      err = search rules;
      tables = search rules;
    }

pub returns-then-is_anew : goal.returns-then-is_anew
unfolding redone_at
returns-then-is_anew c =
    let rec = c.args.rec.now in
    let block = c.args.block.now in
    let view = view_of (content c.args.pool.now) in
    record {
      answer = followed (view_of (content c.remake.new.pool)) c.remake.result _ _ (ap (redone_in rec block view) c.in-Some.ensures.value) c.remake.ensures.answer;
      err = c.remake.ensures.err;
      tables = c.remake.ensures.tables;
    }

pub returns-else-is_anew : goal.returns-else-is_anew
unfolding redone_at
returns-else-is_anew c =
    let rec = c.args.rec.now in
    let block = c.args.block.now in
    let view = view_of (content c.args.pool.now) in
    record {
      answer = inr (c.change.ensures.answer ∙ ap (redone_in rec block view) c.in-Some.ensures.value);
      err = c.change.ensures.err;
      tables = c.change.ensures.tables;
    }
