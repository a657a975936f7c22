use Rattle.std.proofs.Common.{◌∙◌, Some, sym, ap, arith, subst}
use Rattle.std.specs.Prelude.{option_map}
use Rattle.wal_record.specs.Views.{block_of_view}
use Rattle.typed_records.specs.Blocks.{block_with}
use Rattle.typed_records.specs.Stored.{IsNextBlock}
use Rattle.typed_records.proofs.Walks.{next_is, next_passed, next_none}
use Rattle.typed_records.proofs.blocks.next_block.Goals as goal

pub returns-in-Some : goal.returns-in-Some
returns-in-Some c =
    let rec = c.args.view.now in
    let tuples = c.args.tuples.now in
    let id = c.loop-id.id in
    let block = block_of_view id c.in-Some.block in
    let found = sym c.main_block.ensures ∙ ap (λ found. option_map (λ block. block_of_view id block) found) c.in-Some.is in
    subst (λ made. IsNextBlock rec tuples c.args.from c.args.ids (Some made)) (sym (c.block_with.ensures ∙ ap (λ tuples. block_with tuples block) c.held_for.ensures))
    ((omega arith), next_is rec tuples c.args.from id c.args.ids block (omega arith) found c.loop-id.invariant)

pub loop-id-preserved : goal.loop-id-preserved
loop-id-preserved c =
    let id = c.loop-id.id in
    let found = sym c.main_block.ensures ∙ ap (λ found. option_map (λ block. block_of_view id block) found) c.in_default.is in
    next_passed c.args.view.now c.args.tuples.now id c.args.ids (omega arith) found ∙ c.loop-id.invariant

pub returns : goal.returns
returns c = sym c.loop-id.invariant ∙ next_none c.args.view.now c.args.tuples.now c.loop-id.id c.args.ids (omega arith)
