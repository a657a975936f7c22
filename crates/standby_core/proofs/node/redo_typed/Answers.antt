use Rattle.std.proofs.Common.{Err, sym, subst}
use Rattle.page_store.specs.Content.{content}
use Rattle.table_schema.specs.Description.{locators}
use Rattle.page_store.specs.Seen.{view_of}
use Rattle.standby_core.specs.Steps.{TypedRedone}
use Rattle.standby_core.proofs.Replaying.{blocks_stopped}
use Rattle.standby_core.proofs.node.redo_typed.Goals as goal

pub returns-in-Err-clause-redone : goal.returns-in-Err-clause-redone
returns-in-Err-clause-redone c =
    let rec = c.args.rec.now in
    let known = locators c.args.tables.now in
    let old = view_of (content c.args.pool.now) in
    let new = view_of (content c.redo.new.pool) in
    subst (λ why. TypedRedone rec known (Err why) old new) (sym c.stopped_at.ensures)
    (blocks_stopped rec known old new c.in-Err.fault c.in-Err.ensures.answer)
