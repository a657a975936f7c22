use Rattle.std.proofs.Common.{subst, inr, List, Ok}
use Rattle.pg_types.specs.declared.names.Locator.{Locator}
use Rattle.page_store.specs.Content.{content}
use Rattle.page_store.specs.Seen.{View, view_of}
use Rattle.heap_redo.specs.Redone.{Stands}
use Rattle.heap_redo.proofs.Cuts.{cut-redone}
use Rattle.heap_redo.proofs.replay.redo.Goals as goal

pub returns-then-cut-clause-answer : goal.returns-then-cut-clause-answer
returns-then-cut-clause-answer c =
    let rec = c.args.rec.now in
    let old : View = view_of (content c.args.pool.now) in
    let new : View = view_of (content c.cut.new.pool) in
    let P : List Locator → Type 0 = λ known. Stands rec known old new (Ok tt) in
    subst P c.locators-known.ensures.files (inr (cut-redone rec c.locators-known.result.now old new c.if-cut.ensures.view))
