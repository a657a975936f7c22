use Rattle.std.proofs.Common.{ap, sym, subst, ◌∙◌, ◌≤◌, ℕ, length}
use Rattle.page_store.specs.Content.{content}
use Rattle.page_store.specs.Seen.{view_of}
use Rattle.heap_redo.specs.Redone.{drop_files}
use Rattle.heap_redo.proofs.Cuts.{drops-next, drops-none}
use Rattle.heap_redo.proofs.cut.drop_files.Goals as goal

pub cut_file-requires-clause-tables : goal.cut_file-requires-clause-tables
cut_file-requires-clause-tables c =
    let P : ℕ → Type 0 = λ count. length c.args.known.now ≤ count in subst P (sym c.loop-file.invariant.tables) c.requires.tables

pub loop-file-preserved : goal.loop-file-preserved
loop-file-preserved c = record {
  view = ap (drop_files c.args.known.now c.next.new.self) c.cut_file.ensures.view
      ∙ drops-next c.args.known.now c.loop-file.file-iterator c.next.new.self c.in-Some.file (view_of (content c.loop-file.pool)) c.in-Some.ensures.steps
      ∙ c.loop-file.invariant.view;
  tables = c.cut_file.ensures.tables ∙ c.loop-file.invariant.tables;
}

pub returns-clause-view : goal.returns-clause-view
returns-clause-view c =
    sym (drops-none c.args.known.now c.loop-file.file-iterator (view_of (content c.loop-file.pool)) c.in-None.ensures.steps.0)
    ∙ c.loop-file.invariant.view
