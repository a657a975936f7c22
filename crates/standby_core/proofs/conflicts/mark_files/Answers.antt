use Rattle.std.proofs.Common.{ap, sym, ◌∙◌}
use Rattle.standby_core.specs.Conflicts.{mark_files}
use Rattle.standby_core.proofs.Cancelled.{files_next, files_none}
use Rattle.standby_core.proofs.conflicts.mark_files.Goals as goal

pub loop-file-preserved : goal.loop-file-preserved
loop-file-preserved c = record {
  gone = ap (mark_files c.args.known.now c.args.start c.next.new.self) c.mark_file.ensures.gone
      ∙ files_next c.args.known.now c.args.start c.loop-file.file-iterator c.next.new.self c.in-Some.file c.loop-file.gone.items c.in-Some.ensures.steps
      ∙ c.loop-file.invariant.gone;
  count = c.mark_file.ensures.count ∙ c.loop-file.invariant.count;
}

pub returns-clause-gone : goal.returns-clause-gone
returns-clause-gone c =
    sym (files_none c.args.known.now c.args.start c.loop-file.file-iterator c.loop-file.gone.items c.in-None.ensures.steps.0)
    ∙ c.loop-file.invariant.gone
