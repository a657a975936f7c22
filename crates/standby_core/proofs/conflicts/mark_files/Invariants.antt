use Rattle.std.proofs.Common.{◌≡◌, length}
use Rattle.standby_core.specs.Conflicts.{mark_files}
use Rattle.standby_core.proofs.conflicts.mark_files.Given as goal

abbrev pub invariant-loop-file : goal.invariant-loop-file
invariant-loop-file l = record {
  gone : mark_files l.known l.start l.file-iterator l.gone.items ≡ mark_files l.known l.start l.fn.files l.initial.gone.items;
  count : length l.gone.items ≡ length l.initial.gone.items;
}
