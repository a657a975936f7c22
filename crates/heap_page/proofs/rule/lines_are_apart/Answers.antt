use Rattle.std.proofs.Common.{false}
use Rattle.std.proofs.lemmas.List.{get_or-replicate}
use Rattle.heap_page.proofs.rule.lines_are_apart.Goals as goal

pub units_are_taken_once-requires-clause-free : goal.units_are_taken_once-requires-clause-free
units_are_taken_once-requires-clause-free c = record { each = λ unit _ below. get_or-replicate 1024 unit false false below }
