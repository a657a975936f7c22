use Rattle.std.proofs.Common.{◌≡◌}
use Rattle.multixact.specs.Made.{updater_among}
use Rattle.multixact.proofs.entries.updater_among.Given as goal

abbrev pub invariant-loop-member : goal.invariant-loop-member
invariant-loop-member l = updater_among l.member-iterator ≡ updater_among l.fn.members
