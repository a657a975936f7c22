use Rattle.std.proofs.Common.{◌≡◌, drop}
use Rattle.standby_core.specs.Horizon.{least_xmin}
use Rattle.standby_core.proofs.scans.Scans.least_xmin.Given as goal

abbrev pub invariant-loop-one : goal.invariant-loop-one
invariant-loop-one l = least_xmin l.least (drop l.one-index l.one-items) ≡ least_xmin l.fn.most.0 l.one-items
