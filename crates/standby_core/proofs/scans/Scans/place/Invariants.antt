use Rattle.std.proofs.Common.{◌≡◌, drop}
use Rattle.table_schema.specs.Description.{first_that}
use Rattle.standby_core.specs.Pages.{has_id}
use Rattle.standby_core.proofs.scans.Scans.place.Given as goal

abbrev pub invariant-loop-place : goal.invariant-loop-place
invariant-loop-place l = first_that (has_id l.id) l.place (drop l.place l.self.open.items) ≡ first_that (has_id l.id) 0 l.self.open.items
