use Rattle.std.proofs.Common.{◌≡◌, drop}
use Rattle.table_schema.specs.Description.{first_that}
use Rattle.table_schema.specs.Reading.{same_name}
use Rattle.table_schema.proofs.look_up.place_of_name.Given as goal

abbrev pub invariant-loop-place : goal.invariant-loop-place
invariant-loop-place l = first_that (same_name l.name) l.place (drop l.place l.names) ≡ first_that (same_name l.name) 0 l.names
