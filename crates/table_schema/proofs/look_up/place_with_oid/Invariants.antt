use Rattle.std.proofs.Common.{◌≡◌, drop}
use Rattle.table_schema.specs.Description.{first_that, has_oid}
use Rattle.table_schema.proofs.look_up.place_with_oid.Given as goal

abbrev pub invariant-loop-place : goal.invariant-loop-place
invariant-loop-place l = first_that (has_oid l.oid) l.place (drop l.place l.tables) ≡ first_that (has_oid l.oid) 0 l.tables
