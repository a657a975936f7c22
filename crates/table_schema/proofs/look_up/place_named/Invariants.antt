use Rattle.std.proofs.Common.{◌≡◌, drop}
use Rattle.table_schema.specs.Description.{first_that, is_named}
use Rattle.table_schema.proofs.look_up.place_named.Given as goal

abbrev pub invariant-loop-place : goal.invariant-loop-place
invariant-loop-place l = first_that (is_named l.name) l.place (drop l.place l.tables) ≡ first_that (is_named l.name) 0 l.tables
