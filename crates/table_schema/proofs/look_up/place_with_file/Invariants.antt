use Rattle.std.proofs.Common.{◌≡◌, drop}
use Rattle.table_schema.specs.Description.{first_that, has_file}
use Rattle.table_schema.proofs.look_up.place_with_file.Given as goal

abbrev pub invariant-loop-place : goal.invariant-loop-place
invariant-loop-place l = first_that (has_file l.file) l.place (drop l.place l.tables) ≡ first_that (has_file l.file) 0 l.tables
