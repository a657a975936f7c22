-- The blocks of a record with the tuples of its block 0, unless these are refused.
use Rattle.std.specs.Prelude.{ℕ, List, Result, Ok, Err}
use Rattle.wal_record.specs.Record.{Record}
use Rattle.typed_records.specs.declared.types.BodyFault.{BodyFault}
use Rattle.typed_records.specs.declared.types.NewTuple.{NewTuple}
use Rattle.typed_records.specs.declared.types.RecBlock.{RecBlock}
use Rattle.typed_records.specs.declared.types.RecKind.{RecKind}
use Rattle.typed_records.specs.Blocks.{blocks_of}
use Rattle.wal_bodies.specs.Typed.{blocks_as}

-- the blocks whose id is below a number, with these tuples, unless they are refused
abbrev pub with_blocks : ℕ → Record → Result (List NewTuple) BodyFault → Result (List RecBlock) BodyFault
with_blocks ids rec (Ok tuples) = Ok (blocks_of ids tuples rec)
with_blocks ids rec (Err fault) = Err fault

-- those of a record of this kind
abbrev pub with_blocks_as : RecKind → Record → Result (List NewTuple) BodyFault → Result (List RecBlock) BodyFault
with_blocks_as kind rec (Ok tuples) = Ok (blocks_as kind tuples rec)
with_blocks_as kind rec (Err fault) = Err fault
