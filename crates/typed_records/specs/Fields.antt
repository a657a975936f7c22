-- The steps that may refuse, and the blocks of the main fork.
use Rattle.std.specs.Prelude.{ℕ, ◌==◌, Option, Some, None, Result, Ok, Err, if◌then◌else◌}
use Rattle.wal_record.specs.Record.{Block, Record, block_by_id}
use Rattle.typed_records.specs.declared.types.BodyFault.{BodyFault}

infixl 10 ◌>>=◌
abbrev pub ◌>>=◌ : {A B : Type 0} → Result A BodyFault → (A → Result B BodyFault) → Result B BodyFault
(Err refusal) >>= f = Err refusal
(Ok x) >>= f = f x

-- a block, if it is of a relation's main fork; those of other forks (free space, visibility) are passed over
abbrev pub if_main : Option Block → Option Block
if_main None = None
if_main (Some block) = if block.fork == 0 then Some block else None

-- the block with this id, if the record has one, of the main fork
abbrev pub main_block : ℕ → Record → Option Block
main_block id rec = if_main (block_by_id id rec.blocks)
