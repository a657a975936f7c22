-- What the lists of a typed record mean that are read where they stand in the record.
use Rattle.std.specs.Prelude.{◌≡◌, ℕ, zero, suc, ◌+◌, ◌-◌, ◌≤◌, ◌<◌, Bool, true, false, List, [], ◌∷◌, ◌++◌, length, drop, Option, Some, None, Result, Ok, Err, IsOk}
use Rattle.wal_record.specs.Record.{Record}
use Rattle.typed_records.specs.declared.types.BodyFault.{BodyFault}
use Rattle.typed_records.specs.declared.types.NewTuple.{NewTuple}
use Rattle.typed_records.specs.declared.types.RecBlock.{RecBlock}
use Rattle.typed_records.specs.Blocks.{listed_block}
use Rattle.typed_records.specs.Fields.{main_block}
use Rattle.typed_records.specs.Tuples.{listed_from, tuple_with}

-- the first one
abbrev pub first_of : {A : Type 0} → List A → Option A
first_of [] = None
first_of (x ∷ xs) = Some x

abbrev pub if_read : Result (List NewTuple) BodyFault → List NewTuple
if_read (Ok tuples) = tuples
if_read (Err fault) = []

-- the tuple that is all of these bytes, where it is still left
abbrev pub single : List ℕ → ℕ → ℕ → ℕ → List NewTuple
single bytes zero prefix suffix = []
single bytes (suc n) prefix suffix = tuple_with bytes 0 prefix suffix (drop 5 bytes) ∷ []

-- n tuples of a multi-insert, the first behind this place, or one tuple
abbrev pub tuples_held : Bool → List ℕ → ℕ → ℕ → ℕ → ℕ → List NewTuple
tuples_held true bytes at n prefix suffix = if_read (listed_from bytes at n)
tuples_held false bytes at n prefix suffix = single bytes n prefix suffix

-- n tuples of a multi-insert are there
pub record AreListed (bytes : List ℕ) (at n : ℕ) : Type 0 where
  pub within : at ≤ length bytes
  pub read : IsOk (listed_from bytes at n)

abbrev pub DoTuplesStand : Bool → List ℕ → ℕ → ℕ → Type 0
DoTuplesStand true bytes at n = AreListed bytes at n
DoTuplesStand false bytes at n = 5 ≤ length bytes

-- the tuples of the block with this id, where these are those of block 0
abbrev pub tuples_for : ℕ → List NewTuple → List NewTuple
tuples_for zero tuples = tuples
tuples_for (suc id) tuples = []

-- the n blocks from this id on that are there
unfoldable pub blocks_to : Record → List NewTuple → ℕ → ℕ → List RecBlock
blocks_to rec tuples id zero = []
blocks_to rec tuples id (suc n) = listed_block (tuples_for id tuples) (main_block id rec) ++ blocks_to rec tuples (id + 1) n

-- the blocks from an id on whose id is below a number, of the record, if there is one
abbrev pub blocks_held : Option Record → List NewTuple → ℕ → ℕ → List RecBlock
blocks_held None tuples from ids = []
blocks_held (Some rec) tuples from ids = blocks_to rec tuples from (ids - from)

-- the first of these blocks, if there is one
abbrev pub IsNextBlock : Record → List NewTuple → ℕ → ℕ → Option RecBlock → Type 0
IsNextBlock rec tuples from ids None = blocks_to rec tuples from (ids - from) ≡ []
IsNextBlock rec tuples from ids (Some block) =
    (block.id < ids) × (blocks_to rec tuples from (ids - from) ≡ block ∷ blocks_to rec tuples (block.id + 1) (ids - (block.id + 1)))
