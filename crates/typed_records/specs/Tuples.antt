-- The tuples that a record puts into a block, where they stand in its data (heapam_xlog.h, xl_heap_header and
-- xl_multi_insert_tuple).
use Rattle.std.specs.Prelude.{ℕ, zero, suc, ◌+◌, ◌%◌, nat_lt, List, [], ◌∷◌, length, drop, take, slice_index, Result, Ok, Err, if◌then◌else◌}
use Rattle.pg_types.specs.Numbers.{number_at}
use Rattle.typed_records.specs.declared.types.BodyFault.{BodyFault}
use Rattle.typed_records.specs.declared.types.BodyFault.TheVariants.{Length}
use Rattle.typed_records.specs.declared.types.NewTuple.{NewTuple}
use Rattle.typed_records.specs.Fields.{◌>>=◌}

-- a tuple whose header's three fields stand at `at`, with these bytes behind them
abbrev pub tuple_with : List ℕ → ℕ → ℕ → ℕ → List ℕ → NewTuple
tuple_with bytes at prefix suffix rest = record {
  mask2 = number_at 2 bytes at;
  mask = number_at 2 bytes (at + 2);
  hoff = slice_index bytes (at + 4);
  prefix = prefix;
  suffix = suffix;
  rest = rest;
}

-- the next multiple of 2 (SHORTALIGN)
abbrev pub even_from : ℕ → ℕ
even_from at = at + at % 2

-- one tuple of a multi-insert, of which the number of bytes stands before its fields, and where it ends
unfoldable pub listed_at : List ℕ → ℕ → Result (NewTuple × ℕ) BodyFault
listed_at bytes at =
    if nat_lt (length bytes) (at + 7) then Err Length
    else if nat_lt (length bytes) (at + 7 + number_at 2 bytes at) then Err Length
    else Ok (
      tuple_with bytes (at + 2) 0 0 (take (number_at 2 bytes at) (drop (at + 7) bytes)),
      at + 7 + number_at 2 bytes at,
    )

-- n tuples of a multi-insert, each at a multiple of 2
unfoldable pub listed_from : List ℕ → ℕ → ℕ → Result (List NewTuple) BodyFault
listed_from bytes at zero = Ok []
listed_from bytes at (suc n) = do
  first ← listed_at bytes (even_from at)
  others ← listed_from bytes first.1 n
  Ok (first.0 ∷ others)
