-- Where the records of a log end, the newest record first.
use Rattle.std.specs.Prelude.{ℕ, ◌<◌, List, [], ◌∷◌}
use Rattle.typed_records.specs.declared.types.Rec.{Rec}

-- where the last record ends, or the position from which on the log is read
abbrev pub end_of : ℕ → List Rec → ℕ
end_of from [] = from
end_of from (rec ∷ older) = rec.end.0

-- each record ends past the end of the one before
abbrev pub Rises : ℕ → List Rec → Type 0
Rises from [] = Unit {0}
Rises from (rec ∷ older) = (end_of from older < rec.end.0) × Rises from older
