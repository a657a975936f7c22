-- How lines are taken from a source byte for byte.
use Rattle.std.specs.Prelude.{ℕ, Bool, ◌==◌, List, [], ◌∷◌, ◌++◌, length, nat_lt, if◌then◌else◌, Option, Some, None}
use Rattle.session_text.specs.Lines.{longest}

-- what was taken behind the last line end, or that it is too long a line, which was given as it became so, and is
-- passed over to its end
pub data Taking : Type 0 where
  Kept : List ℕ → Taking
  Passing : Taking

-- with one more byte: what is taken then, and the line that it gives
abbrev pub kept_if : (long : Bool) → List ℕ → Taking × Option (List ℕ)
kept_if long bytes = if long then (Passing, Some bytes) else (Kept bytes, None)

abbrev pub kept_with : List ℕ → Taking × Option (List ℕ)
kept_with bytes = kept_if (nat_lt longest (length bytes)) bytes

abbrev pub step_at : (end : Bool) → Taking → ℕ → Taking × Option (List ℕ)
step_at end (Kept bytes) b = if end then (Kept [], Some bytes) else kept_with (bytes ++ b ∷ [])
step_at end Passing b = if end then (Kept [], None) else (Passing, None)

abbrev pub step : Taking → ℕ → Taking × Option (List ℕ)
step taking b = step_at (b == 10) taking b

abbrev pub given : Option (List ℕ) → List (List ℕ)
given None = []
given (Some line) = line ∷ []

-- the lines that these bytes give
abbrev pub lines_given : Taking → List ℕ → List (List ℕ)
lines_given taking [] = []
lines_given taking (b ∷ bytes) = given (step taking b).1 ++ lines_given (step taking b).0 bytes

-- what is taken behind them
abbrev pub taken_behind : Taking → List ℕ → Taking
taken_behind taking [] = taking
taken_behind taking (b ∷ bytes) = taken_behind (step taking b).0 bytes

-- the line that the end of the source gives
abbrev pub line_at_end : Taking → List (List ℕ)
line_at_end (Kept []) = []
line_at_end (Kept (b ∷ bytes)) = (b ∷ bytes) ∷ []
line_at_end Passing = []
