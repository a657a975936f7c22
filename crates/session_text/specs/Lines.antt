-- The lines of a session's source: its bytes between line ends.
use Rattle.std.specs.Prelude.{ℕ, ◌==◌, List, [], ◌∷◌, length, nat_lt, if◌then◌else◌}

-- a line has at most so many bytes before its end
abbrev pub longest : ℕ
longest = 4096

-- a byte before the first of some texts
abbrev pub before_first : ℕ → List (List ℕ) → List (List ℕ)
before_first b [] = (b ∷ []) ∷ []
before_first b (first ∷ others) = (b ∷ first) ∷ others

-- bytes cut at this one: one text more than it stands there
unfoldable pub pieces : ℕ → List ℕ → List (List ℕ)
pieces at [] = [] ∷ []
pieces at (b ∷ bytes) = if b == at then [] ∷ pieces at bytes else before_first b (pieces at bytes)

-- of the bytes behind the last line end: they are a line if there are any
abbrev pub last_line : List ℕ → List (List ℕ)
last_line [] = []
last_line (b ∷ bytes) = (b ∷ bytes) ∷ []

-- each text but the last is a line; of the last one these are
unfoldable pub lines_by : (List ℕ → List (List ℕ)) → List (List ℕ) → List (List ℕ)
lines_by last [] = []
lines_by last (text ∷ []) = last text
lines_by last (line ∷ next ∷ more) = line ∷ lines_by last (next ∷ more)

-- the lines of a source that was read to its end
unfoldable pub lines_read : List ℕ → List (List ℕ)
lines_read bytes = lines_by last_line (pieces 10 bytes)

-- bytes that have no end yet are a line as soon as they are too long for one
abbrev pub line_too_long : List ℕ → List (List ℕ)
line_too_long bytes = if nat_lt longest (length bytes) then bytes ∷ [] else []

-- the lines of a source of which these bytes were taken so far
unfoldable pub lines_taken : List ℕ → List (List ℕ)
lines_taken bytes = lines_by line_too_long (pieces 10 bytes)
