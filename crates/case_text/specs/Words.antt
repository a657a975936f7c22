-- The words of a line of cases.
use Rattle.std.specs.Prelude.{◌≡◌, ℕ, List, ⊤}
use Rattle.std.specs.Borrow.{Bor}
use Rattle.std.specs.Iterator.{DrainsIf}
use Rattle.std.specs.Str.Iter.{split_whitespace_rest, split_whitespace_steps}
use Rattle.std.specs.declared.str.SplitWhitespace.{SplitWhitespace}

-- all that `split_whitespace` gives of the line
abbrev pub IsWordsOf : List ℕ → List (Bor (List ℕ)) → Type 0
IsWordsOf line words = (it : SplitWhitespace) × (split_whitespace_rest it ≡ line) × DrainsIf split_whitespace_steps ⊤ it words
