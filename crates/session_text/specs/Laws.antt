-- What the definitions promise together.
use Rattle.std.specs.Prelude.{◌≡◌, ℕ, List, [], ◌++◌}
use Rattle.session_text.specs.Requests.{requests_of, requests_read, requests_taken}
use Rattle.session_text.specs.Taking.{Kept, line_at_end, lines_given, taken_behind}

-- the lines that are given byte for byte ask what the lines of a source ask that was read to its end
abbrev pub AsksAllRead : Type 0
AsksAllRead = (bytes : List ℕ) → requests_of (lines_given (Kept []) bytes ++ line_at_end (taken_behind (Kept []) bytes)) ≡ requests_read bytes

-- and before its end what the lines ask of which these bytes were taken
abbrev pub AsksAllTaken : Type 0
AsksAllTaken = (bytes : List ℕ) → requests_of (lines_given (Kept []) bytes) ≡ requests_taken bytes
