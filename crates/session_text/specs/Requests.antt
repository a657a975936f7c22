-- What a line of a session asks.
use Rattle.std.specs.Prelude.{ℕ, ◌+◌, ◌-◌, ◌*◌, ◌^◌, ◌==◌, ◌&&◌, Bool, List, [], ◌∷◌, length, nat_eq, nat_le, nat_lt, if◌then◌else◌, codes, Option, Some, None}
use Rattle.std.specs.Cmp.Lexicographic.{pointwise}
use Rattle.std.specs.List.{list_any}
use Rattle.std.specs.Str.{is_utf8}
use Rattle.session_text.specs.Lines.{lines_read, lines_taken, longest, pieces}

-- the standby's status; so many single replays; a scan of the table with this name; the next page of a scan; the end of a
-- scan; or nothing that is understood
pub data Request : Type 0 where
  AsksStatus : Request
  Replays : (count : ℕ) → Request
  Opens : (table : List ℕ) → Request
  Reads : (id : ℕ) → Request
  Closes : (id : ℕ) → Request
  Unreadable : Request

abbrev pub is : List ℕ → List ℕ → Bool
is word text = pointwise nat_eq word text

abbrev pub is_digit : ℕ → Bool
is_digit c = nat_le 48 c && nat_le c 57

-- the number that decimal digits write behind those of n
abbrev pub number_after : ℕ → List ℕ → Option ℕ
number_after n [] = Some n
number_after n (c ∷ word) = if is_digit c then number_after (n * 10 + (c - 48)) word else None

-- the number that a word writes, in one decimal digit or more, without a sign. Leading zeros are digits
abbrev pub number_of : List ℕ → Option ℕ
number_of [] = None
number_of (c ∷ word) = number_after 0 (c ∷ word)

-- a number from the least to the greatest that is allowed
abbrev pub within : ℕ → ℕ → (ℕ → Request) → Option ℕ → Request
within least greatest request None = Unreadable
within least greatest request (Some n) = if nat_le least n && nat_le n greatest then request n else Unreadable

-- a table's name is a text of UTF-8 that is not empty
abbrev pub opening : List ℕ → Request
opening [] = Unreadable
opening (b ∷ name) = if is_utf8 (b ∷ name) then Opens (b ∷ name) else Unreadable

abbrev pub asked_of : List ℕ → List ℕ → Request
asked_of command word =
    if is command (codes "replay") then within 1 (2 ^ 32 - 1) Replays (number_of word)
    else if is command (codes "open") then opening word
    else if is command (codes "next") then within 0 (2 ^ 64 - 1) Reads (number_of word)
    else if is command (codes "close") then within 0 (2 ^ 64 - 1) Closes (number_of word)
    else Unreadable

-- words are separated by one space each
abbrev pub asked_by : List (List ℕ) → Request
asked_by [] = Unreadable
asked_by (command ∷ []) = if is command (codes "status") then AsksStatus else Unreadable
asked_by (command ∷ word ∷ []) = asked_of command word
asked_by (command ∷ word ∷ further ∷ words) = Unreadable

-- a carriage return stands in a line
unfoldable pub has_return : List ℕ → Bool
has_return line = list_any (λ c. c == 13) line

abbrev pub asked_without_return : List ℕ → Request
asked_without_return line = if has_return line then Unreadable else asked_by (pieces 32 line)

-- what a line asks: nothing that is understood where it is too long or a carriage return stands in it
unfoldable pub request_of : List ℕ → Request
request_of line = if nat_lt longest (length line) then Unreadable else asked_without_return line

unfoldable pub requests_of : List (List ℕ) → List Request
requests_of [] = []
requests_of (line ∷ lines) = request_of line ∷ requests_of lines

-- the requests of a source that was read to its end
abbrev pub requests_read : List ℕ → List Request
requests_read bytes = requests_of (lines_read bytes)

-- the requests of a source of which these bytes were taken so far
abbrev pub requests_taken : List ℕ → List Request
requests_taken bytes = requests_of (lines_taken bytes)
