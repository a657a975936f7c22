-- The lines of a page as replay and scans see them (ItemIdData, itemid.h), and how a list of them changes.
use Rattle.std.specs.Prelude.{ℕ, zero, suc, ◌+◌, ◌*◌, ◌/◌, Bool, true, false, List, [], ◌∷◌, length, get_or, sum_by}

-- a line: free, a tuple with its bytes, a pointer to another line, or a tuple that was taken away
pub data Item : Type 0 where
  unused : Item
  normal : List ℕ → Item
  redirect : ℕ → Item
  dead : Item

-- a line in front of lines that do not end in unused ones
abbrev pub before_trimmed : Item → List Item → List Item
before_trimmed unused [] = []
before_trimmed item items = item ∷ items

-- the lines without the unused ones at their end
abbrev pub trimmed : List Item → List Item
trimmed [] = []
trimmed (item ∷ items) = before_trimmed item (trimmed items)

-- the lines with this one at place k, from 0; lines between the last and a new one are unused
abbrev pub with_line : List Item → ℕ → Item → List Item
with_line [] zero item = item ∷ []
with_line [] (suc k) item = unused ∷ with_line [] k item
with_line (_ ∷ items) zero item = item ∷ items
with_line (first ∷ items) (suc k) item = first ∷ with_line items k item

-- the items after line k, from 0, has become this one
unfoldable pub with_item : List Item → ℕ → Item → List Item
with_item items k item = trimmed (with_line items k item)

-- line k, from 0; past the last one lines are unused
abbrev pub item_in : List Item → ℕ → Item
item_in items k = get_or items k unused

-- line number n, from 1; number 0 is no line
abbrev pub numbered : List Item → ℕ → Item
numbered items zero = unused
numbered items (suc k) = item_in items k

-- rounded up to a multiple of 8 (MAXALIGN)
abbrev pub aligned : ℕ → ℕ
aligned n = (n + 7) / 8 * 8

-- the room that a line's tuple takes
abbrev pub room_of : Item → ℕ
room_of unused = 0
room_of (normal bytes) = aligned (length bytes)
room_of (redirect _) = 0
room_of dead = 0

-- the room that the tuples of all lines take
abbrev pub room_in : List Item → ℕ
room_in items = sum_by room_of items

abbrev pub is_unused : Item → Bool
is_unused unused = true
is_unused (normal _) = false
is_unused (redirect _) = false
is_unused dead = false

abbrev pub is_normal : Item → Bool
is_normal unused = false
is_normal (normal _) = true
is_normal (redirect _) = false
is_normal dead = false

-- the bytes of a line's tuple
abbrev pub tuple_in : Item → List ℕ
tuple_in unused = []
tuple_in (normal bytes) = bytes
tuple_in (redirect _) = []
tuple_in dead = []
