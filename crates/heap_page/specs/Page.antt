-- A page of a heap by its bytes (PageHeaderData, bufpage.h): the rule that it keeps, and its items.
use Rattle.std.specs.Prelude.{ℕ, zero, suc, ◌+◌, ◌-◌, ◌*◌, ◌/◌, ◌%◌, ◌^◌, Bool, true, not, ◌&&◌, ◌||◌, ◌==◌, nat_le, IsTrue, List, length, take, drop, map, if◌then◌else◌}
use Rattle.std.specs.List.{list_all, range_with_len}
use Rattle.pg_types.specs.Numbers.{number_at}
use Rattle.heap_tuple.specs.Tuple.{is_tuple}
use Rattle.heap_page.specs.Item.{Item, unused, normal, redirect, dead, trimmed, aligned}

-- pd_lsn, of which the high half stands first: the end of the last record that changed the page
unfoldable pub lsn_of : List ℕ → ℕ
lsn_of page = number_at 4 page 0 * 2 ^ 32 + number_at 4 page 4

-- pd_lower, the end of the line pointers
abbrev pub lower_of : List ℕ → ℕ
lower_of page = number_at 2 page 12

-- pd_upper, the begin of the tuples
abbrev pub upper_of : List ℕ → ℕ
upper_of page = number_at 2 page 14

-- pd_special, the end of the tuples
abbrev pub special_of : List ℕ → ℕ
special_of page = number_at 2 page 16

-- pd_pagesize_version
abbrev pub version_of : List ℕ → ℕ
version_of page = number_at 2 page 18

-- how many line pointers the page has, behind its header of 24 bytes
abbrev pub line_count : List ℕ → ℕ
line_count page = (lower_of page - 24) / 4

-- line pointer k, from 0
abbrev pub pointer_of : List ℕ → ℕ → ℕ
pointer_of page k = number_at 4 page (24 + 4 * k)

-- the parts of a line pointer: lp_off, lp_flags and lp_len
abbrev pub offset_in : ℕ → ℕ
offset_in pointer = pointer % 2 ^ 15

abbrev pub state_in : ℕ → ℕ
state_in pointer = pointer / 2 ^ 15 % 4

abbrev pub length_in : ℕ → ℕ
length_in pointer = pointer / 2 ^ 17

-- a line pointer with these parts
abbrev pub pointer_with : ℕ → ℕ → ℕ → ℕ
pointer_with offset state len = offset + state * 2 ^ 15 + len * 2 ^ 17

-- whether a line pointer is one to a tuple (LP_NORMAL)
abbrev pub is_normal_pointer : ℕ → Bool
is_normal_pointer pointer = state_in pointer == 1

-- the bytes to which a line pointer points
abbrev pub bytes_at : List ℕ → ℕ → List ℕ
bytes_at page pointer = take (length_in pointer) (drop (offset_in pointer) page)

-- the item of a line pointer: LP_NORMAL is 1, LP_REDIRECT 2 and LP_DEAD 3
unfoldable pub item_of : List ℕ → ℕ → Item
item_of page pointer =
    if state_in pointer == 1 then normal (bytes_at page pointer)
    else if state_in pointer == 2 then redirect (offset_in pointer)
    else if state_in pointer == 3 then dead
    else unused

-- the items of all line pointers
unfoldable pub lines_of : List ℕ → List Item
lines_of page = map (λ k. item_of page (pointer_of page k)) (range_with_len 0 (line_count page))

-- the items of a page: its lines without the unused ones at their end
unfoldable pub items_of : List ℕ → List Item
items_of page = trimmed (lines_of page)

-- whether each byte is zero: a block that was added to the file and never written
abbrev pub is_zeros : List ℕ → Bool
is_zeros page = list_all (λ byte. byte == 0) page

-- whether p holds for each number below n
abbrev pub all_below : (ℕ → Bool) → ℕ → Bool
all_below p zero = true
all_below p (suc n) = p n && all_below p n

-- whether the header is that of a heap page of 8192 bytes
unfoldable pub is_header : List ℕ → Bool
is_header page =
    (version_of page == 0x2004) && (special_of page == 8192)
    && nat_le 24 (lower_of page) && nat_le (lower_of page) (upper_of page) && nat_le (upper_of page) 8192
    && (lower_of page % 4 == 0)

-- whether a line pointer, if it is one to a tuple, points to a tuple at a multiple of 8 in the page's
-- upper part
unfoldable pub is_placed : List ℕ → ℕ → Bool
is_placed page pointer =
    not (is_normal_pointer pointer)
    || ((offset_in pointer % 8 == 0)
    && nat_le (upper_of page) (offset_in pointer)
    && nat_le (offset_in pointer + length_in pointer) 8192
    && is_tuple (bytes_at page pointer))

-- the end of a tuple's room
abbrev pub end_of_room : ℕ → ℕ
end_of_room pointer = offset_in pointer + aligned (length_in pointer)

-- whether two line pointers are not to tuples of which the rooms overlap
unfoldable pub are_apart : ℕ → ℕ → Bool
are_apart a b =
    not (is_normal_pointer a)
    || not (is_normal_pointer b)
    || nat_le (end_of_room a) (offset_in b)
    || nat_le (end_of_room b) (offset_in a)

-- whether the page has a header, and its lines are placed, each two of them apart
unfoldable pub is_laid : List ℕ → Bool
is_laid page =
    is_header page
    && all_below (λ k. is_placed page (pointer_of page k)) (line_count page)
    && all_below (λ k. all_below (λ j. are_apart (pointer_of page j) (pointer_of page k)) k) (line_count page)

-- whether the bytes are a page: 8192 of them, all zero or laid out as a heap page
unfoldable pub is_page : List ℕ → Bool
is_page page = (length page == 8192) && (is_zeros page || is_laid page)

abbrev pub IsPage : List ℕ → Type 0
IsPage page = IsTrue (is_page page)
