-- When a change of a line is refused, in the order of the tests.
use Rattle.std.specs.Prelude.{ℕ, ◌+◌, ◌-◌, ◌*◌, Bool, not, ◌&&◌, ◌==◌, nat_lt, max, List, ◌++◌, length, take, drop, replicate, if◌then◌else◌, Result, Ok, Err}
use Rattle.heap_tuple.specs.Tuple.{is_tuple}
use Rattle.heap_page.specs.Item.{Item, numbered, is_unused, is_normal, tuple_in, aligned, room_in}
use Rattle.heap_page.specs.Page.{is_page}
use Rattle.heap_page.specs.declared.line.PageError.{PageError}
use Rattle.heap_page.specs.declared.line.PageError.TheVariants.{Full, NoLine, BadPage}

-- whether a tuple may be put at line number n, from 1
abbrev pub is_free : List Item → ℕ → Bool
is_free items n = not (n == 0) && is_unused (numbered items n)

-- what a page takes at least with a tuple at line number n: its header, four bytes for each line up to
-- the last or the new one, and the room of the tuples
abbrev pub size_with : List Item → ℕ → List ℕ → ℕ
size_with items n tuple = 24 + 4 * max (length items) n + (room_in items + aligned (length tuple))

-- a tuple is put at line number n
unfoldable pub put_answer : List Item → ℕ → List ℕ → Result (Unit {0}) PageError
put_answer items n tuple =
    if not (is_free items n) then Err NoLine
    else if not (is_tuple tuple) then Err BadPage
    else if nat_lt 8192 (size_with items n tuple) then Err Full
    else Ok tt

-- line number n gets another state
unfoldable pub set_line_answer : List Item → ℕ → Result (Unit {0}) PageError
set_line_answer items n = if is_unused (numbered items n) then Err NoLine else Ok tt

-- a tuple with another header of 23 bytes
abbrev pub with_head : List ℕ → List ℕ → List ℕ
with_head tuple head = head ++ drop 23 tuple

-- the tuple of line number n gets this header
unfoldable pub set_head_answer : List Item → ℕ → List ℕ → Result (Unit {0}) PageError
set_head_answer items n head =
    if not (is_normal (numbered items n)) then Err NoLine
    else if not (is_tuple (with_head (tuple_in (numbered items n)) head)) then Err BadPage
    else Ok tt

-- the page of which an image leaves out a hole of zeros at `hole_at` (RestoreBlockImage, xlogreader.c)
unfoldable pub restored : ℕ → List ℕ → List ℕ
restored hole_at bytes = take hole_at bytes ++ replicate (8192 - length bytes) 0 ++ drop hole_at bytes

-- a page is restored from an image
unfoldable pub restore_answer : ℕ → List ℕ → Result (Unit {0}) PageError
restore_answer hole_at bytes = if is_page (restored hole_at bytes) then Ok tt else Err BadPage
