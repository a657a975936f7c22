-- What the main data of a heap record says (heapam_xlog.h). The info's highest bit tells that a page is
-- made anew, which the block says itself (XLOG_HEAP_OPMASK leaves it out).
use Rattle.std.specs.Prelude.{ℕ, ◌+◌, ◌-◌, ◌*◌, ◌/◌, ◌==◌, Bool, true, false, ◌||◌, bit_and, nat_lt, List, [], length, slice_index, Option, Some, None, Result, Ok, Err, if◌then◌else◌}
use Rattle.std.specs.List.{list_any}
use Rattle.pg_types.specs.Numbers.{number_at}
use Rattle.pg_types.specs.declared.names.Locator.{Locator}
use Rattle.wal_record.specs.Record.{Block, Record}
use Rattle.typed_records.specs.declared.types.BodyFault.{BodyFault}
use Rattle.typed_records.specs.declared.types.BodyFault.TheVariants.{Length, Unsupported}
use Rattle.typed_records.specs.declared.types.What.TheVariants.{InPlace}
use Rattle.typed_records.specs.declared.types.RecKind.{RecKind}
use Rattle.typed_records.specs.declared.types.RecKind.TheVariants.{Insert, Delete, Update, Confirm, Lock, MultiInsert, LockUpdated, Prune, Vacuum, Freeze, Visible, Other}
use Rattle.wal_bodies.specs.Fields.{◌>>=◌, xid_at, lines_at, first_lines, redirects_at, plans_at, planned_lines, main_block, needed}
use Rattle.wal_bodies.specs.Tuples.{is_applied}
use Rattle.pg_types.specs.Locators.{same_locator}

-- xl_heap_insert
unfoldable pub insert : List ℕ → Result RecKind BodyFault
insert main = if nat_lt (length main) 3 then Err Length else Ok (Insert (number_at 2 main 0) (slice_index main 2))

-- xl_heap_delete; bit 1 of the bits tells that xmax is a multixact (XLHL_XMAX_IS_MULTI), here and below
unfoldable pub delete : List ℕ → Result RecKind BodyFault
delete main =
    if nat_lt (length main) 8 then Err Length
    else Ok (Delete (xid_at main 0) (number_at 2 main 4) (slice_index main 6) (slice_index main 7))

-- xl_heap_update
unfoldable pub update : List ℕ → Result RecKind BodyFault
update main =
    if nat_lt (length main) 14 then Err Length
    else Ok (Update
    (xid_at main 0) (number_at 2 main 4) (slice_index main 6) (slice_index main 7)
    (xid_at main 8) (number_at 2 main 12))

-- xl_heap_confirm
unfoldable pub confirm : List ℕ → Result RecKind BodyFault
confirm main = if nat_lt (length main) 2 then Err Length else Ok (Confirm (number_at 2 main 0))

-- xl_heap_lock
unfoldable pub lock : List ℕ → Result RecKind BodyFault
lock main =
    if nat_lt (length main) 8 then Err Length
    else Ok (Lock (xid_at main 0) (number_at 2 main 4) (slice_index main 6) (slice_index main 7))

-- xl_heap_lock_updated
unfoldable pub lock_updated : List ℕ → Result RecKind BodyFault
lock_updated main =
    if nat_lt (length main) 8 then Err Length
    else Ok (LockUpdated (xid_at main 0) (number_at 2 main 4) (slice_index main 6) (slice_index main 7))

-- the count of a multi-insert
abbrev pub count_of : List ℕ → ℕ
count_of main = number_at 2 main 2

-- xl_heap_multi_insert: its lines are listed, or in a block that is made anew those from 1 to the count
unfoldable pub multi_insert : List ℕ → Bool → Result RecKind BodyFault
multi_insert main will_init =
    if nat_lt (length main) 4 then Err Length
    else if will_init then Ok (MultiInsert (slice_index main 0) (first_lines (count_of main)))
    else if nat_lt (length main) (4 + 2 * count_of main) then Err Length
    else Ok (MultiInsert (slice_index main 0) (lines_at main 4 (count_of main)))

-- the file is that of a described table
abbrev pub is_described : List Locator → Locator → Bool
is_described known locator = list_any (λ described. same_locator described locator) known

-- a change in place, which only catalogues see: it is passed over, but not in a described table
unfoldable pub in_place : List Locator → Option Block → Result RecKind BodyFault
in_place known None = Ok Other
in_place known (Some block) = if is_described known block.locator then Err (Unsupported InPlace) else Ok Other

-- manager 10 (XLOG_HEAP_INSERT and so on)
unfoldable pub heap_kind : Record → List Locator → Result RecKind BodyFault
heap_kind rec known =
    if bit_and rec.head.info 0x70 == 0x00 then insert rec.main
    else if bit_and rec.head.info 0x70 == 0x10 then delete rec.main
    else if (bit_and rec.head.info 0x70 == 0x20) || (bit_and rec.head.info 0x70 == 0x40) then update rec.main
    else if bit_and rec.head.info 0x70 == 0x50 then confirm rec.main
    else if bit_and rec.head.info 0x70 == 0x60 then lock rec.main
    else if bit_and rec.head.info 0x70 == 0x70 then in_place known (main_block 0 rec)
    else Ok Other

-- a multi-insert, by whether its block 0 is made anew
unfoldable pub multi_insert_of : Record → Result RecKind BodyFault
multi_insert_of rec = do
  block ← needed (main_block 0 rec)
  multi_insert rec.main block.will_init

-- The lists of removals and of freezing stand in block 0's data, which is not there beside an image that is restored.

-- what a pruned page's data lists: lines that lead to others, dead ones and, up to its end, unused ones
unfoldable pub prune_lists : List ℕ → ℕ → ℕ → List ℕ → Result RecKind BodyFault
prune_lists main redirected died text =
    let from = 4 * redirected + 2 * died in
    if nat_lt (length text) from then Err Length
    else Ok (Prune
    (xid_at main 0) (slice_index main 8)
    (redirects_at text 0 redirected) (lines_at text (4 * redirected) died) (lines_at text from ((length text - from) / 2)))

abbrev pub prune_with : List ℕ → Bool → List ℕ → Result RecKind BodyFault
prune_with main true text = Ok (Prune (xid_at main 0) (slice_index main 8) [] [] [])
prune_with main false text = prune_lists main (number_at 2 main 4) (number_at 2 main 6) text

-- xl_heap_prune
unfoldable pub prune : List ℕ → Block → Result RecKind BodyFault
prune main block = if nat_lt (length main) 9 then Err Length else prune_with main (is_applied block.image) block.payload

-- the lines that a vacuum makes unused
unfoldable pub vacuum_lines : ℕ → List ℕ → Result RecKind BodyFault
vacuum_lines count text = if nat_lt (length text) (2 * count) then Err Length else Ok (Vacuum (lines_at text 0 count))

abbrev pub vacuum_with : List ℕ → Bool → List ℕ → Result RecKind BodyFault
vacuum_with main true text = Ok (Vacuum [])
vacuum_with main false text = vacuum_lines (number_at 2 main 0) text

-- xl_heap_vacuum
unfoldable pub vacuum : List ℕ → Block → Result RecKind BodyFault
vacuum main block = if nat_lt (length main) 2 then Err Length else vacuum_with main (is_applied block.image) block.payload

-- the plans of a freeze, and behind them their lines
unfoldable pub freeze_plans : List ℕ → ℕ → List ℕ → Result RecKind BodyFault
freeze_plans main count text =
    if nat_lt (length text) (12 * count) then Err Length
    else if nat_lt (length text) (12 * count + 2 * planned_lines text 0 count) then Err Length
    else Ok (Freeze (xid_at main 0) (slice_index main 6) (plans_at text 0 (12 * count) count))

abbrev pub freeze_with : List ℕ → Bool → List ℕ → Result RecKind BodyFault
freeze_with main true text = Ok (Freeze (xid_at main 0) (slice_index main 6) [])
freeze_with main false text = freeze_plans main (number_at 2 main 4) text

-- xl_heap_freeze_page
unfoldable pub freeze : List ℕ → Block → Result RecKind BodyFault
freeze main block = if nat_lt (length main) 7 then Err Length else freeze_with main (is_applied block.image) block.payload

-- xl_heap_visible: of block 1, the heap's, at most an image is restored
unfoldable pub visible : List ℕ → Result RecKind BodyFault
visible main = if nat_lt (length main) 5 then Err Length else Ok (Visible (xid_at main 0) (slice_index main 4))

-- a kind by its main data and its block 0, which it has to have
unfoldable pub by_block : (List ℕ → Block → Result RecKind BodyFault) → Record → Result RecKind BodyFault
by_block read rec = do
  block ← needed (main_block 0 rec)
  read rec.main block

-- manager 9 (XLOG_HEAP2_PRUNE and so on)
unfoldable pub heap2_kind : Record → Result RecKind BodyFault
heap2_kind rec =
    if bit_and rec.head.info 0x70 == 0x10 then by_block prune rec
    else if bit_and rec.head.info 0x70 == 0x20 then by_block vacuum rec
    else if bit_and rec.head.info 0x70 == 0x30 then by_block freeze rec
    else if bit_and rec.head.info 0x70 == 0x40 then visible rec.main
    else if bit_and rec.head.info 0x70 == 0x50 then multi_insert_of rec
    else if bit_and rec.head.info 0x70 == 0x60 then lock_updated rec.main
    else Ok Other
