-- What redo of a record leaves of the blocks of the described tables (xlogutils.c,
-- XLogReadBufferForRedoExtended; heapam.c, heap_redo and heap2_redo).
use Rattle.std.specs.Prelude.{◌≡◌, ◌⊎◌, ℕ, take, ◌==◌, Bool, false, not, ◌&&◌, ◌||◌, nat_le, nat_lt, List, [], ◌∷◌, Option, Some, None, is_some, position, slice_get, Result, Ok, Err, IsOk, if◌then◌else◌}
use Rattle.pg_types.specs.declared.names.Tag.{Tag}
use Rattle.pg_types.specs.declared.names.Locator.{Locator}
use Rattle.page_store.specs.Content.{zeros, is_at}
use Rattle.typed_records.specs.declared.types.Rec.{Rec}
use Rattle.typed_records.specs.declared.types.RecBlock.{RecBlock}
use Rattle.typed_records.specs.declared.types.RecKind.{RecKind}
use Rattle.typed_records.specs.declared.types.RecKind.TheVariants.{Ended, Truncate}
use Rattle.wal_bodies.specs.Typed.{is_commit}
use Rattle.pg_types.specs.Locators.{same_locator}
use Rattle.heap_redo.specs.After.{BlockRefusal, no_page, Content, missing, broken, page, applied, is_images, after}
use Rattle.heap_redo.specs.declared.fault.RedoFault.{RedoFault}
use Rattle.heap_redo.specs.declared.fault.RedoFault.TheVariants.{Memory}
use Rattle.heap_redo.specs.declared.fault.BlockFault.{BlockFault}
use Rattle.heap_redo.specs.Refused.{refusal_of, fault_at}
use Rattle.page_store.specs.Seen.{Seen, absent, bad_block, seen_page, seen, View}

-- what the change of a block starts from
abbrev pub content_of : Seen → Content
content_of absent = missing
content_of bad_block = broken
content_of (seen_page lsn items) = page items

-- the block, once a record that ends here changed it
abbrev pub stamped : ℕ → Content → Seen
stamped end missing = absent
stamped end broken = bad_block
stamped end (page items) = seen_page end items

-- the page is restored from an image or made anew, whatever stands there
abbrev pub is_anew : RecBlock → Bool
is_anew block = is_some (applied block.image) || block.will_init

-- a record of images leaves a block without an image that is restored
abbrev pub is_left : Rec → RecBlock → Bool
is_left rec block = is_images rec.kind && not (is_some (applied block.image))

-- the page has the change of a record that ends here (BLK_DONE)
abbrev pub has_reached : ℕ → Seen → Bool
has_reached end absent = false
has_reached end bad_block = false
has_reached end (seen_page lsn items) = nat_le end lsn

-- what is left of a block by the change of its content
abbrev pub left_by : Rec → RecBlock → Seen → Result Content BlockRefusal → Result Seen BlockRefusal
left_by rec block before (Err refusal) = Err refusal
left_by rec block before (Ok content) = Ok (if is_left rec block then before else stamped rec.end.0 content)

-- What redo of the record leaves of one of its blocks. No table has the block with the greatest number
-- (InvalidBlockNumber). Unless the page is made anew the change is skipped where the page has it.
unfoldable pub redone_block : Rec → RecBlock → Seen → Result Seen BlockRefusal
redone_block rec block before =
    if block.block == 4294967295 then Err no_page
    else if not (is_anew block) && has_reached rec.end.0 before then Ok before
    else left_by rec block before (after rec block (content_of before))

-- the block of the tag is seen so, and all others are as before
unfoldable pub with_seen : View → Tag → Seen → View
with_seen view tag block t b = if is_at tag t b then block else view t b

-- a block that is absent becomes one of zeros
abbrev pub or_zero_block : Seen → Seen
or_zero_block absent = seen (Some zeros)
or_zero_block bad_block = bad_block
or_zero_block (seen_page lsn items) = seen_page lsn items

-- the table of the tag reaches up to the tag's block
unfoldable pub grown : View → Tag → View
grown view tag t b = if (t == tag.table) && nat_lt b tag.block then or_zero_block (view t b) else view t b

-- the blocks once the record left this of one block: a table grows to a block that is made anew
unfoldable pub view_with : Rec → RecBlock → View → Tag → Seen → View
view_with rec block view tag left =
    with_seen (if is_anew block && not (is_left rec block) then grown view tag else view) tag left

-- the table that has this file, by the file's place among those of the described tables
abbrev pub table_of : List Locator → Locator → Option ℕ
table_of known locator = position (λ described. same_locator described locator) known

-- the blocks, where the change is not refused
abbrev pub view_by : Rec → RecBlock → View → Tag → Result Seen BlockRefusal → Result View RedoFault
view_by rec block view tag (Ok left) = Ok (view_with rec block view tag left)
view_by rec block view tag (Err refusal) = Err (fault_at block refusal)

-- one block of the record; a block of another table is passed over
abbrev pub redone_in : Rec → RecBlock → View → Option ℕ → Result View RedoFault
redone_in rec block view None = Ok view
redone_in rec block view (Some table) =
    view_by rec block view (record { table = table; block = block.block }) (redone_block rec block (view table block.block))

unfoldable pub redone_at : Rec → List Locator → RecBlock → View → Result View RedoFault
redone_at rec known block view = redone_in rec block view (table_of known block.locator)

-- what stands, and the answer
abbrev pub Outcome : Type 0
Outcome = View × Result (Unit {0}) RedoFault

-- a block, and then others unless it is refused: then all is as before it
abbrev pub and_then : View → Result View RedoFault → (View → Outcome) → Outcome
and_then view (Ok next) f = f next
and_then view (Err fault) f = (view, Err fault)

-- what redo of these blocks of a record leaves of all, and its answer: one after the other, up to the first that is
-- refused
unfoldable pub redone : Rec → List Locator → List RecBlock → View → Outcome
redone rec known [] view = (view, Ok tt)
redone rec known (block ∷ blocks) view = and_then view (redone_at rec known block view) (λ next. redone rec known blocks next)

-- Blocks that are taken away (smgr_redo, xact_redo_commit).

-- a table is cut to so many blocks
unfoldable pub cut : ℕ → View → ℕ → View
cut table view blocks t b = if (t == table) && nat_le blocks b then absent else view t b

abbrev pub cut_file : View → ℕ → Option ℕ → View
cut_file view blocks None = view
cut_file view blocks (Some table) = cut table view blocks

-- the tables that have these files are dropped
abbrev pub drop_files : List Locator → List Locator → View → View
drop_files known [] view = view
drop_files known (file ∷ files) view = drop_files known files (cut_file view 0 (table_of known file))

-- what a record of this kind leaves by what it takes away: a truncation blocks of one table, a commit the tables that it
-- drops; none for another kind, which changes its blocks
abbrev pub cut_by : Rec → RecKind → List Locator → View → Option View
cut_by rec (Truncate blocks locator flags) known view = Some (cut_file view blocks (table_of known locator))
cut_by rec (Ended time xinfo xids files) known view = Some (if is_commit rec.head then drop_files known files view else view)
cut_by rec kind known view = None

abbrev pub redone_unless : Rec → List Locator → View → Option View → Outcome
redone_unless rec known view None = redone rec known rec.blocks view
redone_unless rec known view (Some left) = (left, Ok tt)

-- what redo of a record leaves of the blocks of the described tables, and its answer
unfoldable pub redone_record : Rec → List Locator → View → Outcome
redone_record rec known view = redone_unless rec known view (cut_by rec rec.kind known view)

-- the blocks, where no block's change was refused
abbrev pub view_outcome : View → Result (Unit {0}) RedoFault → Result View RedoFault
view_outcome view (Ok done) = Ok view
view_outcome view (Err fault) = Err fault

-- The answer of a call that changes blocks, and what stands after it: those that the definition gives, or want of
-- memory where it gives no refusal.
abbrev pub Follows : View → Result (Unit {0}) RedoFault → Result View RedoFault → Type 0
Follows view result given = ((result ≡ Err Memory) × IsOk given) ⊎ (view_outcome view result ≡ given)

-- a page, where its change was not refused
abbrev pub seen_outcome : List ℕ → Result (Unit {0}) BlockFault → Result Seen BlockRefusal
seen_outcome bytes (Ok done) = Ok (seen (Some bytes))
seen_outcome bytes (Err refusal) = Err (refusal_of refusal)

-- the fault of a block that is refused
abbrev pub fault_by : {A : Type 0} → RecBlock → Result A BlockRefusal → Result A RedoFault
fault_by block (Ok x) = Ok x
fault_by block (Err refusal) = Err (fault_at block refusal)

-- a page, where its change was not refused
abbrev pub fault_outcome : List ℕ → Result (Unit {0}) RedoFault → Result Seen RedoFault
fault_outcome bytes (Ok done) = Ok (seen (Some bytes))
fault_outcome bytes (Err fault) = Err fault

-- Memory ran out after so many of the record's blocks, at one whose change is not refused.
pub record RanOut (rec : Rec) (known : List Locator) (old new : View) : Type 0 where
  pub done : ℕ
  pub uncut : cut_by rec rec.kind known old ≡ None
  pub stands : redone rec known (take done rec.blocks) old ≡ (new, Ok tt)
  pub next : RecBlock
  pub is_next : slice_get rec.blocks done ≡ Some next
  pub not_refused : IsOk (redone_at rec known next new)

-- What stands after redo of a record, and its answer: those of the whole record, or those after some of
-- its blocks, where memory ran out.
abbrev pub Stands : Rec → List Locator → View → View → Result (Unit {0}) RedoFault → Type 0
Stands rec known old new result =
    ((result ≡ Err Memory) × RanOut rec known old new) ⊎ (redone_record rec known old ≡ (new, result))
