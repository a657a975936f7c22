-- The steps of a record on the rows of a table, and the table's versions and blocks after a log.
-- Sources: heapam_xlog.h; heapam.c (log_heap_update, heap_multi_insert); xlogutils.c (XLogReadBufferForRedo,
-- XLogTruncateRelation).
use Rattle.std.specs.Prelude.{ℕ, ◌+◌, ◌==◌, Bool, true, false, not, ◌&&◌, ◌||◌, nat_le, max, min, List, [], ◌∷◌, ◌++◌, map, slice_get, Option, Some, None, Result, Ok, Err, if◌then◌else◌}
use Rattle.pg_types.specs.declared.names.Locator.{Locator}
use Rattle.typed_records.specs.declared.types.RecImage.{RecImage}
use Rattle.typed_records.specs.declared.types.NewTuple.{NewTuple}
use Rattle.typed_records.specs.declared.types.RecBlock.{RecBlock}
use Rattle.typed_records.specs.declared.types.Rec.{Rec}
use Rattle.typed_records.specs.declared.types.RecKind.{RecKind}
use Rattle.typed_records.specs.declared.types.RecKind.TheVariants.{Insert, Delete, Update, Lock, MultiInsert, LockUpdated, Prune, Vacuum, Freeze, Truncate}
use Rattle.pg_types.specs.Numbers.{has_bits}
use Rattle.heap_redo.specs.TupleHeads.{marked_mask}
use Rattle.heap_redo.specs.After.{applied, joined, number_of, page_of_image, tuple_of, user_data}
use Rattle.record_fields.specs.declared.entries.Redirect.{Redirect}
use Rattle.record_fields.specs.declared.entries.FreezePlan as listed
use Rattle.heap_tuple.specs.Tuple.{is_lock_only, infomask2_of, infomask_of, xmax_of}
use Rattle.heap_tuple.specs.declared.tuple_view.MaxOf.{MaxOf}
use Rattle.heap_tuple.specs.declared.tuple_view.MaxOf.TheVariants.{None as NoDeleter, Xid as DeletedBy, Multi}
use Rattle.heap_page.specs.Item.{Item, unused, normal, redirect, dead, is_normal, numbered, tuple_in}
use Rattle.heap_page.specs.Page.{items_of}
use Rattle.heap_redo.specs.declared.fault.RedoFault.{RedoFault}
use Rattle.page_store.specs.Seen.{Seen, absent, View}
use Rattle.heap_redo.specs.Redone.{is_left, redone_record, view_outcome}
use Rattle.row_model.specs.Versions.{Version, FreezePlan, RowStep, Born, Deleter, Undone, Removed, Frozen, version_at, with_steps}
use Rattle.row_model.specs.Origins.{LogOrigin}
use Rattle.pg_types.specs.Locators.{same_locator}

-- the deleter that a tuple shows once a record marked it with this xmax and these bits: none for a lock alone
-- (XLHL_XMAX_LOCK_ONLY and the lock's strength; XLHL_XMAX_IS_MULTI)
unfoldable pub deleter_of_mark : ℕ → ℕ → MaxOf
deleter_of_mark xmax bits =
    if is_lock_only (marked_mask bits 0) || (xmax == 0) then NoDeleter
    else if has_bits bits 1 then Multi xmax
    else DeletedBy (record { 0 = xmax })

-- the items that an image shows
abbrev pub items_in : RecImage → List Item
items_in image = items_of (page_of_image image)

-- tuples that the record writes are born at these lines
unfoldable pub births_written : ℕ → ℕ → List ℕ → List NewTuple → List RowStep
births_written xid block [] tuples = []
births_written xid block (line ∷ lines) [] = []
births_written xid block (line ∷ lines) (tuple ∷ tuples) =
    Born false block line (tuple_of xid 0 block line tuple tuple.rest) ∷ births_written xid block lines tuples

-- tuples that an image shows are born at these lines
unfoldable pub births_shown : ℕ → List Item → List ℕ → List RowStep
births_shown block items lines = map (λ line. Born false block line (tuple_in (numbered items line))) lines

-- tuples are born at these lines, read from the block's image where that is restored
unfoldable pub births : Rec → RecBlock → Option RecImage → List ℕ → List RowStep
births rec block None lines = births_written rec.head.xid.0 block.block lines block.tuples
births rec block (Some image) lines = births_shown block.block (items_in image) lines

-- the new version of an update, of which the record may leave out what it has of the old one
unfoldable pub version_written : Rec → RecBlock → ℕ → ℕ → List ℕ → List NewTuple → List RowStep
version_written rec block xmax line old [] = []
version_written rec block xmax line old (tuple ∷ tuples) =
    Born false block.block line (tuple_of rec.head.xid.0 xmax block.block line tuple (joined tuple old)) ∷ []

unfoldable pub version_put : Rec → RecBlock → Option RecImage → ℕ → ℕ → List ℕ → List RowStep
version_put rec block None xmax line old = version_written rec block xmax line old block.tuples
version_put rec block (Some image) xmax line old = births_shown block.block (items_in image) (line ∷ [])

-- the values of the version at a place
abbrev pub values_of : Option Version → List ℕ
values_of None = []
values_of (Some v) = user_data v.tuple

-- an update: the old version gets its deleter, in block 1 where that is another than the new version's block 0
unfoldable pub update_steps :
    Rec → RecBlock → ℕ → ℕ → ℕ → ℕ → ℕ → Option ℕ → Option ℕ → List Version → List RowStep
update_steps rec block old_xmax old_line old_bits new_xmax new_line (Some new_block) (Some old_block) vs =
    if block.id == 0 then version_put rec block (applied block.image) new_xmax new_line []
    else Deleter block.block old_line (deleter_of_mark old_xmax old_bits) ∷ []
update_steps rec block old_xmax old_line old_bits new_xmax new_line (Some new_block) None vs =
    Deleter block.block old_line (deleter_of_mark old_xmax old_bits)
    ∷ version_put rec block (applied block.image) new_xmax new_line (values_of (version_at block.block old_line vs))
update_steps rec block old_xmax old_line old_bits new_xmax new_line None old_block vs = []

-- the versions at these lines lose their places
unfoldable pub removals_written : ℕ → List ℕ → List RowStep
removals_written block lines = map (λ line. Removed block line) lines

-- so do those of the block that an image does not show
unfoldable pub removals_shown : ℕ → List Item → List Version → List RowStep
removals_shown block items [] = []
removals_shown block items (v ∷ vs) =
    (if v.holds && (v.block == block) && not (is_normal (numbered items v.line)) then Removed block v.line ∷ [] else [])
    ++ removals_shown block items vs

-- versions are removed at these lines, or by the block's image where that is restored
unfoldable pub removals : ℕ → Option RecImage → List ℕ → List Version → List RowStep
removals block None lines vs = removals_written block lines
removals block (Some image) lines vs = removals_shown block (items_in image) vs

-- a plan, by what it leaves in a tuple's header; and that of a tuple as an image shows it
abbrev pub plan_of : listed.FreezePlan → FreezePlan
plan_of plan = record { xmax = plan.xmax.0; mask2 = plan.mask2; mask = plan.mask }

abbrev pub plan_shown : List ℕ → FreezePlan
plan_shown tuple = record { xmax = xmax_of tuple; mask2 = infomask2_of tuple; mask = infomask_of tuple }

-- the versions at the plans' lines are frozen
unfoldable pub frozen_written : ℕ → List listed.FreezePlan → List RowStep
frozen_written block [] = []
frozen_written block (plan ∷ plans) = map (λ line. Frozen block line (plan_of plan)) plan.lines ++ frozen_written block plans

-- each version of the block is frozen as an image shows it
unfoldable pub frozen_shown : ℕ → List Item → List Version → List RowStep
frozen_shown block items [] = []
frozen_shown block items (v ∷ vs) =
    (if v.holds && (v.block == block) then Frozen block v.line (plan_shown (tuple_in (numbered items v.line))) ∷ [] else [])
    ++ frozen_shown block items vs

unfoldable pub freezes_in : ℕ → Option RecImage → List listed.FreezePlan → List Version → List RowStep
freezes_in block None plans vs = frozen_written block plans
freezes_in block (Some image) plans vs = frozen_shown block (items_in image) vs

-- the lines that are made other than normal as a page is pruned
abbrev pub pruned_lines : List Redirect → List ℕ → List ℕ → List ℕ
pruned_lines redirected died freed = map (λ (line : Redirect). line.from) redirected ++ died ++ freed

-- the steps of a record of this kind in one of its blocks; a deletion with XLH_DELETE_IS_SUPER takes a speculative
-- insertion back
unfoldable pub own_steps : Rec → RecBlock → RecKind → List Version → List RowStep
own_steps rec block (Insert line flags) vs = births rec block (applied block.image) (line ∷ [])
own_steps rec block (MultiInsert flags lines) vs = births rec block (applied block.image) lines
own_steps rec block (Delete xmax line bits flags) vs =
    if has_bits flags 0x08 then Undone block.block line ∷ [] else Deleter block.block line (deleter_of_mark xmax.0 bits) ∷ []
own_steps rec block (Update old_xmax old_line old_bits flags new_xmax new_line) vs =
    update_steps rec block old_xmax.0 old_line old_bits new_xmax.0 new_line (number_of 0 rec.blocks) (number_of 1 rec.blocks) vs
own_steps rec block (Lock xmax line bits flags) vs = Deleter block.block line (deleter_of_mark xmax.0 bits) ∷ []
own_steps rec block (LockUpdated xmax line bits flags) vs = Deleter block.block line (deleter_of_mark xmax.0 bits) ∷ []
own_steps rec block (Prune horizon catalogue redirected died freed) vs =
    removals block.block (applied block.image) (pruned_lines redirected died freed) vs
own_steps rec block (Vacuum freed) vs = removals block.block (applied block.image) freed vs
own_steps rec block (Freeze horizon catalogue plans) vs = freezes_in block.block (applied block.image) plans vs
own_steps rec block _ vs = []

-- whether a record of this kind puts tuples of its own into the block
abbrev pub puts_tuples : RecBlock → RecKind → Bool
puts_tuples block (Insert line flags) = true
puts_tuples block (MultiInsert flags lines) = true
puts_tuples block (Update old_xmax old_line old_bits flags new_xmax new_line) = block.id == 0
puts_tuples block _ = false

-- each normal item of a page is born, from this line on
unfoldable pub births_of_items : ℕ → ℕ → List Item → List RowStep
births_of_items block line [] = []
births_of_items block line (unused ∷ items) = births_of_items block (line + 1) items
births_of_items block line (normal tuple ∷ items) = Born true block line tuple ∷ births_of_items block (line + 1) items
births_of_items block line (redirect to ∷ items) = births_of_items block (line + 1) items
births_of_items block line (dead ∷ items) = births_of_items block (line + 1) items

-- a page that was written whole: the image of a block at or past the table's end, in a record that puts no tuple of
-- its own there (log_newpage, xloginsert.c)
unfoldable pub whole_steps : RecBlock → RecKind → Option RecImage → ℕ → List RowStep
whole_steps block kind None count = []
whole_steps block kind (Some image) count =
    if not (puts_tuples block kind) && nat_le count block.block then births_of_items block.block 1 (items_in image) else []

-- the steps of a record in one of its blocks, where the table has so many blocks and these versions before it
abbrev pub block_steps : Rec → RecBlock → ℕ → List Version → List RowStep
block_steps rec block count vs =
    whole_steps block rec.kind (applied block.image) count ++ own_steps rec block rec.kind vs

-- the steps in those of these blocks that are the table's
unfoldable pub steps_in : Rec → Locator → ℕ → List Version → List RecBlock → List RowStep
steps_in rec table count vs [] = []
steps_in rec table count vs (block ∷ blocks) =
    (if same_locator table block.locator then block_steps rec block count vs else []) ++ steps_in rec table count vs blocks

-- how many blocks the table has after a record that has these: one past the greatest that was changed
unfoldable pub count_with : Rec → Locator → ℕ → List RecBlock → ℕ
count_with rec table count [] = count
count_with rec table count (block ∷ blocks) =
    count_with rec table
    (if same_locator table block.locator && not (is_left rec block) then max count (block.block + 1) else count)
    blocks

-- to how many blocks a record of this kind cuts the table (XLOG_SMGR_TRUNCATE, storage_xlog.h)
abbrev pub cut_of : Locator → RecKind → Option ℕ
cut_of table (Truncate blocks locator flags) = if same_locator table locator then Some blocks else None
cut_of table kind = None

-- so many blocks, if they are not cut to fewer
abbrev pub cut_to : Option ℕ → ℕ → ℕ
cut_to None count = count
cut_to (Some blocks) count = min blocks count

-- how many blocks the table has after a log, the newest record first
unfoldable pub block_count : LogOrigin → Locator → List Rec → ℕ
block_count o table [] = (o.tables table).count
block_count o table (rec ∷ older) =
    cut_to (cut_of table rec.kind) (count_with rec table (block_count o table older) rec.blocks)

-- the steps of a record after these versions in so many blocks
abbrev pub steps_of : Rec → Locator → ℕ → List Version → List RowStep
steps_of rec table count vs = steps_in rec table count vs rec.blocks

-- the table's versions after a log, the newest record first
unfoldable pub versions : LogOrigin → Locator → List Rec → List Version
versions o table [] = (o.tables table).versions
versions o table (rec ∷ older) =
    with_steps (versions o table older) (steps_of rec table (block_count o table older) (versions o table older))

-- the blocks of the described tables where a log begins, by the tables' numbers
abbrev pub blocks_of : LogOrigin → Option Locator → ℕ → Seen
blocks_of o None block = absent
blocks_of o (Some table) block = (o.tables table).blocks block

abbrev pub view_before : LogOrigin → List Locator → View
view_before o known table block = blocks_of o (slice_get known table) block

-- the blocks after one record more, where its redo is not refused
unfoldable pub view_with_record : Rec → List Locator → Result View RedoFault → Result View RedoFault
view_with_record rec known (Err fault) = Err fault
view_with_record rec known (Ok view) =
    view_outcome (redone_record rec known view).0 (redone_record rec known view).1

-- the blocks after redo of a log's records, the newest first, over those where the log begins, or the fault of the
-- first that is refused
unfoldable pub view_after : LogOrigin → List Locator → List Rec → Result View RedoFault
view_after o known [] = Ok (view_before o known)
view_after o known (rec ∷ older) = view_with_record rec known (view_after o known older)
