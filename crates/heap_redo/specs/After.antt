-- What redo of a record leaves of the items of a block that it changes, and when it is refused (heapam.c,
-- heap_xlog_insert and its like; xlogutils.c, XLogReadBufferForRedo).
use Rattle.std.specs.Prelude.{ℕ, ◌+◌, ◌-◌, ◌==◌, Bool, true, false, bit_and, nat_lt, List, [], ◌∷◌, ◌++◌, length, take, drop, Option, Some, None, Result, Ok, Err, if◌then◌else◌}
use Rattle.heap_tuple.specs.Tuple.{hoff_of}
use Rattle.heap_page.specs.Item.{Item, unused, normal, redirect, dead, is_unused, with_item, numbered, tuple_in}
use Rattle.heap_page.specs.Page.{items_of, is_page}
use Rattle.heap_page.specs.Put.{put_answer, set_line_answer, set_head_answer, with_head, restored}
use Rattle.record_fields.specs.declared.entries.Redirect.{Redirect}
use Rattle.record_fields.specs.declared.entries.FreezePlan.{FreezePlan}
use Rattle.heap_page.specs.declared.line.PageError.{PageError}
use Rattle.heap_page.specs.declared.line.PageError.TheVariants.{Full, NoLine, BadPage}
use Rattle.typed_records.specs.declared.types.RecImage.{RecImage}
use Rattle.typed_records.specs.declared.types.NewTuple.{NewTuple}
use Rattle.typed_records.specs.declared.types.RecBlock.{RecBlock}
use Rattle.typed_records.specs.declared.types.Rec.{Rec}
use Rattle.typed_records.specs.declared.types.RecKind.{RecKind}
use Rattle.typed_records.specs.declared.types.RecKind.TheVariants.{Checkpoint, BackupEnd, Parameters, FullPageWrites, Images, Overwrite, Ended, Assignment, Running, Insert, Delete, Update, Confirm, Lock, MultiInsert, LockUpdated, Prune, Vacuum, Freeze, Visible, Truncate, Locks, Multixact, Other}
pub use Rattle.typed_records.specs.Blocks.{number_of}
use Rattle.heap_redo.specs.TupleHeads.{Head, head_of, head_bytes, marked, pointing_to, deleted, replaced, locked, frozen}

-- why a record is refused at a block: the block is missing, a line is not as the record has it, there is
-- no room for a tuple that goes to a line, or the page is none
pub data BlockRefusal : Type 0 where
  no_page : BlockRefusal
  no_tuple : ℕ → BlockRefusal
  page_full : ℕ → BlockRefusal
  bad_page : BlockRefusal

-- a block of a table: past the table's end, bytes that are no page, or a page with its items
pub data Content : Type 0 where
  missing : Content
  broken : Content
  page : List Item → Content

infixl 10 ◌>>=◌
abbrev pub ◌>>=◌ : {A B : Type 0} → Result A BlockRefusal → (A → Result B BlockRefusal) → Result B BlockRefusal
(Err refusal) >>= f = Err refusal
(Ok x) >>= f = f x

-- these items, where the change of a line is not refused
abbrev pub answered : ℕ → List Item → Result (Unit {0}) PageError → Result (List Item) BlockRefusal
answered line items (Ok done) = Ok items
answered line items (Err NoLine) = Err (no_tuple line)
answered line items (Err BadPage) = Err bad_page
answered line items (Err Full) = Err (page_full line)

-- a tuple goes to a free line
unfoldable pub put : ℕ → List ℕ → List Item → Result (List Item) BlockRefusal
put line tuple items = answered line (with_item items (line - 1) (normal tuple)) (put_answer items line tuple)

-- the tuple of a line with this header
abbrev pub with_header : List Item → ℕ → List ℕ → List Item
with_header items line head =
    with_item items (line - 1) (normal (with_head (tuple_in (numbered items line)) head))

-- the header of a line's tuple changes in this way
unfoldable pub change_head : ℕ → (Head → Head) → List Item → Result (List Item) BlockRefusal
change_head line f items =
    let head = head_bytes (f (head_of (tuple_in (numbered items line)))) in
    answered line (with_header items line head) (set_head_answer items line head)

-- the header of a tuple that this transaction puts at this place, with this xmax
abbrev pub new_head : ℕ → ℕ → ℕ → ℕ → NewTuple → Head
new_head xid xmax block line tuple =
    record {
      xmin = xid;
      xmax = xmax;
      cid = 0;
      ctid_block = block;
      ctid_line = line;
      mask2 = tuple.mask2;
      mask = tuple.mask;
      hoff = tuple.hoff;
    }

-- the tuple, with these bytes behind its header
unfoldable pub tuple_of : ℕ → ℕ → ℕ → ℕ → NewTuple → List ℕ → List ℕ
tuple_of xid xmax block line tuple rest = head_bytes (new_head xid xmax block line tuple) ++ rest

-- tuples go to these lines, one after the other
unfoldable pub put_listed : ℕ → ℕ → List ℕ → List NewTuple → List Item → Result (List Item) BlockRefusal
put_listed xid block [] tuples items = Ok items
put_listed xid block (line ∷ lines) [] items = Ok items
put_listed xid block (line ∷ lines) (tuple ∷ tuples) items = do
  next ← put line (tuple_of xid 0 block line tuple tuple.rest) items
  put_listed xid block lines tuples next

-- the values of a tuple
abbrev pub user_data : List ℕ → List ℕ
user_data tuple = drop (hoff_of tuple) tuple

-- what stands behind the header of a new version of a tuple with these values: its own bytes up to its
-- values, the old version's first ones, its own, and the old version's last ones
unfoldable pub joined : NewTuple → List ℕ → List ℕ
joined tuple old =
    take (tuple.hoff - 23) tuple.rest
    ++ take tuple.prefix old
    ++ drop (tuple.hoff - 23) tuple.rest
    ++ drop (length old - tuple.suffix) old

-- the new version, if the record has it, goes to its line
unfoldable pub put_version : ℕ → ℕ → ℕ → ℕ → List NewTuple → List ℕ → List Item → Result (List Item) BlockRefusal
put_version xid xmax block line [] old items = Ok items
put_version xid xmax block line (tuple ∷ tuples) old items =
    put line (tuple_of xid xmax block line tuple (joined tuple old)) items

-- the parts of the old version that the new one has are longer than it
abbrev pub is_short : List NewTuple → List ℕ → Bool
is_short [] old = false
is_short (tuple ∷ tuples) old = nat_lt (length old) (tuple.prefix + tuple.suffix)

-- the old version of an update points to the new one
unfoldable pub update_old : Bool → ℕ → ℕ → ℕ → ℕ → ℕ → List Item → Result (List Item) BlockRefusal
update_old is_hot xmax line bits new_block new_line items =
    change_head line (λ head. replaced xmax bits is_hot new_block new_line head) items

-- an update whose both versions are in one block
unfoldable pub update_within : Rec → RecBlock → Bool → ℕ → ℕ → ℕ → ℕ → ℕ → List Item → Result (List Item) BlockRefusal
update_within rec block is_hot old_xmax old_line old_bits new_xmax new_line items =
    let old = user_data (tuple_in (numbered items old_line)) in do
      next ← update_old is_hot old_xmax old_line old_bits block.block new_line items
      if is_short block.tuples old then Err (no_tuple old_line)
          else put_version rec.head.xid.0 new_xmax block.block new_line block.tuples old next

-- an update: block 1 has the old version, where that is in another block than the new one
unfoldable pub update : Rec → RecBlock → ℕ → ℕ → ℕ → ℕ → ℕ → Option ℕ → Option ℕ → List Item → Result (List Item) BlockRefusal
update rec block old_xmax old_line old_bits new_xmax new_line (Some new_block) (Some old_block) items =
    if block.id == 0 then put_version rec.head.xid.0 new_xmax block.block new_line block.tuples [] items
    else update_old (bit_and rec.head.info 0x70 == 0x40) old_xmax old_line old_bits new_block new_line items
update rec block old_xmax old_line old_bits new_xmax new_line (Some new_block) None items =
    update_within rec block (bit_and rec.head.info 0x70 == 0x40) old_xmax old_line old_bits new_xmax new_line items
update rec block old_xmax old_line old_bits new_xmax new_line None old_block items = Ok items

-- a line that is in use becomes this
unfoldable pub set_line : ℕ → Item → List Item → Result (List Item) BlockRefusal
set_line line item items = answered line (with_item items (line - 1) item) (set_line_answer items line)

-- lines become this, one after the other
unfoldable pub set_lines : Item → List ℕ → List Item → Result (List Item) BlockRefusal
set_lines item [] items = Ok items
set_lines item (line ∷ lines) items = do
  next ← set_line line item items
  set_lines item lines next

-- a line leads to another, which is in use
unfoldable pub redirect_line : Redirect → List Item → Result (List Item) BlockRefusal
redirect_line line items = do
  next ← set_line line.from (redirect line.to) items
  if is_unused (numbered items line.to) then Err (no_tuple line.to) else Ok next

unfoldable pub redirect_lines : List Redirect → List Item → Result (List Item) BlockRefusal
redirect_lines [] items = Ok items
redirect_lines (line ∷ lines) items = do
  next ← redirect_line line items
  redirect_lines lines next

-- a page is pruned: lines lead to others, then lines are dead, then lines are unused (heap_page_prune_execute,
-- pruneheap.c)
unfoldable pub prune : List Redirect → List ℕ → List ℕ → List Item → Result (List Item) BlockRefusal
prune redirected died freed items = do
  led ← redirect_lines redirected items
  left ← set_lines dead died led
  set_lines unused freed left

-- the tuples of these lines are frozen by a plan, one after the other (heap_execute_freeze_tuple)
unfoldable pub freeze_lines : FreezePlan → List ℕ → List Item → Result (List Item) BlockRefusal
freeze_lines plan [] items = Ok items
freeze_lines plan (line ∷ lines) items = do
  next ← change_head line (λ head. frozen plan.xmax.0 plan.mask2 plan.mask head) items
  freeze_lines plan lines next

-- each plan freezes its lines
unfoldable pub freeze : List FreezePlan → List Item → Result (List Item) BlockRefusal
freeze [] items = Ok items
freeze (plan ∷ plans) items = do
  next ← freeze_lines plan plan.lines items
  freeze plans next

-- what a record of this kind changes in the items of a block
unfoldable pub changed : Rec → RecBlock → RecKind → List Item → Result (List Item) BlockRefusal
changed rec block (Checkpoint redo timeline previous writes next multi member oldest active) items = Ok items
changed rec block (BackupEnd start) items = Ok items
changed rec block (Parameters connections processes senders prepared locks level) items = Ok items
changed rec block (FullPageWrites on) items = Ok items
changed rec block Images items = Ok items
changed rec block (Overwrite given_up time) items = Ok items
changed rec block (Ended time xinfo xids files) items = Ok items
changed rec block (Assignment top xids) items = Ok items
changed rec block (Running tops subs overflow next oldest latest xids) items = Ok items
changed rec block (Insert line flags) items = put_listed rec.head.xid.0 block.block (line ∷ []) block.tuples items
changed rec block (Delete xmax line bits flags) items =
    change_head line (λ head. deleted xmax.0 bits flags block.block line head) items
changed rec block (Update old_xmax old_line old_bits flags new_xmax new_line) items =
    update rec block old_xmax.0 old_line old_bits new_xmax.0 new_line (number_of 0 rec.blocks) (number_of 1 rec.blocks) items
changed rec block (Confirm line) items = change_head line (λ head. pointing_to block.block line head) items
changed rec block (Lock xmax line bits flags) items =
    change_head line (λ head. locked xmax.0 bits block.block line head) items
changed rec block (MultiInsert flags lines) items = put_listed rec.head.xid.0 block.block lines block.tuples items
changed rec block (LockUpdated xmax line bits flags) items =
    change_head line (λ head. marked xmax.0 bits head) items
changed rec block (Prune horizon catalogue redirected died freed) items = prune redirected died freed items
changed rec block (Vacuum freed) items = set_lines unused freed items
changed rec block (Freeze horizon catalogue plans) items = freeze plans items
changed rec block (Visible horizon flags) items = Ok items
changed rec block (Truncate number locator flags) items = Ok items
changed rec block (Locks entries) items = Ok items
changed rec block (Multixact id offset members) items = Ok items
changed rec block Other items = Ok items

-- the page of an image
abbrev pub page_of_image : RecImage → List ℕ
page_of_image image = restored image.hole_at image.bytes

-- the block is restored from its image
abbrev pub after_restore : RecImage → Result Content BlockRefusal
after_restore image =
    if is_page (page_of_image image) then Ok (page (items_of (page_of_image image))) else Err bad_page

-- the image that replay restores
abbrev pub applied : Option RecImage → Option RecImage
applied None = None
applied (Some image) = if image.apply then Some image else None

-- a page with these items, where the change is not refused
abbrev pub paged : Result (List Item) BlockRefusal → Result Content BlockRefusal
paged (Ok items) = Ok (page items)
paged (Err refusal) = Err refusal

-- a record of images changes nothing of a block without one, and so does one of visibility
abbrev pub is_images : RecKind → Bool
is_images (Checkpoint redo timeline previous writes next multi member oldest active) = false
is_images (BackupEnd start) = false
is_images (Parameters connections processes senders prepared locks level) = false
is_images (FullPageWrites on) = false
is_images Images = true
is_images (Overwrite given_up time) = false
is_images (Ended time xinfo xids files) = false
is_images (Assignment top xids) = false
is_images (Running tops subs overflow next oldest latest xids) = false
is_images (Insert line flags) = false
is_images (Delete xmax line bits flags) = false
is_images (Update old_xmax old_line old_bits flags new_xmax new_line) = false
is_images (Confirm line) = false
is_images (Lock xmax line bits flags) = false
is_images (MultiInsert flags lines) = false
is_images (LockUpdated xmax line bits flags) = false
is_images (Prune horizon catalogue redirected died freed) = false
is_images (Vacuum freed) = false
is_images (Freeze horizon catalogue plans) = false
is_images (Visible horizon flags) = true
is_images (Truncate number locator flags) = false
is_images (Locks entries) = false
is_images (Multixact id offset members) = false
is_images Other = false

-- the change of a page that is there, or is made anew
unfoldable pub changed_page : Rec → RecBlock → Content → Result Content BlockRefusal
changed_page rec block missing = Err no_page
changed_page rec block broken = Err bad_page
changed_page rec block (page items) = paged (changed rec block rec.kind items)

-- what a block is before its change: a page without items, where the record makes it anew
abbrev pub made_anew : Bool → Content → Content
made_anew true before = page []
made_anew false before = before

-- the change of a block without an image that is restored
unfoldable pub after_change : Rec → RecBlock → Content → Result Content BlockRefusal
after_change rec block before =
    if is_images rec.kind then Ok before else changed_page rec block (made_anew block.will_init before)

abbrev pub after_image : Rec → RecBlock → Content → Option RecImage → Result Content BlockRefusal
after_image rec block before (Some image) = after_restore image
after_image rec block before None = after_change rec block before

-- What redo of the record leaves of one of its blocks in a described table, if that is not skipped. No table
-- has the block with the greatest number (InvalidBlockNumber). An image that is applied is restored
-- whatever stands there; else a page that is made anew has no items before the change.
unfoldable pub after : Rec → RecBlock → Content → Result Content BlockRefusal
after rec block before =
    if block.block == 4294967295 then Err no_page
    else after_image rec block before (applied block.image)
