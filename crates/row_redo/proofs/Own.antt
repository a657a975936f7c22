-- The steps of a record in one of its blocks are made in that block.
use Rattle.std.proofs.Common.{ℕ, ◌+◌, Bool, true, false, not, ◌&&◌, ◌==◌, cond, nat_le, List, [], ◌∷◌, map, Option, Some, None, refl}
use Rattle.typed_records.specs.declared.types.RecImage.{RecImage}
use Rattle.typed_records.specs.declared.types.NewTuple.{NewTuple}
use Rattle.typed_records.specs.declared.types.RecBlock.{RecBlock}
use Rattle.typed_records.specs.declared.types.Rec.{Rec}
use Rattle.typed_records.specs.declared.types.RecKind.{RecKind}
use Rattle.typed_records.specs.declared.types.RecKind.TheVariants.{Checkpoint, BackupEnd, Parameters, FullPageWrites, Images, Overwrite, Ended, Assignment, Running, Insert, Delete, Update, Confirm, Lock, MultiInsert, LockUpdated, Prune, Vacuum, Freeze, Visible, Truncate, Locks, Multixact, Other}
use Rattle.pg_types.specs.Numbers.{has_bits}
use Rattle.heap_redo.specs.After.{applied, number_of}
use Rattle.heap_page.specs.Item.{Item, unused, normal, redirect, dead, is_normal, numbered, tuple_in}
use Rattle.record_fields.specs.declared.entries.FreezePlan as listed
use Rattle.row_model.specs.Versions.{Version, FreezePlan, RowStep, Deleter, Undone, Removed, Frozen, version_at}
use Rattle.row_model.specs.RowSteps.{deleter_of_mark, items_in, births_written, births_shown, births, version_written, version_put, values_of, update_steps, removals_written, removals_shown, removals, plan_of, plan_shown, frozen_written, frozen_shown, freezes_in, pruned_lines, own_steps, puts_tuples, births_of_items, whole_steps, block_steps}
use Rattle.row_redo.proofs.Places.{AllIn, all_joined}

-- one of two lists of steps
either_in : (block : ℕ) (t : Bool) (a b : List RowStep) → AllIn block a → AllIn block b → AllIn block (cond t a b)
either_in block true a b p q = p
either_in block false a b p q = q

written_in : (xid block : ℕ) (lines : List ℕ) (tuples : List NewTuple) → AllIn block (births_written xid block lines tuples)
unfolding births_written
written_in xid block [] tuples = tt
written_in xid block (line ∷ lines) [] = tt
written_in xid block (line ∷ lines) (tuple ∷ tuples) = (refl, written_in xid block lines tuples)

shown_in : (block : ℕ) (items : List Item) (lines : List ℕ) → AllIn block (births_shown block items lines)
unfolding births_shown
shown_in block items [] = tt
shown_in block items (line ∷ lines) = (refl, shown_in block items lines)

births_in : (rec : Rec) (block : RecBlock) (image : Option RecImage) (lines : List ℕ) → AllIn block.block (births rec block image lines)
unfolding births
births_in rec block None lines = written_in rec.head.xid.0 block.block lines block.tuples
births_in rec block (Some image) lines = shown_in block.block (items_in image) lines

version_in :
    (rec : Rec) (block : RecBlock) (xmax line : ℕ) (old : List ℕ) (tuples : List NewTuple)
    → AllIn block.block (version_written rec block xmax line old tuples)
unfolding version_written
version_in rec block xmax line old [] = tt
version_in rec block xmax line old (tuple ∷ tuples) = (refl, tt)

put_in :
    (rec : Rec) (block : RecBlock) (image : Option RecImage) (xmax line : ℕ) (old : List ℕ)
    → AllIn block.block (version_put rec block image xmax line old)
unfolding version_put
put_in rec block None xmax line old = version_in rec block xmax line old block.tuples
put_in rec block (Some image) xmax line old = shown_in block.block (items_in image) (line ∷ [])

update_in :
    (rec : Rec) (block : RecBlock) (old_xmax old_line old_bits new_xmax new_line : ℕ) (new_block old_block : Option ℕ)
    (vs : List Version)
    → AllIn block.block (update_steps rec block old_xmax old_line old_bits new_xmax new_line new_block old_block vs)
unfolding update_steps
update_in rec block old_xmax old_line old_bits new_xmax new_line (Some new_block) (Some old_block) vs =
    either_in block.block (block.id == 0) (version_put rec block (applied block.image) new_xmax new_line [])
    (Deleter block.block old_line (deleter_of_mark old_xmax old_bits) ∷ [])
    (put_in rec block (applied block.image) new_xmax new_line []) (refl, tt)
update_in rec block old_xmax old_line old_bits new_xmax new_line (Some new_block) None vs =
    (refl, put_in rec block (applied block.image) new_xmax new_line (values_of (version_at block.block old_line vs)))
update_in rec block old_xmax old_line old_bits new_xmax new_line None old_block vs = tt

-- the removals and the freezing, as the record says it or its image shows it
removed_in : (block : ℕ) (lines : List ℕ) → AllIn block (removals_written block lines)
unfolding removals_written
removed_in block [] = tt
removed_in block (line ∷ lines) = (refl, removed_in block lines)

removed_shown_in : (block : ℕ) (items : List Item) (vs : List Version) → AllIn block (removals_shown block items vs)
unfolding removals_shown
removed_shown_in block items [] = tt
removed_shown_in block items (v ∷ vs) =
    let here : List RowStep = Removed block v.line ∷ [] in
    let t : Bool = v.holds && (v.block == block) && not (is_normal (numbered items v.line)) in
    all_joined block (cond t here []) (removals_shown block items vs) (either_in block t here [] (refl, tt) tt)
    (removed_shown_in block items vs)

removals_in : (block : ℕ) (image : Option RecImage) (lines : List ℕ) (vs : List Version) → AllIn block (removals block image lines vs)
unfolding removals
removals_in block None lines vs = removed_in block lines
removals_in block (Some image) lines vs = removed_shown_in block (items_in image) vs

plan_in : (block : ℕ) (plan : FreezePlan) (lines : List ℕ) → AllIn block (map (λ line. Frozen block line plan) lines)
plan_in block plan [] = tt
plan_in block plan (line ∷ lines) = (refl, plan_in block plan lines)

plans_in : (block : ℕ) (plans : List listed.FreezePlan) → AllIn block (frozen_written block plans)
unfolding frozen_written
plans_in block [] = tt
plans_in block (plan ∷ plans) =
    all_joined block (map (λ line. Frozen block line (plan_of plan)) plan.lines) (frozen_written block plans)
    (plan_in block (plan_of plan) plan.lines) (plans_in block plans)

frozen_shown_in : (block : ℕ) (items : List Item) (vs : List Version) → AllIn block (frozen_shown block items vs)
unfolding frozen_shown
frozen_shown_in block items [] = tt
frozen_shown_in block items (v ∷ vs) =
    let here : List RowStep = Frozen block v.line (plan_shown (tuple_in (numbered items v.line))) ∷ [] in
    let t : Bool = v.holds && (v.block == block) in
    all_joined block (cond t here []) (frozen_shown block items vs) (either_in block t here [] (refl, tt) tt)
    (frozen_shown_in block items vs)

freezes_in_block : (block : ℕ) (image : Option RecImage) (plans : List listed.FreezePlan) (vs : List Version) → AllIn block (freezes_in block image plans vs)
unfolding freezes_in
freezes_in_block block None plans vs = plans_in block plans
freezes_in_block block (Some image) plans vs = frozen_shown_in block (items_in image) vs

pub own_in : (rec : Rec) (block : RecBlock) (kind : RecKind) (vs : List Version) → AllIn block.block (own_steps rec block kind vs)
unfolding own_steps
own_in rec block (Insert line flags) vs = births_in rec block (applied block.image) (line ∷ [])
own_in rec block (MultiInsert flags lines) vs = births_in rec block (applied block.image) lines
own_in rec block (Delete xmax line bits flags) vs =
    either_in block.block (has_bits flags 0x08) (Undone block.block line ∷ []) (Deleter block.block line (deleter_of_mark xmax.0 bits) ∷ [])
    (refl, tt) (refl, tt)
own_in rec block (Update old_xmax old_line old_bits flags new_xmax new_line) vs =
    update_in rec block old_xmax.0 old_line old_bits new_xmax.0 new_line (number_of 0 rec.blocks) (number_of 1 rec.blocks) vs
own_in rec block (Lock xmax line bits flags) vs = (refl, tt)
own_in rec block (LockUpdated xmax line bits flags) vs = (refl, tt)
own_in rec block (Checkpoint redo timeline previous writes next multi member oldest active) vs = tt
own_in rec block (BackupEnd start) vs = tt
own_in rec block (Parameters connections processes senders prepared locks level) vs = tt
own_in rec block (FullPageWrites on) vs = tt
own_in rec block Images vs = tt
own_in rec block (Overwrite given_up time) vs = tt
own_in rec block (Ended time xinfo xids files) vs = tt
own_in rec block (Assignment top xids) vs = tt
own_in rec block (Running tops subs overflow next oldest latest xids) vs = tt
own_in rec block (Confirm line) vs = tt
own_in rec block (Prune horizon catalogue redirected died freed) vs =
    removals_in block.block (applied block.image) (pruned_lines redirected died freed) vs
own_in rec block (Vacuum freed) vs = removals_in block.block (applied block.image) freed vs
own_in rec block (Freeze horizon catalogue plans) vs = freezes_in_block block.block (applied block.image) plans vs
own_in rec block (Visible horizon flags) vs = tt
own_in rec block (Truncate number locator flags) vs = tt
own_in rec block (Locks entries) vs = tt
own_in rec block (Multixact id offset members) vs = tt
own_in rec block Other vs = tt

-- the births of a page's items
items_in_block : (block line : ℕ) (items : List Item) → AllIn block (births_of_items block line items)
unfolding births_of_items
items_in_block block line [] = tt
items_in_block block line (unused ∷ items) = items_in_block block (line + 1) items
items_in_block block line (normal tuple ∷ items) = (refl, items_in_block block (line + 1) items)
items_in_block block line (redirect to ∷ items) = items_in_block block (line + 1) items
items_in_block block line (dead ∷ items) = items_in_block block (line + 1) items

whole_in : (block : RecBlock) (kind : RecKind) (image : Option RecImage) (count : ℕ) → AllIn block.block (whole_steps block kind image count)
unfolding whole_steps
whole_in block kind None count = tt
whole_in block kind (Some image) count =
    either_in block.block (not (puts_tuples block kind) && nat_le count block.block)
    (births_of_items block.block 1 (items_in image)) [] (items_in_block block.block 1 (items_in image)) tt

-- all steps of a record in a block
pub block_in : (rec : Rec) (block : RecBlock) (count : ℕ) (vs : List Version) → AllIn block.block (block_steps rec block count vs)
block_in rec block count vs =
    all_joined block.block (whole_steps block rec.kind (applied block.image) count) (own_steps rec block rec.kind vs)
    (whole_in block rec.kind (applied block.image) count) (own_in rec block rec.kind vs)
