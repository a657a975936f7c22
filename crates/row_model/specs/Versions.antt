-- The versions of a table's rows, and the steps by which records add and change them.
-- Sources: heapam_xlog.h, htup_details.h, heapam.c (heap_insert, heap_update, heap_delete, heap_lock_tuple,
-- heap_freeze_execute_prepared), pruneheap.c (heap_page_prune).
use Rattle.std.specs.Prelude.{ℕ, ◌==◌, Bool, true, false, ◌&&◌, ◌||◌, bit_and, List, [], ◌∷◌, Option, Some, None, map, if◌then◌else◌}
use Rattle.pg_types.specs.Numbers.{has_bits}
use Rattle.heap_tuple.specs.Tuple.{is_lock_only, max_of, xmin_of}
use Rattle.heap_tuple.specs.declared.tuple_view.MaxOf.{MaxOf}
use Rattle.heap_tuple.specs.declared.tuple_view.MaxOf.TheVariants.{None as NoDeleter, Xid as DeletedBy, Multi}
use Rattle.tuple_visibility.specs.Visible.{xmin_marks}

-- who inserted a version: nobody any more, where the insertion was taken back; one that counts as committed always,
-- where the tuple was born frozen; a transaction
pub data Inserter : Type 0 where
  Nobody : Inserter
  Always : Inserter
  By : (xid : ℕ) → Inserter

-- a version of a row: its block and line, who inserted it, who deleted it, whether its tuple is marked frozen, whether
-- it still holds its place (a line that was made other than normal has lost its version, which nothing forgets), and
-- the bytes of its tuple as they were written (ids and marks in their header change later)
pub record Version : Type 0 where
  pub block : ℕ
  pub line : ℕ
  pub inserter : Inserter
  pub deleter : MaxOf
  pub frozen : Bool
  pub holds : Bool
  pub tuple : List ℕ

-- both marks of xmin together are HEAP_XMIN_FROZEN
abbrev pub is_frozen : List ℕ → Bool
is_frozen tuple = xmin_marks tuple == 0x0300

-- who inserted a tuple, as it shows
abbrev pub inserter_in : List ℕ → Inserter
inserter_in tuple = if is_frozen tuple then Always else By (xmin_of tuple)

-- what a freeze leaves in a tuple's header (xl_heap_freeze_plan, heapam_xlog.h)
pub record FreezePlan : Type 0 where
  pub xmax : ℕ
  pub mask2 : ℕ
  pub mask : ℕ

-- whether a tuple with the plan is marked frozen
abbrev pub freezes : FreezePlan → Bool
freezes plan = bit_and plan.mask 0x0300 == 0x0300

-- the deleter that it shows
unfoldable pub deleter_of_plan : FreezePlan → MaxOf
deleter_of_plan plan =
    if is_lock_only plan.mask || (plan.xmax == 0) then NoDeleter
    else if has_bits plan.mask 0x1000 then Multi plan.xmax
    else DeletedBy (record { 0 = plan.xmax })

-- a step of a record: a tuple is born at a place, in a page that was written whole or not; the version there gets
-- another deleter, or none; its insertion is taken back; it loses its place; it is frozen by a plan
pub data RowStep : Type 0 where
  Born : (whole : Bool) → (block line : ℕ) → (tuple : List ℕ) → RowStep
  Deleter : (block line : ℕ) → MaxOf → RowStep
  Undone : (block line : ℕ) → RowStep
  Removed : (block line : ℕ) → RowStep
  Frozen : (block line : ℕ) → FreezePlan → RowStep

abbrev pub version_born : ℕ → ℕ → List ℕ → Version
version_born block line tuple =
    record {
      block = block;
      line = line;
      inserter = inserter_in tuple;
      deleter = max_of tuple;
      frozen = is_frozen tuple;
      holds = true;
      tuple = tuple;
    }

-- the version with another deleter, taken back, without its place, or frozen
abbrev pub with_deleter : MaxOf → Version → Version
with_deleter d v = record v { deleter = d }

abbrev pub taken_back : Version → Version
taken_back v = record v { inserter = Nobody }

abbrev pub removed : Version → Version
removed v = record v { holds = false }

abbrev pub frozen_by : FreezePlan → Version → Version
frozen_by plan v = record v { deleter = deleter_of_plan plan; frozen = freezes plan }

-- the version holds this place
abbrev pub is_at : ℕ → ℕ → Version → Bool
is_at block line v = v.holds && ((v.block == block) && (v.line == line))

-- the version at a place: the newest one that holds it
unfoldable pub version_at : ℕ → ℕ → List Version → Option Version
version_at block line [] = None
version_at block line (v ∷ vs) = if is_at block line v then Some v else version_at block line vs

-- the versions, those at a place changed in this way
unfoldable pub changed_at : ℕ → ℕ → (Version → Version) → List Version → List Version
changed_at block line f vs = map (λ v. if is_at block line v then f v else v) vs

-- the versions after a step, the newest first
unfoldable pub with_step : List Version → RowStep → List Version
with_step vs (Born whole block line tuple) = version_born block line tuple ∷ vs
with_step vs (Deleter block line d) = changed_at block line (with_deleter d) vs
with_step vs (Undone block line) = changed_at block line taken_back vs
with_step vs (Removed block line) = changed_at block line removed vs
with_step vs (Frozen block line plan) = changed_at block line (frozen_by plan) vs

unfoldable pub with_steps : List Version → List RowStep → List Version
with_steps vs [] = vs
with_steps vs (step ∷ steps) = with_steps (with_step vs step) steps
