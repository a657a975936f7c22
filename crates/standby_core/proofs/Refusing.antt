-- Redo of a record is refused for a cause, and never for want of memory.
use Rattle.std.proofs.Common.{◌≡◌, ℕ, List, [], ◌∷◌, Option, Some, None, Result, Ok, Err, refl, ◌∙◌, ap}
use Rattle.pg_types.specs.declared.names.Locator.{Locator}
use Rattle.heap_redo.specs.After.{BlockRefusal, no_page, no_tuple, page_full, bad_page}
use Rattle.typed_records.specs.declared.types.Rec.{Rec}
use Rattle.typed_records.specs.declared.types.RecBlock.{RecBlock}
use Rattle.heap_redo.specs.declared.fault.RedoFault.{RedoFault}
use Rattle.heap_redo.specs.declared.fault.RedoFault.TheVariants.{Memory}
use Rattle.page_store.specs.Seen.{Seen, View}
use Rattle.heap_redo.specs.Redone.{Outcome, and_then, cut_by, redone, redone_at, redone_block, redone_in, redone_record, redone_unless, table_of, view_by}
use Rattle.heap_redo.specs.Refused.{fault_at}

fault_not_memory : (block : RecBlock) (refusal : BlockRefusal) → fault_at block refusal ≡ Memory → ⊥
unfolding fault_at
fault_not_memory block no_page e = cc
fault_not_memory block (no_tuple line) e = cc
fault_not_memory block (page_full line) e = cc
fault_not_memory block bad_page e = cc

by_not_memory : (rec : Rec) (block : RecBlock) (view : View) (table : ℕ) (left : Result Seen BlockRefusal)
    → view_by rec block view (record { table = table; block = block.block }) left ≡ Err Memory → ⊥
by_not_memory rec block view table (Ok seen) e = cc
by_not_memory rec block view table (Err refusal) e = fault_not_memory block refusal cc

in_not_memory : (rec : Rec) (block : RecBlock) (view : View) (table : Option ℕ) → redone_in rec block view table ≡ Err Memory → ⊥
in_not_memory rec block view None e = cc
in_not_memory rec block view (Some table) e = by_not_memory rec block view table (redone_block rec block (view table block.block)) e

at_not_memory : (rec : Rec) (known : List Locator) (block : RecBlock) (view : View) → redone_at rec known block view ≡ Err Memory → ⊥
unfolding redone_at
at_not_memory rec known block view e = in_not_memory rec block view (table_of known block.locator) e

blocks_not_memory : (rec : Rec) (known : List Locator) (blocks : List RecBlock) (view new : View) → redone rec known blocks view ≡ (new, Err Memory) → ⊥
unfolding redone
blocks_not_memory rec known [] view new e = let f = ap (λ (o : Outcome). o.1) e in cc
blocks_not_memory rec known (block ∷ blocks) view new e =
    by (λ next f. blocks_not_memory rec known blocks next new f) (redone_at rec known block view) refl e
  where
    by :
        ((next : View) → redone rec known blocks next ≡ (new, Err Memory) → ⊥) → (r : Result View RedoFault) → redone_at rec known block view ≡ r
        → and_then view r (λ next. redone rec known blocks next) ≡ (new, Err Memory) → ⊥
    by later (Ok next) is f = later next f
    by later (Err fault) is f = let g = ap (λ (o : Outcome). o.1) f in at_not_memory rec known block view (is ∙ cc)

-- nor is a record that takes blocks away
unless_not_memory :
    (rec : Rec) (known : List Locator) (view new : View) (cut : Option View) → redone_unless rec known view cut ≡ (new, Err Memory) → ⊥
unless_not_memory rec known view new None e = blocks_not_memory rec known rec.blocks view new e
unless_not_memory rec known view new (Some left) e = let f = ap (λ (o : Outcome). o.1) e in cc

pub redone_not_memory : (rec : Rec) (known : List Locator) (view new : View) → redone_record rec known view ≡ (new, Err Memory) → ⊥
unfolding redone_record
redone_not_memory rec known view new e = unless_not_memory rec known view new (cut_by rec rec.kind known view) e
