-- The blocks of a record, one after the other.
use Rattle.std.proofs.Common.{ap, sym, refl, ◌∙◌, ◌≡◌, List, [], ◌∷◌, ◌++◌, length, take, slice_get, Some, Result, Ok, Err}
use Rattle.pg_types.specs.declared.names.Locator.{Locator}
use Rattle.typed_records.specs.declared.types.Rec.{Rec}
use Rattle.typed_records.specs.declared.types.RecBlock.{RecBlock}
use Rattle.heap_redo.specs.declared.fault.RedoFault.{RedoFault}
use Rattle.page_store.specs.Seen.{View}
use Rattle.heap_redo.specs.Redone.{Outcome, and_then, redone_at, redone}

pub same-view : (a b : View) (x y : Result (Unit {0}) RedoFault) → (let o : Outcome = (a, x) in o) ≡ (b, y) → a ≡ b
same-view a b x y e = ap (λ (o : Outcome). o.0) e

pub same-answer : (a b : View) (x y : Result (Unit {0}) RedoFault) → (let o : Outcome = (a, x) in o) ≡ (b, y) → x ≡ y
same-answer a b x y e = ap (λ (o : Outcome). o.1) e

and_then-goes_on : (v w : View) (r : Result View RedoFault) (f g : View → Outcome) (o : Outcome) → ((u : View) → f u ≡ (w, Ok tt) → g u ≡ o) → and_then v r f ≡ (w, Ok tt) → and_then v r g ≡ o
and_then-goes_on v w (Ok u) f g o h e = h u e
and_then-goes_on v w (Err fault) f g o h e = let bad = same-answer v w (Err fault) (Ok tt) e in cc

take-front : (xs ys : List RecBlock) → take (length xs) (xs ++ ys) ≡ xs
take-front [] ys = refl
take-front (x ∷ xs) ys = ap (λ l. x ∷ l) (take-front xs ys)

module _ (rec : Rec) (known : List Locator) where
  -- the first blocks, and then the others
  pub redone-append : (xs ys : List RecBlock) (v w : View) → redone rec known xs v ≡ (w, Ok tt) → redone rec known (xs ++ ys) v ≡ redone rec known ys w
  unfolding redone
  redone-append [] ys v w e = ap (λ u. redone rec known ys u) (same-view v w (Ok tt) (Ok tt) e)
  redone-append (x ∷ xs) ys v w e =
      and_then-goes_on v w (redone_at rec known x v) (λ u. redone rec known xs u) (λ u. redone rec known (xs ++ ys) u)
      (redone rec known ys w) (λ u h. redone-append xs ys u w h) e

  pub redone-first : (x : RecBlock) (xs : List RecBlock) (v next : View) → Ok next ≡ redone_at rec known x v → redone rec known (x ∷ xs) v ≡ redone rec known xs next
  unfolding redone
  redone-first x xs v next e = ap (λ r. and_then v r (λ u. redone rec known xs u)) (sym e)

  pub redone-refused : (x : RecBlock) (xs : List RecBlock) (v : View) (fault : RedoFault) → Err fault ≡ redone_at rec known x v → redone rec known (x ∷ xs) v ≡ (v, Err fault)
  unfolding redone
  redone-refused x xs v fault e = ap (λ r. and_then v r (λ u. redone rec known xs u)) (sym e)

  pub redone-none : (v : View) → redone rec known [] v ≡ (v, Ok tt)
  unfolding redone
  redone-none v = refl

  -- one block more
  pub redone-more : (passed : List RecBlock) (block : RecBlock) (old now next : View) → redone rec known passed old ≡ (now, Ok tt) → Ok next ≡ redone_at rec known block now → redone rec known (passed ++ block ∷ []) old ≡ (next, Ok tt)
  redone-more passed block old now next done e =
      redone-append passed (block ∷ []) old now done
      ∙ redone-first block [] now next e
      ∙ redone-none next

  -- the record is refused at this block
  pub redone-stops : (passed others blocks : List RecBlock) (block : RecBlock) (old now : View) (fault : RedoFault) → passed ++ block ∷ others ≡ blocks → redone rec known passed old ≡ (now, Ok tt) → Err fault ≡ redone_at rec known block now → redone rec known blocks old ≡ (now, Err fault)
  redone-stops passed others blocks block old now fault whole done e =
      ap (λ xs. redone rec known xs old) (sym whole)
      ∙ redone-append passed (block ∷ others) old now done
      ∙ redone-refused block others now fault e

  -- the first blocks of the record
  pub redone-front : (passed others blocks : List RecBlock) (old now : View) → passed ++ others ≡ blocks → redone rec known passed old ≡ (now, Ok tt) → redone rec known (take (length passed) blocks) old ≡ (now, Ok tt)
  redone-front passed others blocks old now whole done =
      ap (λ xs. redone rec known xs old) (ap (λ xs. take (length passed) xs) (sym whole) ∙ take-front passed others) ∙ done

-- the block behind the first ones
at-end : (passed others : List RecBlock) (block : RecBlock) → slice_get (passed ++ block ∷ others) (length passed) ≡ Some block
at-end [] others block = refl
at-end (first ∷ passed) others block = at-end passed others block

pub next-there : (passed others blocks : List RecBlock) (block : RecBlock) → passed ++ block ∷ others ≡ blocks → slice_get blocks (length passed) ≡ Some block
next-there passed others blocks block whole = ap (λ xs. slice_get xs (length passed)) (sym whole) ∙ at-end passed others block
