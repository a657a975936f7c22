-- Which versions stood as a scan was opened, and whether each of them was a row then, after further steps.
use Rattle.std.proofs.Common.{◌≡◌, ◌⊎◌, ℕ, Bool, true, false, not, ◌&&◌, ◌==◌, cond, List, [], ◌∷◌, Option, Some, None, refl, sym, ap, ◌∙◌, subst, inl, inr}
use Rattle.std.proofs.lemmas.Bool.{and_left, and_parts, and_right, both_ways, cases_Bool, eqb-true, false_from_ne_true}
use Rattle.pg_types.specs.declared.names.Locator.{Locator}
use Rattle.heap_tuple.specs.Tuple.{xmin_of}
use Rattle.heap_tuple.specs.declared.tuple_view.MaxOf.{MaxOf}
use Rattle.typed_records.specs.declared.types.Rec.{Rec}
use Rattle.row_model.specs.Versions.{Version, Inserter, Nobody, Always, By, FreezePlan, RowStep, Born, Deleter, Undone, Removed, Frozen, changed_at, deleter_of_plan, freezes, frozen_by, is_at, is_frozen, removed, taken_back, version_at, version_born, with_deleter, with_step, with_steps}
use Rattle.row_model.specs.Origins.{HasFailed, IsLive, IsSameTree, LogOrigin, committed_in}
use Rattle.row_model.specs.Multixacts.{WasMade, deleter_in, multixacts}
use Rattle.row_model.specs.Locks.{UnderLock}
use Rattle.row_model.specs.Rows.{counts, has_committed, is_deleted, is_row}
use Rattle.row_model.specs.Shown.{IsSound}
use Rattle.row_model.specs.LegalRows.{MakesMultixacts}
use Rattle.row_model.specs.Stays.{AlwaysStay, DeletersStay}
use Rattle.row_model.specs.LegalSteps.{BirthMarks, BirthRule, BirthStep, BornFrozen, Covers, DeleterStep, EachStep, Fades, IfVersion, IsSpent, MayBeRemoved, MayFollow, MayUndo, MultixactStep, NeverCommitted, OwnDeleted, PlanRule, RemovalStep, Stays, Takes, Unmarked, WasDeleted, WasUndone}
use Rattle.row_redo.proofs.Places.{KeepsPlace, at_changed, at_removed, dropped, found_there, one_place, put}

-- the inserter of a version that is marked frozen counted as the scan was opened
abbrev pub CountedIfFrozen : (ℕ → Bool) → Version → Type 0
CountedIfFrozen was v = v.frozen ≡ true → counts was v.inserter ≡ true

-- a version was born since: by the test of what had committed then its inserter does not count, and no mark says frozen
pub record IsNew (was : ℕ → Bool) (v : Version) : Type 0 where
  pub uncounted : counts was v.inserter ≡ false
  pub thawed : v.frozen ≡ false

-- it is one that stood then: it was written with the same tuple, and by what had committed then it is a row after the log
-- exactly where the old one was; a multixact that deletes it was made
pub record IsKept (older opened : List Rec) (was : ℕ → Bool) (old v : Version) : Type 0 where
  pub tuple : v.tuple ≡ old.tuple
  pub frozen : CountedIfFrozen was v
  pub inserter : counts was v.inserter ≡ counts was old.inserter
  pub made : WasMade older v.deleter
  pub deleter : is_deleted (multixacts older) was v.deleter ≡ is_deleted (multixacts opened) was old.deleter

-- what stood at a place was no row
abbrev pub WasNoRow : List Rec → (ℕ → Bool) → Option Version → Type 0
WasNoRow opened was None = Unit {0}
WasNoRow opened was (Some old) = is_row (multixacts opened) was old ≡ false

-- a version that stands at a place, and the one that stood there: it is that one, or that was no row and it is new
abbrev pub CarriedTo : List Rec → List Rec → (ℕ → Bool) → Option Version → Version → Type 0
CarriedTo older opened was None v = IsNew was v
CarriedTo older opened was (Some old) v = IsKept older opened was old v ⊎ (WasNoRow opened was (Some old) × IsNew was v)

-- no row is gone
abbrev pub CarriedAt : List Rec → List Rec → (ℕ → Bool) → Option Version → Option Version → Type 0
CarriedAt older opened was old None = WasNoRow opened was old
CarriedAt older opened was old (Some v) = CarriedTo older opened was old v

abbrev pub AreCarried : List Rec → List Rec → (ℕ → Bool) → List Version → List Version → Type 0
AreCarried older opened was old vs = (block line : ℕ) → CarriedAt older opened was (version_at block line old) (version_at block line vs)

carried_first :
    (o : LogOrigin) (opened : List Rec) (place : Option Version) → ((v : Version) → place ≡ Some v → IsSound o opened v)
    → CarriedAt opened opened (committed_in o opened) place place
carried_first o opened None sound = tt
carried_first o opened (Some v) sound =
    inl (record { tuple = refl; frozen = (sound v refl).frozen; inserter = refl; made = (sound v refl).made; deleter = refl })

-- before any step
pub all_carried :
    (o : LogOrigin) (opened : List Rec) (vs : List Version)
    → ((block line : ℕ) (v : Version) → version_at block line vs ≡ Some v → IsSound o opened v)
    → AreCarried opened opened (committed_in o opened) vs vs
all_carried o opened vs sound block line = carried_first o opened (version_at block line vs) (sound block line)

-- after a record more, by which a deleter stands for what it did
module _ (stay : AlwaysStay) (rec : Rec) (older : List Rec) (makes : MakesMultixacts (rec ∷ older)) (opened : List Rec) (was : ℕ → Bool) where
  kept_later : (old v : Version) → IsKept older opened was old v → IsKept (rec ∷ older) opened was old v
  kept_later old v kept =
      let stays : DeletersStay rec older v.deleter = stay rec older v.deleter makes kept.made in
      record {
        tuple = kept.tuple;
        frozen = kept.frozen;
        inserter = kept.inserter;
        made = stays.made;
        deleter = ap (has_committed was) stays.same ∙ kept.deleter;
      }

  carried_to_later : (old : Option Version) (v : Version) → CarriedTo older opened was old v → CarriedTo (rec ∷ older) opened was old v
  carried_to_later None v new = new
  carried_to_later (Some old) v (inl kept) = inl (kept_later old v kept)
  carried_to_later (Some old) v (inr new) = inr new

  carried_at_later : (old place : Option Version) → CarriedAt older opened was old place → CarriedAt (rec ∷ older) opened was old place
  carried_at_later old None none = none
  carried_at_later old (Some v) carried = carried_to_later old v carried

  pub carried_later : (old vs : List Version) → AreCarried older opened was old vs → AreCarried (rec ∷ older) opened was old vs
  carried_later old vs carried block line = carried_at_later (version_at block line old) (version_at block line vs) (carried block line)

-- a version that stood is a row exactly where it was
pub kept_row :
    (older opened : List Rec) (was : ℕ → Bool) (old v : Version) → IsKept older opened was old v
    → is_row (multixacts older) was v ≡ is_row (multixacts opened) was old
kept_row older opened was old v kept =
    ap (λ (t : Bool). t && not (is_deleted (multixacts older) was v.deleter)) kept.inserter
    ∙ ap (λ (t : Bool). counts was old.inserter && not t) kept.deleter

-- what a version that is put at a place was carried from, unless one stands there
born_over : (older opened : List Rec) (was : ℕ → Bool) (w : Version) (old : Option Version) → IsNew was w → WasNoRow opened was old → CarriedTo older opened was old w
born_over older opened was w None new none = new
born_over older opened was w (Some old) new none = inr (none, new)

put_over :
    (older opened : List Rec) (was : ℕ → Bool) (w : Version) (t : Bool) (old place : Option Version) → IsNew was w
    → (t ≡ true → place ≡ None) → CarriedAt older opened was old place → CarriedAt older opened was old (cond t (Some w) place)
put_over older opened was w true old place new free carried =
    born_over older opened was w old new (subst (λ (p : Option Version). CarriedAt older opened was old p) (free refl) carried)
put_over older opened was w false old place new free carried = carried

at_same_place : (block line b l : ℕ) (vs : List Version) → ((b == block) && (l == line)) ≡ true → version_at b l vs ≡ None → version_at block line vs ≡ None
at_same_place block line b l vs h e =
    let (p, q) = and_parts (b == block) (l == line) h in
    subst (λ (n : ℕ). version_at block n vs ≡ None) (eqb-true l line q)
    (subst (λ (n : ℕ). version_at n l vs ≡ None) (eqb-true b block p) e)

-- a version that stands at two places is found at both
found_at_both :
    (b l block line : ℕ) (vs : List Version) (w : Version) → is_at b l w ≡ true → version_at block line vs ≡ Some w
    → version_at b l vs ≡ Some w
found_at_both b l block line vs w here found =
    let (p, q) = one_place b l block line w here (found_there block line vs w found) in
    subst (λ (n : ℕ). version_at b n vs ≡ Some w) (sym q) (subst (λ (n : ℕ). version_at n line vs ≡ Some w) (sym p) found)

-- a change of the version at a place
module _ (older opened : List Rec) (was : ℕ → Bool) (b l : ℕ) (f : Version → Version) (keeps : KeepsPlace f) (vs : List Version)
    (follows : (old : Option Version) (w : Version) → version_at b l vs ≡ Some w → CarriedTo older opened was old w → CarriedTo older opened was old (f w)) where
  changed_one :
      (block line : ℕ) (old : Option Version) (w : Version) (t : Bool) → is_at b l w ≡ t → version_at block line vs ≡ Some w
      → CarriedTo older opened was old w → CarriedTo older opened was old (cond t (f w) w)
  changed_one block line old w true here found carried = follows old w (found_at_both b l block line vs w here found) carried
  changed_one block line old w false here found carried = carried

  changed_put :
      (block line : ℕ) (old place : Option Version) → version_at block line vs ≡ place → CarriedAt older opened was old place
      → CarriedAt older opened was old (put b l f place)
  changed_put block line old None found carried = carried
  changed_put block line old (Some w) found carried = changed_one block line old w (is_at b l w) refl found carried

  carried_changed :
      (block line : ℕ) (old : Option Version) → CarriedAt older opened was old (version_at block line vs)
      → CarriedAt older opened was old (version_at block line (changed_at b l f vs))
  carried_changed block line old carried =
      subst (λ (p : Option Version). CarriedAt older opened was old p) (sym (at_changed b l f keeps block line vs))
      (changed_put block line old (version_at block line vs) refl carried)

-- the version at a place loses it
module _ (older opened : List Rec) (was : ℕ → Bool) (b l : ℕ) (vs : List Version)
    (none : (old : Option Version) (w : Version) → version_at b l vs ≡ Some w → CarriedTo older opened was old w → WasNoRow opened was old) where
  dropped_one :
      (block line : ℕ) (old : Option Version) (w : Version) (t : Bool) → is_at b l w ≡ t → version_at block line vs ≡ Some w
      → CarriedTo older opened was old w → CarriedAt older opened was old (cond t None (Some w))
  dropped_one block line old w true here found carried = none old w (found_at_both b l block line vs w here found) carried
  dropped_one block line old w false here found carried = carried

  dropped_place :
      (block line : ℕ) (old place : Option Version) → version_at block line vs ≡ place → CarriedAt older opened was old place
      → CarriedAt older opened was old (dropped b l place)
  dropped_place block line old None found carried = carried
  dropped_place block line old (Some w) found carried = dropped_one block line old w (is_at b l w) refl found carried

  carried_removed :
      (block line : ℕ) (old : Option Version) → CarriedAt older opened was old (version_at block line vs)
      → CarriedAt older opened was old (version_at block line (changed_at b l removed vs))
  carried_removed block line old carried =
      subst (λ (p : Option Version). CarriedAt older opened was old p) (sym (at_removed b l block line vs))
      (dropped_place block line old (version_at block line vs) refl carried)

if_version : (x : Option Version) (Rule : Version → Type 0) (w : Version) → x ≡ Some w → IfVersion x Rule → Rule w
if_version None Rule w e rule = cc
if_version (Some v) Rule w e rule = let same : v ≡ w = cc in subst Rule same rule

-- what is known, before a record, of who had committed as the scan was opened: not who is live now, or has failed; each of
-- a tree of which one had, if it has by now; who is covered by the record's horizon. And none holds the table's lock
pub record KnowsWas (o : LogOrigin) (table : Locator) (older : List Rec) (horizon : ℕ) (was : ℕ → Bool) : Type 0 where
  pub live : (x : ℕ) → IsLive o older x → was x ≡ false
  pub failed : (x : ℕ) → HasFailed o older x → was x ≡ false
  pub still : (x : ℕ) → was x ≡ true → committed_in o older x ≡ true
  pub tree : (x y : ℕ) → was x ≡ true → committed_in o older y ≡ true → IsSameTree o x y → was y ≡ true
  pub covered : (x : ℕ) → committed_in o older x ≡ true → Covers o older horizon x → was x ≡ true
  pub unlocked : (x : ℕ) → UnderLock o table older x → ⊥

-- the steps of a record
module _ (o : LogOrigin) (table : Locator) (older opened : List Rec) (horizon : ℕ) (was : ℕ → Bool) (knows : KnowsWas o table older horizon was) where
  spent_none : (x : Option ℕ) → IsSpent o older x → has_committed was x ≡ false
  spent_none None spent = refl
  spent_none (Some x) spent = knows.failed x spent

  followed :
      (v : Version) (d : MaxOf) → MayFollow o older v d
      → is_deleted (multixacts older) was d ≡ is_deleted (multixacts older) was v.deleter
  followed v d (Stays e) = ap (has_committed was) e
  followed v d (Takes x e lives spent may) =
      ap (has_committed was) e ∙ knows.live x lives ∙ sym (spent_none (deleter_in older v.deleter) spent)
  followed v d (Fades spent fades) =
      spent_none (deleter_in older d) fades ∙ sym (spent_none (deleter_in older v.deleter) spent)

  -- a deleter
  marked_kept : (old v : Version) (d : MaxOf) → MayFollow o older v d → WasMade older d → IsKept older opened was old v → IsKept older opened was old (with_deleter d v)
  marked_kept old v d may made kept =
      record {
        tuple = kept.tuple;
        frozen = kept.frozen;
        inserter = kept.inserter;
        made = made;
        deleter = followed v d may ∙ kept.deleter;
      }

  marked_new : (v : Version) (d : MaxOf) → IsNew was v → IsNew was (with_deleter d v)
  marked_new v d new = record { uncounted = new.uncounted; thawed = new.thawed }

  marked :
      (old : Option Version) (v : Version) (d : MaxOf) → MayFollow o older v d → WasMade older d → CarriedTo older opened was old v
      → CarriedTo older opened was old (with_deleter d v)
  marked None v d may made new = marked_new v d new
  marked (Some old) v d may made (inl kept) = inl (marked_kept old v d may made kept)
  marked (Some old) v d may made (inr (none, new)) = inr (none, marked_new v d new)

  -- an insertion that is taken back
  undone_kept : (old v : Version) → MayUndo o older v → IsKept older opened was old v → IsKept older opened was old (taken_back v)
  undone_kept old v (x, by, lives) kept =
      let uncounted : counts was v.inserter ≡ false = ap (counts was) by ∙ knows.live x lives in
      record {
        tuple = kept.tuple;
        frozen = λ e. absurd (both_ways (counts was v.inserter) uncounted (kept.frozen e));
        inserter = sym uncounted ∙ kept.inserter;
        made = kept.made;
        deleter = kept.deleter;
      }

  undone_new : (v : Version) → IsNew was v → IsNew was (taken_back v)
  undone_new v new = record { uncounted = refl; thawed = new.thawed }

  undone : (old : Option Version) (v : Version) → MayUndo o older v → CarriedTo older opened was old v → CarriedTo older opened was old (taken_back v)
  undone None v may new = undone_new v new
  undone (Some old) v may (inl kept) = inl (undone_kept old v may kept)
  undone (Some old) v may (inr (none, new)) = inr (none, undone_new v new)

  -- a birth: under no lock, so not frozen
  born_thawed : (tuple : List ℕ) → BirthMarks o table older tuple → is_frozen tuple ≡ false
  born_thawed tuple (Unmarked e) = ap (λ (marks : ℕ). marks == 0x0300) e
  born_thawed tuple (BornFrozen frozen lock) = absurd (knows.unlocked (xmin_of tuple) lock)

  born_new :
      (vs : List Version) (whole : Bool) (block line : ℕ) (tuple : List ℕ) → BirthRule o table older vs whole block line tuple
      → IsNew was (version_born block line tuple)
  born_new vs whole block line tuple rule =
      let thawed = born_thawed tuple rule.inserter in
      record {
        uncounted = ap (λ (t : Bool). counts was (cond t Always (By (xmin_of tuple)))) thawed ∙ knows.live (xmin_of tuple) rule.live;
        thawed = thawed;
      }

  -- a removal: what stood was no row
  still_counts : (i : Inserter) → counts was i ≡ true → counts (committed_in o older) i ≡ true
  still_counts Nobody h = h
  still_counts Always h = h
  still_counts (By x) h = knows.still x h

  no_inserter : (v : Version) → counts was v.inserter ≡ false → is_row (multixacts older) was v ≡ false
  no_inserter v h = and_left (counts was v.inserter) (not (is_deleted (multixacts older) was v.deleter)) h

  deleted_then : (v : Version) (y : ℕ) → deleter_in older v.deleter ≡ Some y → was y ≡ true → is_row (multixacts older) was v ≡ false
  deleted_then v y by had =
      and_right (counts was v.inserter) (not (is_deleted (multixacts older) was v.deleter))
      (ap not (ap (has_committed was) by ∙ had))

  -- where its inserter had not committed, or its deleter had
  no_row_by :
      (v : Version) (y : ℕ) → deleter_in older v.deleter ≡ Some y → (counts was v.inserter ≡ true → was y ≡ true)
      → is_row (multixacts older) was v ≡ false
  no_row_by v y by had =
      elim (cases_Bool (counts was v.inserter)) [
        | inl e ↦ deleted_then v y by (had e)
        | inr e ↦ no_inserter v e
      ]

  removable_no_row : (v : Version) → MayBeRemoved o older horizon v → is_row (multixacts older) was v ≡ false
  removable_no_row v (WasUndone by) = no_inserter v (ap (counts was) by)
  removable_no_row v (NeverCommitted x by failed) = no_inserter v (ap (counts was) by ∙ knows.failed x failed)
  removable_no_row v (OwnDeleted x y by deleted done same) =
      no_row_by v y deleted (λ h. knows.tree x y (sym (ap (counts was) by) ∙ h) done same)
  removable_no_row v (WasDeleted y deleted done covers) =
      no_row_by v y deleted (λ h. knows.covered y done (covers (still_counts v.inserter h)))

  removed_none : (old : Option Version) (v : Version) → MayBeRemoved o older horizon v → CarriedTo older opened was old v → WasNoRow opened was old
  removed_none None v may new = tt
  removed_none (Some old) v may (inl kept) = sym (kept_row older opened was old v kept) ∙ removable_no_row v may
  removed_none (Some old) v may (inr (none, new)) = none

  -- a freeze: its inserter had committed
  newly_frozen : (plan : FreezePlan) (v : Version) → PlanRule o older horizon plan v → v.frozen ≡ false → freezes plan ≡ true → counts was v.inserter ≡ true
  newly_frozen plan v rule thawed frozen =
      let (x, by, done, covers) = rule.covered thawed frozen in ap (counts was) by ∙ knows.covered x done covers

  frozen_kept :
      (old v : Version) (plan : FreezePlan) → PlanRule o older horizon plan v → MayFollow o older v (deleter_of_plan plan)
      → WasMade older (deleter_of_plan plan) → IsKept older opened was old v → IsKept older opened was old (frozen_by plan v)
  frozen_kept old v plan rule may made kept =
      record {
        tuple = kept.tuple;
        frozen =
            λ e.
            elim (cases_Bool v.frozen) [
              | inl h ↦ kept.frozen h
              | inr h ↦ newly_frozen plan v rule h e
            ];
        inserter = kept.inserter;
        made = made;
        deleter = followed v (deleter_of_plan plan) may ∙ kept.deleter;
      }

  frozen_new : (v : Version) (plan : FreezePlan) → PlanRule o older horizon plan v → IsNew was v → IsNew was (frozen_by plan v)
  frozen_new v plan rule new =
      record {
        uncounted = new.uncounted;
        thawed =
            false_from_ne_true (freezes plan)
            (λ e. both_ways (counts was v.inserter) new.uncounted (newly_frozen plan v rule new.thawed e));
      }

  frozen_on :
      (old : Option Version) (v : Version) (plan : FreezePlan) → PlanRule o older horizon plan v
      → MayFollow o older v (deleter_of_plan plan) → WasMade older (deleter_of_plan plan) → CarriedTo older opened was old v → CarriedTo older opened was old (frozen_by plan v)
  frozen_on None v plan rule may made new = frozen_new v plan rule new
  frozen_on (Some old) v plan rule may made (inl kept) = inl (frozen_kept old v plan rule may made kept)
  frozen_on (Some old) v plan rule may made (inr (none, new)) = inr (none, frozen_new v plan rule new)

  carried_step :
      (old vs : List Version) (step : RowStep) → BirthStep o table older vs step → DeleterStep o older vs step
      → RemovalStep o older horizon vs step → MultixactStep older vs step → AreCarried older opened was old vs → AreCarried older opened was old (with_step vs step)
  unfolding with_step version_at
  carried_step old vs (Born whole b l tuple) birth deleter removal made carried block line =
      put_over older opened was (version_born b l tuple) (is_at block line (version_born b l tuple)) (version_at block line old)
      (version_at block line vs) (born_new vs whole b l tuple birth) (λ h. at_same_place block line b l vs h birth.free)
      (carried block line)
  carried_step old vs (Deleter b l d) birth deleter removal made carried block line =
      carried_changed older opened was b l (with_deleter d) (λ x y u. refl) vs
      (λ p w at c. marked p w d (if_version (version_at b l vs) (λ u. MayFollow o older u d) w at deleter) made c) block line
      (version_at block line old) (carried block line)
  carried_step old vs (Undone b l) birth deleter removal made carried block line =
      carried_changed older opened was b l taken_back (λ x y u. refl) vs
      (λ p w at c. undone p w (if_version (version_at b l vs) (MayUndo o older) w at deleter) c) block line
      (version_at block line old) (carried block line)
  carried_step old vs (Removed b l) birth deleter removal made carried block line =
      carried_removed older opened was b l vs
      (λ p w at c. removed_none p w (if_version (version_at b l vs) (MayBeRemoved o older horizon) w at removal) c) block line
      (version_at block line old) (carried block line)
  carried_step old vs (Frozen b l plan) birth deleter removal made carried block line =
      carried_changed older opened was b l (frozen_by plan) (λ x y u. refl) vs
      (λ p w at c.
      frozen_on p w plan (if_version (version_at b l vs) (PlanRule o older horizon plan) w at removal)
      (if_version (version_at b l vs) (λ u. MayFollow o older u (deleter_of_plan plan)) w at deleter) made c) block line
      (version_at block line old) (carried block line)

  pub carried_steps :
      (old : List Version) (steps : List RowStep) (vs : List Version) → EachStep (BirthStep o table older) vs steps
      → EachStep (DeleterStep o older) vs steps → EachStep (RemovalStep o older horizon) vs steps
      → EachStep (MultixactStep older) vs steps → AreCarried older opened was old vs → AreCarried older opened was old (with_steps vs steps)
  unfolding with_steps
  carried_steps old [] vs births deleters removals made carried = carried
  carried_steps old (step ∷ steps) vs (birth, births) (deleter, deleters) (removal, removals) (made, all_made) carried =
      carried_steps old steps (with_step vs step) births deleters removals all_made
      (carried_step old vs step birth deleter removal made carried)
