-- Each place has at most one version, each version is sound, and one that lost its place is no row, once steps were made.
use Rattle.std.proofs.Common.{◌≡◌, ◌≢◌, ℕ, ◌+◌, ◌≤◌, Bool, true, false, ◌&&◌, ◌==◌, cond, List, [], ◌∷◌, All, Option, Some, None, arith, refl, sym, ap, ◌∙◌, subst}
use Rattle.std.proofs.lemmas.Bool.{and_parts, both_ways, eqb-true, false≢true}
use Rattle.std.proofs.lemmas.List.Elements.{All-cons, All-nil}
use Rattle.std.proofs.lemmas.List.Sums.{sum_by-cons}
use Rattle.typed_records.specs.declared.types.Rec.{Rec}
use Rattle.heap_tuple.specs.Tuple.{xmin_of}
use Rattle.transaction_model.specs.LegalTransactions.{Legal}
use Rattle.xact_redo.specs.TransactionsOf.{transactions_of}
use Rattle.row_model.specs.Versions.{Version, Always, By, FreezePlan, RowStep, Born, Deleter, Undone, Removed, Frozen, deleter_of_plan, frozen_by, inserter_in, is_frozen, removed, taken_back, version_born, is_at, version_at, changed_at, with_deleter, with_step, with_steps}
use Rattle.row_model.specs.Origins.{LogOrigin, committed_in}
use Rattle.row_model.specs.Multixacts.{WasMade, made_by}
use Rattle.row_model.specs.LegalRows.{MakesMultixact}
use Rattle.row_model.specs.Rows.{counts}
use Rattle.row_model.specs.Shown.{IsLost, IsSound, count_at, AreApart}
use Rattle.row_model.specs.LegalSteps.{IfVersion, MayBeRemoved, MayUndo, NeverCommitted, OwnDeleted, PlanRule, WasDeleted, WasUndone}
use Rattle.row_redo.proofs.Later.{TakenBack, FailedBy, WasDeletedBy, WhyLost, lost_later, lost_no_row, sound_later, live_uncommitted}
use Rattle.row_redo.proofs.Places.{KeepsPlace, put, dropped, still_at, at_changed, at_removed, found_there, one_place}
use Rattle.row_redo.proofs.Rules.{StepRule, StepsRule}
use Rattle.row_model.proofs.Shown.{apart_rest}

-- each is sound
abbrev pub AreSound : LogOrigin → List Rec → List Version → Type 0
AreSound from log vs = (block line : ℕ) (v : Version) → version_at block line vs ≡ Some v → IsSound from log v

-- those that lost their places are no rows
abbrev pub AreLost : LogOrigin → List Rec → List Version → Type 0
AreLost from log [] = Unit {0}
AreLost from log (v ∷ vs) = (v.holds ≡ false → WhyLost from log v) × AreLost from log vs

-- one for a version that stands there
abbrev pub one : Bool → ℕ
one t = cond t 1 0

count_first : (block line : ℕ) (v : Version) (vs : List Version) → count_at block line (v ∷ vs) ≡ one (is_at block line v) + count_at block line vs
count_first block line v vs = sum_by-cons (λ (w : Version). one (is_at block line w)) v vs

counted_none : (block line : ℕ) (v : Version) (vs : List Version) (t : Bool) → (version_at block line vs ≡ None → count_at block line vs ≡ 0)
    → cond t (Some v) (version_at block line vs) ≡ None → one t + count_at block line vs ≡ 0
counted_none block line v vs true rest e = cc
counted_none block line v vs false rest e = let h = rest e in omega arith

-- no version is counted where none stands
none_counted : (block line : ℕ) (vs : List Version) → version_at block line vs ≡ None → count_at block line vs ≡ 0
unfolding version_at
none_counted block line [] e = refl
none_counted block line (v ∷ vs) e = count_first block line v vs ∙ counted_none block line v vs (is_at block line v) (none_counted block line vs) e

some_counted : (block line : ℕ) (v : Version) (vs : List Version) (x : Option Version) (t : Bool) (n : ℕ) → one t + n ≤ 1 → t ≡ true
    → (x ≢ None → 1 ≤ n) → x ≡ None
some_counted block line v vs None true n few here some = refl
some_counted block line v vs (Some w) true n few here some = absurd (let h = some (λ e. cc) in omega arith)
some_counted block line v vs x false n few here some = absurd (false≢true here)

-- one is counted where one stands
one_counted : (block line : ℕ) (v : Version) (vs : List Version) (t : Bool) → (version_at block line vs ≢ None → 1 ≤ count_at block line vs)
    → cond t (Some v) (version_at block line vs) ≢ None → 1 ≤ one t + count_at block line vs
one_counted block line v vs true rest e = omega arith
one_counted block line v vs false rest e = let h = rest e in omega arith

counted_some : (block line : ℕ) (vs : List Version) → version_at block line vs ≢ None → 1 ≤ count_at block line vs
unfolding version_at
counted_some block line [] e = absurd (e refl)
counted_some block line (v ∷ vs) e =
    subst (λ (n : ℕ). 1 ≤ n) (sym (count_first block line v vs)) (one_counted block line v vs (is_at block line v) (counted_some block line vs) e)

count_changed :
    (b l : ℕ) (f : Version → Version) → KeepsPlace f → (block line : ℕ) (vs : List Version)
    → count_at block line (changed_at b l f vs) ≡ count_at block line vs
unfolding changed_at
count_changed b l f keeps block line [] = refl
count_changed b l f keeps block line (v ∷ vs) =
    let same = ap one (still_at f keeps block line (is_at b l v) v) in
    let rest = count_changed b l f keeps block line vs in
    let after : Version = cond (is_at b l v) (f v) v in
    count_first block line after (changed_at b l f vs)
    ∙ ap (λ (n : ℕ). n + count_at block line (changed_at b l f vs)) same
    ∙ ap (λ (n : ℕ). one (is_at block line v) + n) rest
    ∙ sym (count_first block line v vs)

one_removed : (block line : ℕ) (v : Version) (t : Bool) → one (is_at block line (cond t (removed v) v)) ≤ one (is_at block line v)
one_removed block line v true = omega arith
one_removed block line v false = omega arith

count_removed : (b l block line : ℕ) (vs : List Version) → count_at block line (changed_at b l removed vs) ≤ count_at block line vs
unfolding changed_at
count_removed b l block line [] = omega arith
count_removed b l block line (v ∷ vs) =
    let less = one_removed block line v (is_at b l v) in
    let rest = count_removed b l block line vs in
    let after : Version = cond (is_at b l v) (removed v) v in
    let new = count_first block line after (changed_at b l removed vs) in
    let old = count_first block line v vs in
    omega (arith, less, rest, new, old)

born_apart :
    (b l block line n : ℕ) (t : Bool) → (t ≡ true → n ≡ 0) → n ≤ 1 → one t + n ≤ 1
born_apart b l block line n true free h = let e = free refl in omega arith
born_apart b l block line n false free h = omega arith

apart_changed :
    (b l : ℕ) (f : Version → Version) → KeepsPlace f → (vs : List Version) → AreApart vs → AreApart (changed_at b l f vs)
apart_changed b l f keeps vs apart block line =
    let e = count_changed b l f keeps block line vs in
    let h = apart block line in omega arith

pub at_same_place : (block line b l : ℕ) (vs : List Version) → ((b == block) && (l == line)) ≡ true → version_at b l vs ≡ None → version_at block line vs ≡ None
at_same_place block line b l vs h e =
    let (p, q) = and_parts (b == block) (l == line) h in
    subst (λ (n : ℕ). version_at block n vs ≡ None) (eqb-true l line q)
    (subst (λ (n : ℕ). version_at n l vs ≡ None) (eqb-true b block p) e)

apart_step :
    (from : LogOrigin) (log : List Rec) (vs : List Version) (step : RowStep) → StepRule from log vs step
    → AreApart vs → AreApart (with_step vs step)
unfolding with_step
apart_step from log vs (Born whole b l tuple) rule apart block line =
    subst (λ (n : ℕ). n ≤ 1) (sym (count_first block line (version_born b l tuple) vs))
    (born_apart b l block line (count_at block line vs) ((b == block) && (l == line))
    (λ h. none_counted block line vs (at_same_place block line b l vs h rule.births.free)) (apart block line))
apart_step from log vs (Deleter b l d) rule apart block line = apart_changed b l (with_deleter d) (λ x y v. refl) vs apart block line
apart_step from log vs (Undone b l) rule apart block line = apart_changed b l taken_back (λ x y v. refl) vs apart block line
apart_step from log vs (Removed b l) rule apart block line =
    let e = count_removed b l block line vs in
    let h = apart block line in omega arith
apart_step from log vs (Frozen b l plan) rule apart block line = apart_changed b l (frozen_by plan) (λ x y v. refl) vs apart block line

-- a change that keeps each version sound
module _ (from : LogOrigin) (log : List Rec) (b l : ℕ) (f : Version → Version) (keeps_place : KeepsPlace f) (vs : List Version)
    (keeps : (w : Version) → version_at b l vs ≡ Some w → IsSound from log w → IsSound from log (f w)) (sound : AreSound from log vs) where
  sound_one :
      (block line : ℕ) (w v : Version) (t : Bool) → is_at b l w ≡ t → version_at block line vs ≡ Some w
      → Some (cond t (f w) w) ≡ Some v → IsSound from log v
  sound_one block line w v true here found e =
      let (p, q) = one_place b l block line w here (found_there block line vs w found) in
      let at : version_at b l vs ≡ Some w = subst (λ (n : ℕ). version_at b n vs ≡ Some w) (sym q)
      (subst (λ (n : ℕ). version_at n line vs ≡ Some w) (sym p) found) in
      let same : f w ≡ v = cc in
      subst (λ (u : Version). IsSound from log u) same (keeps w at (sound block line w found))
  sound_one block line w v false here found e =
      let same : w ≡ v = cc in subst (λ (u : Version). IsSound from log u) same (sound block line w found)

  sound_put :
      (block line : ℕ) (v : Version) (x : Option Version) → version_at block line vs ≡ x → put b l f x ≡ Some v → IsSound from log v
  sound_put block line v None found e = cc
  sound_put block line v (Some w) found e = sound_one block line w v (is_at b l w) refl found e

  sound_changed : AreSound from log (changed_at b l f vs)
  sound_changed block line v e =
      sound_put block line v (version_at block line vs) refl (sym (at_changed b l f keeps_place block line vs) ∙ e)

sound_born :
    (from : LogOrigin) (log : List Rec) (w : Version) (t : Bool) (x : Option Version) (v : Version) → IsSound from log w
    → ((u : Version) → x ≡ Some u → IsSound from log u) → cond t (Some w) x ≡ Some v → IsSound from log v
sound_born from log w true x v first rest e = let same : w ≡ v = cc in subst (λ (u : Version). IsSound from log u) same first
sound_born from log w false x v first rest e = rest v e

-- one that is born frozen counts always
born_counts : (from : LogOrigin) (log : List Rec) (tuple : List ℕ) → is_frozen tuple ≡ true → counts (committed_in from log) (inserter_in tuple) ≡ true
born_counts from log tuple frozen = ap (λ (t : Bool). counts (committed_in from log) (cond t Always (By (xmin_of tuple)))) frozen

drop_found : (b l : ℕ) (x : Option Version) (v : Version) → dropped b l x ≡ Some v → x ≡ Some v
drop_found b l None v e = cc
drop_found b l (Some w) v e = by_place (is_at b l w) e
  where
    by_place : (t : Bool) → cond t None (Some w) ≡ Some v → Some w ≡ Some v
    by_place true g = cc
    by_place false g = g

-- an insertion that may be taken back is not marked frozen
undone_thawed : (from : LogOrigin) (log : List Rec) (w : Version) → MayUndo from log w → IsSound from log w → w.frozen ≡ true → ⊥
undone_thawed from log w (x, by, live) sound frozen =
    let done : committed_in from log x ≡ true = sym (ap (counts (committed_in from log)) by) ∙ sound.frozen frozen in
    both_ways (committed_in from log x) (live_uncommitted from log x live) done

plan_counts :
    (from : LogOrigin) (log : List Rec) (horizon : ℕ) (w : Version) (t : Bool) → w.frozen ≡ t
    → (w.frozen ≡ true → counts (committed_in from log) w.inserter ≡ true)
    → (w.frozen ≡ false → (x : ℕ) × (w.inserter ≡ By x) × (committed_in from log x ≡ true))
    → counts (committed_in from log) w.inserter ≡ true
plan_counts from log horizon w true is before newly = before is
plan_counts from log horizon w false is before newly =
    let (x, by, done) = newly is in ap (counts (committed_in from log)) by ∙ done

frozen_sound :
    (from : LogOrigin) (log : List Rec) (horizon : ℕ) (plan : FreezePlan) (w : Version) → PlanRule from log horizon plan w
    → WasMade log (deleter_of_plan plan) → IsSound from log w → IsSound from log (frozen_by plan w)
frozen_sound from log horizon plan w rule made sound =
    record {
      made = made;
      frozen = λ h.
          plan_counts from log horizon w w.frozen refl sound.frozen
          (λ thawed. let (x, by, done, covered) = rule.covered thawed h in (x, by, done));
    }

pub if_version : (x : Option Version) (Rule : Version → Type 0) (w : Version) → x ≡ Some w → IfVersion x Rule → Rule w
if_version None Rule w e rule = cc
if_version (Some v) Rule w e rule = let same : v ≡ w = cc in subst Rule same rule

sound_step :
    (from : LogOrigin) (log : List Rec) (vs : List Version) (step : RowStep) → StepRule from log vs step
    → AreSound from log vs → AreSound from log (with_step vs step)
unfolding with_step version_at
sound_step from log vs (Born whole b l tuple) rule sound block line v e =
    sound_born from log (version_born b l tuple) (is_at block line (version_born b l tuple)) (version_at block line vs) v
    (record { made = rule.multixacts; frozen = λ h. born_counts from log tuple h }) (sound block line) e
sound_step from log vs (Deleter b l d) rule sound block line v e =
    sound_changed from log b l (with_deleter d) (λ x y u. refl) vs
    (λ w at was. record { made = rule.multixacts; frozen = was.frozen }) sound block line v e
sound_step from log vs (Undone b l) rule sound block line v e =
    sound_changed from log b l taken_back (λ x y u. refl) vs
    (λ w at was.
    record {
      made = was.made;
      frozen = λ h. absurd (undone_thawed from log w (if_version (version_at b l vs) (MayUndo from log) w at rule.deleters) was h);
    }) sound block line v e
sound_step from log vs (Removed b l) rule sound block line v e =
    sound block line v (drop_found b l (version_at block line vs) v (sym (at_removed b l block line vs) ∙ e))
sound_step from log vs (Frozen b l plan) rule sound block line v e =
    sound_changed from log b l (frozen_by plan) (λ x y u. refl) vs
    (λ w at was.
    frozen_sound from log rule.horizon plan w
    (if_version (version_at b l vs) (PlanRule from log rule.horizon plan) w at rule.removals) rule.multixacts was) sound block line v e

-- a version that may be removed is no row
may_be_lost : (from : LogOrigin) (log : List Rec) (horizon : ℕ) (v : Version) → MayBeRemoved from log horizon v → WhyLost from log (removed v)
may_be_lost from log horizon v (WasUndone by) = TakenBack by
may_be_lost from log horizon v (NeverCommitted x by failed) = FailedBy x by failed
may_be_lost from log horizon v (OwnDeleted x y by deleted done same) = WasDeletedBy y deleted done
may_be_lost from log horizon v (WasDeleted y deleted done covered) = WasDeletedBy y deleted done

-- a version that holds no place is not changed
lost_one :
    (from : LogOrigin) (log : List Rec) (b l : ℕ) (f : Version → Version) → ((w : Version) → (f w).holds ≡ w.holds) → (v : Version) (t : Bool)
    → is_at b l v ≡ t → (v.holds ≡ false → WhyLost from log v) → (cond t (f v) v).holds ≡ false → WhyLost from log (cond t (f v) v)
lost_one from log b l f keeps v true at lost h =
    absurd (both_ways v.holds (sym (keeps v) ∙ h) (and_parts v.holds ((v.block == b) && (v.line == l)) at).0)
lost_one from log b l f keeps v false at lost h = lost h

lost_changed :
    (from : LogOrigin) (log : List Rec) (b l : ℕ) (f : Version → Version) → ((w : Version) → (f w).holds ≡ w.holds) → (vs : List Version)
    → AreLost from log vs → AreLost from log (changed_at b l f vs)
unfolding changed_at
lost_changed from log b l f keeps [] lost = tt
lost_changed from log b l f keeps (v ∷ vs) (first, rest) =
    (lost_one from log b l f keeps v (is_at b l v) refl first, lost_changed from log b l f keeps vs rest)

removed_one :
    (from : LogOrigin) (log : List Rec) (b l horizon : ℕ) (v : Version) (vs : List Version) (t : Bool) → is_at b l v ≡ t
    → IfVersion (cond t (Some v) (version_at b l vs)) (MayBeRemoved from log horizon)
    → (v.holds ≡ false → WhyLost from log v) → (cond t (removed v) v).holds ≡ false → WhyLost from log (cond t (removed v) v)
removed_one from log b l horizon v vs true at rule lost h = may_be_lost from log horizon v rule
removed_one from log b l horizon v vs false at rule lost h = lost h

removed_rest :
    (from : LogOrigin) (log : List Rec) (b l horizon : ℕ) (v : Version) (vs : List Version) (t : Bool) → is_at b l v ≡ t
    → AreApart (v ∷ vs) → IfVersion (cond t (Some v) (version_at b l vs)) (MayBeRemoved from log horizon)
    → IfVersion (version_at b l vs) (MayBeRemoved from log horizon)
removed_rest from log b l horizon v vs true at apart rule =
    let few = apart b l in
    let parts = count_first b l v vs in
    let here : one (is_at b l v) ≡ 1 = ap one at in
    let none : version_at b l vs ≡ None =
    some_counted b l v vs (version_at b l vs) true (count_at b l vs) (omega (arith, few, parts, here)) refl (counted_some b l vs) in
    subst (λ (x : Option Version). IfVersion x (MayBeRemoved from log horizon)) (sym none) tt
removed_rest from log b l horizon v vs false at apart rule = rule

lost_removed :
    (from : LogOrigin) (log : List Rec) (b l horizon : ℕ) (vs : List Version) → AreApart vs
    → IfVersion (version_at b l vs) (MayBeRemoved from log horizon) → AreLost from log vs
    → AreLost from log (changed_at b l removed vs)
unfolding changed_at version_at
lost_removed from log b l horizon [] apart rule lost = tt
lost_removed from log b l horizon (v ∷ vs) apart rule (first, rest) = (
  removed_one from log b l horizon v vs (is_at b l v) refl rule first,
  lost_removed from log b l horizon vs (apart_rest v vs apart) (removed_rest from log b l horizon v vs (is_at b l v) refl apart rule) rest,
)

lost_step :
    (from : LogOrigin) (log : List Rec) (vs : List Version) (step : RowStep) → StepRule from log vs step → AreApart vs
    → AreLost from log vs → AreLost from log (with_step vs step)
unfolding with_step
lost_step from log vs (Born whole b l tuple) rule apart lost = (λ h. absurd (false≢true (sym h)), lost)
lost_step from log vs (Deleter b l d) rule apart lost = lost_changed from log b l (with_deleter d) (λ w. refl) vs lost
lost_step from log vs (Undone b l) rule apart lost = lost_changed from log b l taken_back (λ w. refl) vs lost
lost_step from log vs (Removed b l) rule apart lost = lost_removed from log b l rule.horizon vs apart rule.removals lost
lost_step from log vs (Frozen b l plan) rule apart lost = lost_changed from log b l (frozen_by plan) (λ w. refl) vs lost

pub steps_apart :
    (from : LogOrigin) (log : List Rec) (steps : List RowStep) (vs : List Version) → StepsRule from log vs steps
    → AreApart vs → AreApart (with_steps vs steps)
unfolding with_steps
steps_apart from log [] vs rule apart = apart
steps_apart from log (step ∷ steps) vs (rule, rules) apart =
    steps_apart from log steps (with_step vs step) rules (apart_step from log vs step rule apart)

pub steps_sound :
    (from : LogOrigin) (log : List Rec) (steps : List RowStep) (vs : List Version) → StepsRule from log vs steps
    → AreSound from log vs → AreSound from log (with_steps vs steps)
unfolding with_steps
steps_sound from log [] vs rule sound = sound
steps_sound from log (step ∷ steps) vs (rule, rules) sound =
    steps_sound from log steps (with_step vs step) rules (sound_step from log vs step rule sound)

pub steps_lost :
    (from : LogOrigin) (log : List Rec) (steps : List RowStep) (vs : List Version) → StepsRule from log vs steps
    → AreApart vs → AreLost from log vs → AreLost from log (with_steps vs steps)
unfolding with_steps
steps_lost from log [] vs rule apart lost = lost
steps_lost from log (step ∷ steps) vs (rule, rules) apart lost =
    steps_lost from log steps (with_step vs step) rules (apart_step from log vs step rule apart)
    (lost_step from log vs step rule apart lost)

-- with a record more
module _ (from : LogOrigin) (rec : Rec) (older : List Rec) (legal : Legal from.transactions (transactions_of (rec ∷ older)))
    (makes : MakesMultixact older (made_by rec.kind)) where
  pub all_sound_later : (vs : List Version) → AreSound from older vs → AreSound from (rec ∷ older) vs
  all_sound_later vs sound block line v e = sound_later from rec older legal makes v (sound block line v e)

  pub all_lost_later : (vs : List Version) → AreLost from older vs → AreLost from (rec ∷ older) vs
  all_lost_later [] lost = tt
  all_lost_later (v ∷ vs) (first, rest) = (λ h. lost_later from rec older legal makes v (first h), all_lost_later vs rest)

-- no row is among them
pub none_lost : (from : LogOrigin) (log : List Rec) (vs : List Version) → AreLost from log vs → All (IsLost from log) vs
none_lost from log [] lost = All-nil (IsLost from log)
none_lost from log (v ∷ vs) (first, rest) =
    All-cons (IsLost from log) v vs (λ h. lost_no_row from log v (first h)) (none_lost from log vs rest)
