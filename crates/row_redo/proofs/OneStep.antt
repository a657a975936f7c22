-- One change of a block's line goes with one step of its versions.
use Rattle.std.proofs.Common.{◌≡◌, ◌≢◌, inl, inr, ℕ, ◌^◌, ◌<◌, Bool, true, false, List, ◌∷◌, Option, Some, None, option_map, Ok, refl, sym, ap, subst, subst₂, ◌∙◌, arith, if◌then◌else◌}
use Rattle.std.proofs.lemmas.Bool.{cases_eq, eqb-true, false≢true}
use Rattle.heap_tuple.specs.Tuple.{IsTuple, xmin_of, max_of}
use Rattle.heap_page.specs.Item.{Item, normal, numbered, is_normal}
use Rattle.tuple_visibility.specs.Visible.{xmin_marks}
use Rattle.typed_records.specs.declared.types.Rec.{Rec}
use Rattle.row_model.specs.Origins.{LogOrigin}
use Rattle.pg_types.specs.Numbers.{has_bits}
use Rattle.heap_redo.specs.TupleHeads.{Head, head_of, pointing_to, deleted, frozen}
use Rattle.heap_redo.specs.After.{put, change_head, set_line}
use Rattle.row_model.specs.Versions.{Version, Always, By, FreezePlan, Born, Deleter, Undone, Removed, Frozen, frozen_by, is_frozen, removed, taken_back, version_at, version_born, changed_at, with_deleter, with_step}
use Rattle.row_model.specs.RowSteps.{deleter_of_mark}
use Rattle.row_model.specs.Shows.{ShowsInserter, ShowsDeleter, Shows, ShowsPlace, ShowsBlock}
use Rattle.row_model.specs.LegalSteps.{BirthMarks, BirthRule, BornFrozen, IfVersion, IsSpent, PlanRule, Unmarked}
use Rattle.row_redo.proofs.Rules.{StepRule}
use Rattle.pg_types.specs.declared.names.Locator.{Locator}
use Rattle.pg_types.specs.Bytes.{AreBytes}
use Rattle.row_redo.proofs.Fitting.{TuplesFit}
use Rattle.row_redo.proofs.Heads.{Marks, marks-undone, head-fits}
use Rattle.row_redo.proofs.Marked.{is-marked, shows-deleter, shows-undone, is-pointed, shows-pointed}
use Rattle.row_redo.proofs.Apart.{if_version}
use Rattle.row_redo.proofs.Frozen.{PlanSmall, is-frozen, shows-frozen}
use Rattle.row_redo.proofs.OneLine.{OneLine, put-done, changed_tuple, change-done, set-done}
use Rattle.row_redo.proofs.Places.{removed_beside, removed_here}
use Rattle.row_redo.proofs.StepPlaces.{born-here, born-other, changed-here, changed-other}

same-tuple : (a b : List ℕ) → normal a ≡ normal b → a ≡ b
same-tuple a b e = cc

-- the tuples fit after one line became another tuple that does
fit-after :
    (items after : List Item) (line : ℕ) (new : List ℕ) → TuplesFit items → OneLine line (normal new) items after → AreBytes new
    → IsTuple new → TuplesFit after
fit-after items after line new fit one bytes rule place tuple is =
    elim (cases_eq place line) [
      | inl e ↦ subst (λ (t : List ℕ). AreBytes t × IsTuple t) (same-tuple new tuple (sym (ap (numbered after) e ∙ one.here) ∙ is)) (bytes, rule)
      | inr n ↦ fit place tuple (sym (one.others place n) ∙ is)
    ]

-- and after one line became another that shows none
fit-bare :
    (items after : List Item) (line : ℕ) (item : Item) → TuplesFit items → OneLine line item items after → is_normal item ≡ false
    → TuplesFit after
fit-bare items after line item fit one bare place tuple is =
    elim (cases_eq place line) [
      | inl e ↦ absurd (false≢true (sym bare ∙ ap is_normal (sym one.here ∙ ap (numbered after) (sym e) ∙ is)))
      | inr n ↦ fit place tuple (sym (one.others place n) ∙ is)
    ]

-- a block shows its versions after a step at a line where that shows its own
shows-after :
    (from : LogOrigin) (log : List Rec) (vs now : List Version) (block line : ℕ) (item : Item) (items after : List Item)
    → ShowsBlock from log vs block items → OneLine line item items after → ShowsPlace from log (version_at block line now) item
    → ((place : ℕ) → place ≢ line → version_at block place now ≡ version_at block place vs)
    → ShowsBlock from log now block after
shows-after from log vs now block line item items after shows one here others place =
    elim (cases_eq place line) [
      | inl e ↦ subst (λ (p : ℕ). ShowsPlace from log (version_at block p now) (numbered after p)) (sym e)
          (subst (ShowsPlace from log (version_at block line now)) (sym one.here) here)
      | inr n ↦ subst₂ (ShowsPlace from log) (sym (others place n)) (sym (one.others place n)) (shows place)
    ]

-- a tuple that is born shows its inserter and its deleter
born-inserter : (tuple : List ℕ) (t : Bool) → is_frozen tuple ≡ t → ShowsInserter tuple (if t then Always else By (xmin_of tuple))
born-inserter tuple true e = e
born-inserter tuple false e = refl

born-deleter : (tuple : List ℕ) (t : Bool) → ShowsDeleter tuple (if t then Always else By (xmin_of tuple)) (max_of tuple)
born-deleter tuple true = refl
born-deleter tuple false = refl

-- it bears neither mark of its inserter alone
born-unmarked : (from : LogOrigin) (table : Locator) (log : List Rec) (tuple : List ℕ) (mark : ℕ) → BirthMarks from table log tuple → 0 < mark → mark < 0x0300 → xmin_marks tuple ≡ mark → ⊥
born-unmarked from table log tuple mark (Unmarked none) some less e = omega arith
born-unmarked from table log tuple mark (BornFrozen frozen lock) some less e =
    let both = eqb-true (xmin_marks tuple) 0x0300 frozen in omega arith

-- a tuple that is born outside a whole page shows the version that it bears
shows-born :
    (from : LogOrigin) (table : Locator) (log : List Rec) (vs : List Version) (block line : ℕ) (tuple : List ℕ)
    → BirthRule from table log vs false block line tuple → Shows from log (version_born block line tuple) tuple
shows-born from table log vs block line tuple rule =
    record {
      row = record { columns = refl; nulls = refl; bytes = refl };
      inserter = born-inserter tuple (is_frozen tuple) refl;
      frozen = refl;
      deleter = born-deleter tuple (is_frozen tuple);
      marks =
          record {
            inserter_committed = λ x by mark. absurd (born-unmarked from table log tuple 0x0100 rule.inserter (omega arith) (omega arith) mark);
            inserter_failed = λ x by mark. absurd (born-unmarked from table log tuple 0x0200 rule.inserter (omega arith) (omega arith) mark);
            deleter_committed = λ x by mark. absurd (false≢true (sym rule.unmarked ∙ mark));
            deleter_failed = λ x by mark. subst (IsSpent from log) by (rule.spent refl);
          };
    }

-- a tuple is put, and its version is born
pub born-shown :
    (from : LogOrigin) (log : List Rec) (vs : List Version) (block line : ℕ) (tuple : List ℕ) (items after : List Item)
    → StepRule from log vs (Born false block line tuple) → AreBytes tuple → TuplesFit items → ShowsBlock from log vs block items
    → put line tuple items ≡ Ok after
    → ShowsBlock from log (with_step vs (Born false block line tuple)) block after × TuplesFit after
unfolding with_step
born-shown from log vs block line tuple items after rule bytes fit shows e =
    let done = put-done line tuple items after e in
    let now = version_born block line tuple ∷ vs in
    let here : ShowsPlace from log (version_at block line now) (normal tuple) =
    subst (λ (o : Option Version). ShowsPlace from log o (normal tuple)) (sym (born-here block line tuple vs))
    (tuple, refl, shows-born from rule.table log vs block line tuple rule.births) in (
      shows-after from log vs now block line (normal tuple) items after shows done.lines here
          (λ place n. born-other block line place tuple vs n),
      fit-after items after line tuple fit done.lines bytes done.rule,
    )

-- a line's header is changed, and its version in this way
module _ (from : LogOrigin) (log : List Rec) (vs now : List Version) (block line : ℕ) (f : Head → Head) (g : Version → Version) where
  -- a tuple that shows the version there shows it once both are changed
  abbrev pub KeepsShown : Type 0
  KeepsShown =
      (v : Version) (tuple : List ℕ) → version_at block line vs ≡ Some v → AreBytes tuple → IsTuple tuple → Shows from log v tuple
      → Shows from log (g v) (changed_tuple f tuple) × AreBytes (changed_tuple f tuple)

  at-line :
      (o : Option Version) (tuple : List ℕ) (item : Item) → version_at block line vs ≡ o → item ≡ normal tuple → AreBytes tuple → IsTuple tuple
      → ShowsPlace from log o item → KeepsShown
      → ShowsPlace from log (option_map g o) (normal (changed_tuple f tuple)) × AreBytes (changed_tuple f tuple)
  at-line None tuple item at was bytes rule shows keeps = absurd (false≢true (sym shows ∙ ap is_normal was))
  at-line (Some v) tuple item at was bytes rule (own, is, shows) keeps =
      let same = same-tuple own tuple (sym is ∙ was) in
      let (kept, fits) = keeps v tuple at bytes rule (subst (Shows from log v) same shows) in
      ((changed_tuple f tuple, refl, kept), fits)

  pub head-shown :
      (items after : List Item) → version_at block line now ≡ option_map g (version_at block line vs)
      → ((place : ℕ) → place ≢ line → version_at block place now ≡ version_at block place vs)
      → KeepsShown → TuplesFit items → ShowsBlock from log vs block items → change_head line f items ≡ Ok after
      → ShowsBlock from log now block after × TuplesFit after
  head-shown items after at others keeps fit shows e =
      let done = change-done line f items after e in
      let (bytes, rule) = fit line done.tuple done.was in
      let (place, fits) = at-line (version_at block line vs) done.tuple (numbered items line) refl done.was bytes rule (shows line) keeps in (
        shows-after from log vs now block line (normal (changed_tuple f done.tuple)) items after shows done.lines
            (subst (λ (o : Option Version). ShowsPlace from log o (normal (changed_tuple f done.tuple))) (sym at) place) others,
        fit-after items after line (changed_tuple f done.tuple) fit done.lines fits done.rule,
      )

-- a deleter or locker is marked, and its version gets the deleter
pub deleter-shown :
    (from : LogOrigin) (log : List Rec) (vs : List Version) (block line : ℕ) (f : Head → Head) (xmax bits : ℕ)
    (items after : List Item) → xmax < 2 ^ 32 → ((head : Head) → Marks head.xmin xmax bits head (f head)) → TuplesFit items
    → ShowsBlock from log vs block items → change_head line f items ≡ Ok after
    → ShowsBlock from log (with_step vs (Deleter block line (deleter_of_mark xmax bits))) block after × TuplesFit after
unfolding with_step head_of
deleter-shown from log vs block line f xmax bits items after small marks fit shows e =
    let d = deleter_of_mark xmax bits in
    let g : Version → Version = with_deleter d in
    head-shown from log vs (changed_at block line g vs) block line f g items after
    (changed-here block line g (λ place v. refl) vs) (λ place n. changed-other block line g (λ p v. refl) place vs n)
    (λ v tuple at bytes rule shown. by_marks v tuple bytes rule shown)
    fit shows e
  where
    by_marks :
        (v : Version) (tuple : List ℕ) → AreBytes tuple → IsTuple tuple → Shows from log v tuple
        → Shows from log (with_deleter (deleter_of_mark xmax bits) v) (changed_tuple f tuple) × AreBytes (changed_tuple f tuple)
    by_marks v tuple bytes rule shown =
        let fits = head-fits tuple bytes in
        let m = is-marked (head_of tuple).xmin xmax bits tuple (f (head_of tuple)) bytes rule fits.xmin small (marks (head_of tuple)) in
        (shows-deleter from log v tuple (changed_tuple f tuple) shown xmax bits m, m.bytes)

-- an insertion is taken back, and its version has no inserter
pub undone-shown :
    (from : LogOrigin) (log : List Rec) (vs : List Version) (block line xmax bits flags : ℕ) (items after : List Item)
    → has_bits flags 0x08 ≡ true → TuplesFit items → ShowsBlock from log vs block items
    → change_head line (λ head. deleted xmax bits flags block line head) items ≡ Ok after
    → ShowsBlock from log (with_step vs (Undone block line)) block after × TuplesFit after
unfolding with_step head_of
undone-shown from log vs block line xmax bits flags items after super fit shows e =
    let f = λ (head : Head). deleted xmax bits flags block line head in
    head-shown from log vs (changed_at block line taken_back vs) block line f taken_back items after
    (changed-here block line taken_back (λ place v. refl) vs) (λ place n. changed-other block line taken_back (λ p v. refl) place vs n)
    (λ v tuple at bytes good shown. by_marks v tuple bytes good shown)
    fit shows e
  where
    by_marks :
        (v : Version) (tuple : List ℕ) → AreBytes tuple → IsTuple tuple → Shows from log v tuple
        → Shows from log (taken_back v) (changed_tuple (λ head. deleted xmax bits flags block line head) tuple)
        × AreBytes (changed_tuple (λ head. deleted xmax bits flags block line head) tuple)
    by_marks v tuple bytes good shown =
        let fits = head-fits tuple bytes in
        let head = head_of tuple in
        let m = is-marked 0 head.xmax bits tuple (deleted xmax bits flags block line head) bytes good (omega arith) fits.xmax
        (marks-undone xmax bits flags block line head super) in
        (shows-undone from log v tuple (changed_tuple (λ head. deleted xmax bits flags block line head) tuple) shown head.xmax bits m, m.bytes)

same-option : (o : Option Version) → o ≡ option_map (λ v. v) o
same-option None = refl
same-option (Some v) = refl

-- a tuple that points to another next version shows the same version
pub pointed-shown :
    (from : LogOrigin) (log : List Rec) (vs : List Version) (block line to : ℕ) (items after : List Item) → TuplesFit items
    → ShowsBlock from log vs block items → change_head line (λ head. pointing_to to line head) items ≡ Ok after
    → ShowsBlock from log vs block after × TuplesFit after
pointed-shown from log vs block line to items after fit shows e =
    head-shown from log vs vs block line (λ head. pointing_to to line head) (λ v. v) items after
    (same-option (version_at block line vs)) (λ place n. refl)
    (λ v tuple at bytes rule shown.
    let m = is-pointed to line tuple bytes rule in
    (shows-pointed from log v tuple (changed_tuple (λ head. pointing_to to line head) tuple) shown m, m.bytes))
    fit shows e

-- a line becomes another that shows no tuple, and its version loses its place
pub removed-shown :
    (from : LogOrigin) (log : List Rec) (vs : List Version) (block line : ℕ) (item : Item) (items after : List Item)
    → is_normal item ≡ false → TuplesFit items → ShowsBlock from log vs block items → set_line line item items ≡ Ok after
    → ShowsBlock from log (with_step vs (Removed block line)) block after × TuplesFit after
unfolding with_step
removed-shown from log vs block line item items after bare fit shows e =
    let done = set-done line item items after e in
    let here : ShowsPlace from log (version_at block line (changed_at block line removed vs)) item =
    subst (λ (o : Option Version). ShowsPlace from log o item) (sym (removed_here block line vs)) bare in (
      shows-after from log vs (changed_at block line removed vs) block line item items after shows done here
          (λ place n. removed_beside block line place vs (λ same. n (sym same))),
      fit-bare items after line item fit done bare,
    )

-- a tuple is frozen, and its version with it
pub frozen-shown :
    (from : LogOrigin) (log : List Rec) (vs : List Version) (block line horizon : ℕ) (plan : FreezePlan) (items after : List Item)
    → PlanSmall plan → IfVersion (version_at block line vs) (PlanRule from log horizon plan) → TuplesFit items
    → ShowsBlock from log vs block items
    → change_head line (λ head. frozen plan.xmax plan.mask2 plan.mask head) items ≡ Ok after
    → ShowsBlock from log (with_step vs (Frozen block line plan)) block after × TuplesFit after
unfolding with_step
frozen-shown from log vs block line horizon plan items after small plan_rule fit shows e =
    let f = λ (head : Head). frozen plan.xmax plan.mask2 plan.mask head in
    head-shown from log vs (changed_at block line (frozen_by plan) vs) block line f (frozen_by plan) items after
    (changed-here block line (frozen_by plan) (λ place v. refl) vs)
    (λ place n. changed-other block line (frozen_by plan) (λ p v. refl) place vs n)
    (λ v tuple at bytes rule shown.
    let m = is-frozen plan tuple small bytes rule in (
      shows-frozen from log horizon plan v tuple (changed_tuple f tuple) small shown
          (if_version (version_at block line vs) (PlanRule from log horizon plan) v at plan_rule) m,
      m.bytes,
    ))
    fit shows e
