-- Which versions stand at a place once steps were made.
use Rattle.std.proofs.Common.{◌≡◌, ℕ, Bool, true, false, ◌&&◌, ◌==◌, cond, List, [], ◌∷◌, ◌++◌, Option, Some, None, refl, sym, ap, ◌∙◌, subst}
use Rattle.std.proofs.lemmas.Bool.{and_parts, and_left, eqb-true, ne_eqb, false_from_ne_true, false≢true}
use Rattle.typed_records.specs.declared.types.Rec.{Rec}
use Rattle.row_model.specs.Origins.{LogOrigin}
use Rattle.row_model.specs.Versions.{Version, RowStep, Born, Deleter, Undone, Removed, Frozen, deleter_of_plan, frozen_by, removed, taken_back, version_born, is_at, version_at, changed_at, with_deleter, with_step, with_steps}
use Rattle.row_model.specs.LegalSteps.{IfVersion, MayBeRemoved, MayFollow, MayUndo, PlanRule}
use Rattle.row_redo.proofs.Rules.{StepRule, StepsRule}
use Rattle.row_model.specs.Shown.{HasNone}

-- the place stays
abbrev pub KeepsPlace : (Version → Version) → Type 0
KeepsPlace f = (block line : ℕ) (v : Version) → is_at block line (f v) ≡ is_at block line v

-- what stands at a place, changed where it is this one
abbrev pub put : ℕ → ℕ → (Version → Version) → Option Version → Option Version
put b l f None = None
put b l f (Some v) = Some (cond (is_at b l v) (f v) v)

pub still_at : (f : Version → Version) → KeepsPlace f → (block line : ℕ) (t : Bool) (v : Version) → is_at block line (cond t (f v) v) ≡ is_at block line v
still_at f keeps block line true v = keeps block line v
still_at f keeps block line false v = refl

first_or : (b l : ℕ) (f : Version → Version) (t u : Bool) (v : Version) (x y : Option Version) → t ≡ u → x ≡ put b l f y
    → cond t (Some (cond (is_at b l v) (f v) v)) x ≡ put b l f (cond u (Some v) y)
first_or b l f true true v x y e g = refl
first_or b l f true false v x y e g = absurd (false≢true (sym e))
first_or b l f false true v x y e g = absurd (false≢true e)
first_or b l f false false v x y e g = g

pub at_changed : (b l : ℕ) (f : Version → Version) → KeepsPlace f → (block line : ℕ) (vs : List Version)
    → version_at block line (changed_at b l f vs) ≡ put b l f (version_at block line vs)
unfolding version_at changed_at
at_changed b l f keeps block line [] = refl
at_changed b l f keeps block line (v ∷ vs) =
    first_or b l f (is_at block line (cond (is_at b l v) (f v) v)) (is_at block line v) v
    (version_at block line (changed_at b l f vs)) (version_at block line vs) (still_at f keeps block line (is_at b l v) v)
    (at_changed b l f keeps block line vs)

-- the same version stands at each place of a block
abbrev pub SameIn : ℕ → List Version → List Version → Type 0
SameIn block vs ws = (line : ℕ) → version_at block line vs ≡ version_at block line ws

pub same_back : (block : ℕ) (vs ws : List Version) → SameIn block vs ws → SameIn block ws vs
same_back block vs ws same line = sym (same line)

pub same_joined : (block : ℕ) (us vs ws : List Version) → SameIn block us vs → SameIn block vs ws → SameIn block us ws
same_joined block us vs ws first then line = first line ∙ then line

pub same_itself : (block : ℕ) (vs : List Version) → SameIn block vs vs
same_itself block vs line = refl

changed_same :
    (b l : ℕ) (f : Version → Version) → KeepsPlace f → (block : ℕ) (vs ws : List Version) → SameIn block vs ws
    → SameIn block (changed_at b l f vs) (changed_at b l f ws)
changed_same b l f keeps block vs ws same line =
    at_changed b l f keeps block line vs ∙ ap (put b l f) (same line) ∙ sym (at_changed b l f keeps block line ws)

-- what stands at a place, unless it is this one
abbrev pub dropped : ℕ → ℕ → Option Version → Option Version
dropped b l None = None
dropped b l (Some v) = cond (is_at b l v) None (Some v)

-- a version that stands at two places stands at one
pub one_place :
    (b l block line : ℕ) (v : Version) → is_at b l v ≡ true → is_at block line v ≡ true → (b ≡ block) × (l ≡ line)
one_place b l block line v here there =
    let (holds, at) = and_parts v.holds ((v.block == b) && (v.line == l)) here in
    let (still, too) = and_parts v.holds ((v.block == block) && (v.line == line)) there in
    let (p, q) = and_parts (v.block == b) (v.line == l) at in
    let (r, s) = and_parts (v.block == block) (v.line == line) too in
    (sym (eqb-true v.block b p) ∙ eqb-true v.block block r, sym (eqb-true v.line l q) ∙ eqb-true v.line line s)

-- a version that is found stands there
first_found :
    (block line : ℕ) (w v : Version) (x : Option Version) (t : Bool) → is_at block line w ≡ t
    → (x ≡ Some v → is_at block line v ≡ true) → cond t (Some w) x ≡ Some v → is_at block line v ≡ true
first_found block line w v x true h rest e =
    let same : w ≡ v = cc in subst (λ (y : Version). is_at block line y ≡ true) same h
first_found block line w v x false h rest e = rest e

-- a version that is found stands there
pub found_there : (block line : ℕ) (vs : List Version) (v : Version) → version_at block line vs ≡ Some v → is_at block line v ≡ true
unfolding version_at
found_there block line [] v e = cc
found_there block line (w ∷ vs) v e =
    first_found block line w v (version_at block line vs) (is_at block line w) refl (found_there block line vs v) e

-- what is dropped at its place
dropped_there : (b l : ℕ) (x : Option Version) → ((v : Version) → x ≡ Some v → is_at b l v ≡ true) → dropped b l x ≡ None
dropped_there b l None there = refl
dropped_there b l (Some v) there = ap (λ (t : Bool). cond t None (Some v)) (there v refl)

removed_first :
    (b l block line : ℕ) (v : Version) (rest vs : List Version) (t u : Bool) → is_at b l v ≡ t → is_at block line v ≡ u
    → version_at block line rest ≡ dropped b l (version_at block line vs)
    → version_at block line (cond t (removed v) v ∷ rest) ≡ dropped b l (version_at block line (v ∷ vs))
unfolding version_at
removed_first b l block line v rest vs true true e f same =
    let (p, q) = one_place b l block line v e f in
    let gone : dropped b l (version_at block line vs) ≡ None =
    dropped_there b l (version_at block line vs)
    (λ w found. subst (λ (n : ℕ). is_at b n w ≡ true) (sym q)
    (subst (λ (n : ℕ). is_at n line w ≡ true) (sym p) (found_there block line vs w found))) in
    same ∙ gone ∙ sym (ap (λ (k : Bool). dropped b l (cond k (Some v) (version_at block line vs))) f ∙ ap (λ (k : Bool). cond k None (Some v)) e)
removed_first b l block line v rest vs true false e f same =
    same ∙ sym (ap (λ (k : Bool). dropped b l (cond k (Some v) (version_at block line vs))) f)
removed_first b l block line v rest vs false true e f same =
    ap (λ (k : Bool). cond k (Some v) (version_at block line rest)) f
    ∙ sym (ap (λ (k : Bool). dropped b l (cond k (Some v) (version_at block line vs))) f ∙ ap (λ (k : Bool). cond k None (Some v)) e)
removed_first b l block line v rest vs false false e f same =
    ap (λ (k : Bool). cond k (Some v) (version_at block line rest)) f ∙ same
    ∙ sym (ap (λ (k : Bool). dropped b l (cond k (Some v) (version_at block line vs))) f)

removed_none : (b l block line : ℕ) → version_at block line [] ≡ dropped b l (version_at block line [])
unfolding version_at
removed_none b l block line = refl

-- what stands at a place once the version at this one lost its own
pub at_removed :
    (b l block line : ℕ) (vs : List Version)
    → version_at block line (changed_at b l removed vs) ≡ dropped b l (version_at block line vs)
unfolding changed_at
at_removed b l block line [] = removed_none b l block line
at_removed b l block line (v ∷ vs) =
    removed_first b l block line v (changed_at b l removed vs) vs (is_at b l v) (is_at block line v) refl refl
    (at_removed b l block line vs)

-- none stands there any more
pub removed_here : (block line : ℕ) (vs : List Version) → version_at block line (changed_at block line removed vs) ≡ None
removed_here block line vs =
    at_removed block line block line vs ∙ dropped_there block line (version_at block line vs) (found_there block line vs)

-- what stands at another line is still there
kept_beside : (block line place : ℕ) (x : Option Version) → (line ≡ place → ⊥) → ((v : Version) → x ≡ Some v → is_at block place v ≡ true) → dropped block line x ≡ x
kept_beside block line place None other there = refl
kept_beside block line place (Some v) other there =
    ap (λ (t : Bool). cond t None (Some v))
    (false_from_ne_true (is_at block line v) (λ here. other (one_place block line block place v here (there v refl)).1))

pub removed_beside : (block line place : ℕ) (vs : List Version) → (line ≡ place → ⊥) → version_at block place (changed_at block line removed vs) ≡ version_at block place vs
removed_beside block line place vs other =
    at_removed block line block place vs ∙ kept_beside block line place (version_at block place vs) other (found_there block place vs)

removed_same : (b l block : ℕ) (vs ws : List Version) → SameIn block vs ws → SameIn block (changed_at b l removed vs) (changed_at b l removed ws)
removed_same b l block vs ws same line =
    at_removed b l block line vs ∙ ap (dropped b l) (same line) ∙ sym (at_removed b l block line ws)

-- a step does the same to them
pub step_same :
    (block : ℕ) (vs ws : List Version) (step : RowStep) → SameIn block vs ws
    → SameIn block (with_step vs step) (with_step ws step)
unfolding with_step version_at
step_same block vs ws (Born whole b l tuple) same line =
    ap (λ (x : Option Version). cond (is_at block line (version_born b l tuple)) (Some (version_born b l tuple)) x) (same line)
step_same block vs ws (Deleter b l d) same line = changed_same b l (with_deleter d) (λ x y v. refl) block vs ws same line
step_same block vs ws (Undone b l) same line = changed_same b l taken_back (λ x y v. refl) block vs ws same line
step_same block vs ws (Removed b l) same line = removed_same b l block vs ws same line
step_same block vs ws (Frozen b l plan) same line = changed_same b l (frozen_by plan) (λ x y v. refl) block vs ws same line

pub steps_same :
    (block : ℕ) (steps : List RowStep) (vs ws : List Version) → SameIn block vs ws
    → SameIn block (with_steps vs steps) (with_steps ws steps)
unfolding with_steps
steps_same block [] vs ws same = same
steps_same block (step ∷ steps) vs ws same =
    steps_same block steps (with_step vs step) (with_step ws step) (step_same block vs ws step same)

-- the block in which a step is made
abbrev pub block_of : RowStep → ℕ
block_of (Born whole block line tuple) = block
block_of (Deleter block line d) = block
block_of (Undone block line) = block
block_of (Removed block line) = block
block_of (Frozen block line plan) = block

abbrev pub AllIn : ℕ → List RowStep → Type 0
AllIn block [] = Unit {0}
AllIn block (step ∷ steps) = (block_of step ≡ block) × AllIn block steps

pub all_joined : (block : ℕ) (first then : List RowStep) → AllIn block first → AllIn block then → AllIn block (first ++ then)
all_joined block [] then a b = b
all_joined block (step ∷ first) then (e, a) b = (e, all_joined block first then a b)

not_in_other : (block line b l : ℕ) (v : Version) → is_at block line v ≡ true → (b ≡ block → ⊥) → is_at b l v ≡ false
not_in_other block line b l v h other =
    false_from_ne_true (is_at b l v) (λ here. other (one_place b l block line v here h).0)

put_away : (block line b l : ℕ) (f : Version → Version) (x : Option Version) → (b ≡ block → ⊥)
    → ((v : Version) → x ≡ Some v → is_at block line v ≡ true) → x ≡ put b l f x
put_away block line b l f None other there = refl
put_away block line b l f (Some v) other there =
    let keep : Bool → Option Version = λ t. Some (cond t (f v) v) in
    sym (ap keep (not_in_other block line b l v (there v refl) other))

changed_away :
    (b l : ℕ) (f : Version → Version) → KeepsPlace f → (block : ℕ) (vs : List Version) → (b ≡ block → ⊥)
    → SameIn block vs (changed_at b l f vs)
changed_away b l f keeps block vs other line =
    put_away block line b l f (version_at block line vs) other (found_there block line vs) ∙ sym (at_changed b l f keeps block line vs)

drop_away : (block line b l : ℕ) (x : Option Version) → (b ≡ block → ⊥) → ((v : Version) → x ≡ Some v → is_at block line v ≡ true) → x ≡ dropped b l x
drop_away block line b l None other there = refl
drop_away block line b l (Some v) other there =
    sym (ap (λ (t : Bool). cond t None (Some v)) (not_in_other block line b l v (there v refl) other))

removed_away : (b l block : ℕ) (vs : List Version) → (b ≡ block → ⊥) → SameIn block vs (changed_at b l removed vs)
removed_away b l block vs other line =
    drop_away block line b l (version_at block line vs) other (found_there block line vs) ∙ sym (at_removed b l block line vs)

-- a step in another block changes nothing there
pub step_away :
    (block : ℕ) (vs : List Version) (step : RowStep) → (block_of step ≡ block → ⊥) → SameIn block vs (with_step vs step)
unfolding with_step version_at
step_away block vs (Born whole b l tuple) other line =
    sym (ap (λ (t : Bool). cond t (Some (version_born b l tuple)) (version_at block line vs))
    (and_left (b == block) (l == line) (ne_eqb b block other)))
step_away block vs (Deleter b l d) other line = changed_away b l (with_deleter d) (λ x y v. refl) block vs other line
step_away block vs (Undone b l) other line = changed_away b l taken_back (λ x y v. refl) block vs other line
step_away block vs (Removed b l) other line = removed_away b l block vs other line
step_away block vs (Frozen b l plan) other line = changed_away b l (frozen_by plan) (λ x y v. refl) block vs other line

pub steps_away :
    (block b : ℕ) (steps : List RowStep) (vs : List Version) → AllIn b steps → (b ≡ block → ⊥)
    → SameIn block vs (with_steps vs steps)
unfolding with_steps
steps_away block b [] vs there other line = refl
steps_away block b (step ∷ steps) vs (here, there) other line =
    step_away block vs step (λ e. other (sym here ∙ e)) line
    ∙ steps_away block b steps (with_step vs step) there other line

-- steps, and then others
pub steps_joined :
    (first then : List RowStep) (vs : List Version) → with_steps vs (first ++ then) ≡ with_steps (with_steps vs first) then
unfolding with_steps
steps_joined [] then vs = refl
steps_joined (step ∷ first) then vs = steps_joined first then (with_step vs step)

pub rules_split :
    (from : LogOrigin) (log : List Rec) (first then : List RowStep) (vs : List Version)
    → StepsRule from log vs (first ++ then) → StepsRule from log vs first × StepsRule from log (with_steps vs first) then
unfolding with_steps
rules_split from log [] then vs rule = (tt, rule)
rules_split from log (step ∷ first) then vs (rule, rest) =
    let (a, b) = rules_split from log first then (with_step vs step) rest in ((rule, a), b)

-- a step's rule depends on the versions of its block alone
rule_same :
    (from : LogOrigin) (log : List Rec) (vs ws : List Version) (step : RowStep)
    → SameIn (block_of step) vs ws → StepRule from log vs step → StepRule from log ws step
rule_same from log vs ws (Born whole block line tuple) same rule =
    record {
      table = rule.table;
      horizon = rule.horizon;
      births =
          record {
            free = sym (same line) ∙ rule.births.free;
            live = rule.births.live;
            inserter = rule.births.inserter;
            unmarked = rule.births.unmarked;
            spent = rule.births.spent;
          };
      deleters = tt;
      removals = tt;
      multixacts = rule.multixacts;
    }
rule_same from log vs ws (Deleter block line d) same rule =
    record {
      table = rule.table;
      horizon = rule.horizon;
      births = tt;
      deleters = subst (λ (x : Option Version). IfVersion x (λ v. MayFollow from log v d)) (same line) rule.deleters;
      removals = tt;
      multixacts = rule.multixacts;
    }
rule_same from log vs ws (Undone block line) same rule =
    record {
      table = rule.table;
      horizon = rule.horizon;
      births = tt;
      deleters = subst (λ (x : Option Version). IfVersion x (MayUndo from log)) (same line) rule.deleters;
      removals = tt;
      multixacts = tt;
    }
rule_same from log vs ws (Removed block line) same rule =
    record {
      table = rule.table;
      horizon = rule.horizon;
      births = tt;
      deleters = tt;
      removals = subst (λ (x : Option Version). IfVersion x (MayBeRemoved from log rule.horizon)) (same line) rule.removals;
      multixacts = tt;
    }
rule_same from log vs ws (Frozen block line plan) same rule =
    record {
      table = rule.table;
      horizon = rule.horizon;
      births = tt;
      deleters = subst (λ (x : Option Version). IfVersion x (λ v. MayFollow from log v (deleter_of_plan plan))) (same line) rule.deleters;
      removals = subst (λ (x : Option Version). IfVersion x (PlanRule from log rule.horizon plan)) (same line) rule.removals;
      multixacts = rule.multixacts;
    }

pub rules_same :
    (from : LogOrigin) (log : List Rec) (block : ℕ) (steps : List RowStep) (vs ws : List Version)
    → AllIn block steps → SameIn block vs ws → StepsRule from log vs steps → StepsRule from log ws steps
rules_same from log block [] vs ws there same rule = tt
rules_same from log block (step ∷ steps) vs ws (here, there) same (rule, rules) = (
  rule_same from log vs ws step (subst (λ (b : ℕ). SameIn b vs ws) (sym here) same) rule,
  rules_same from log block steps (with_step vs step) (with_step ws step) there (step_same block vs ws step same) rules,
)

pub none_same : (block : ℕ) (vs ws : List Version) → SameIn block vs ws → HasNone vs block → HasNone ws block
none_same block vs ws same none line = sym (same line) ∙ none line
