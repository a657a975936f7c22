-- What a record changes in a block goes with its steps there.
use Rattle.std.proofs.Common.{◌≡◌, ℕ, suc, ◌-◌, ◌^◌, ◌<◌, ◌==◌, Bool, true, false, bit_and, List, [], ◌∷◌, ◌++◌, map, length, take, drop, All, Option, Some, None, Result, Ok, Err, refl, sym, ap, subst, ◌∙◌, arith, if◌then◌else◌}
use Rattle.std.proofs.lemmas.Bool.{false≢true}
use Rattle.std.proofs.lemmas.List.Elements.{All-append, All-drop, All-nil, All-take}
use Rattle.heap_tuple.specs.Tuple.{IsTuple, hoff_of}
use Rattle.heap_page.specs.Item.{Item, unused, normal, redirect, dead, numbered, is_normal, is_unused, tuple_in}
use Rattle.record_fields.specs.declared.entries.Redirect.{Redirect}
use Rattle.record_fields.specs.declared.entries.FreezePlan as listed
use Rattle.row_model.specs.Origins.{LogOrigin}
use Rattle.typed_records.specs.declared.types.RecImage.{RecImage}
use Rattle.typed_records.specs.declared.types.NewTuple.{NewTuple}
use Rattle.typed_records.specs.declared.types.RecBlock.{RecBlock}
use Rattle.typed_records.specs.declared.types.Rec.{Rec}
use Rattle.typed_records.specs.declared.types.RecKind.{RecKind}
use Rattle.typed_records.specs.declared.types.RecKind.TheVariants.{Checkpoint, BackupEnd, Parameters, FullPageWrites, Images, Overwrite, Ended, Assignment, Running, Insert, Delete, Update, Confirm, Lock, MultiInsert, LockUpdated, Prune, Vacuum, Freeze, Visible, Truncate, Locks, Multixact, Other}
use Rattle.pg_types.specs.Numbers.{has_bits}
use Rattle.heap_redo.specs.TupleHeads.{Head, marked, deleted, replaced, locked, frozen}
use Rattle.heap_redo.specs.After.{BlockRefusal, no_tuple, ◌>>=◌, applied, put, put_listed, put_version, change_head, tuple_of, joined, user_data, is_short, update_old, update_within, update, number_of, changed, new_head, set_line, set_lines, redirect_line, redirect_lines, prune, freeze_lines, freeze}
use Rattle.row_model.specs.Versions.{Version, RowStep, Born, Deleter, Undone, Removed, Frozen, version_at, with_step, with_steps}
use Rattle.row_model.specs.RowSteps.{deleter_of_mark, births_written, births, version_written, version_put, values_of, update_steps, own_steps, removals_written, removals, plan_of, frozen_written, freezes_in, pruned_lines}
use Rattle.row_model.specs.Shows.{ShowsPlace, ShowsBlock}
use Rattle.pg_types.specs.Bytes.{AreBytes}
use Rattle.record_numbers.specs.Fits.{TupleFits, BlockFits, KindFits, PlanFits, RecordFits}
use Rattle.row_redo.proofs.Rules.{StepsRule}
use Rattle.row_redo.proofs.Fitting.{TuplesFit}
use Rattle.row_redo.proofs.Heads.{head-bytes, same-values, Marks, marks-marked, marks-replaced, marks-locked, marks-deleted}
use Rattle.row_redo.proofs.OneLine.{change-done}
use Rattle.row_redo.proofs.Frozen.{PlanSmall}
use Rattle.row_redo.proofs.Places.{rules_split, steps_joined}
use Rattle.row_redo.proofs.OneStep.{born-shown, deleter-shown, undone-shown, pointed-shown, removed-shown, frozen-shown}

-- a block shows these versions, and its tuples fit
abbrev pub Shown : LogOrigin → List Rec → List Version → ℕ → List Item → Type 0
Shown from log vs block items = ShowsBlock from log vs block items × TuplesFit items

-- a written tuple is bytes
tuple-bytes :
    (xid xmax block line : ℕ) (tuple : NewTuple) (rest : List ℕ) → TupleFits tuple → AreBytes rest
    → AreBytes (tuple_of xid xmax block line tuple rest)
unfolding tuple_of
tuple-bytes xid xmax block line tuple rest fits h =
    head-bytes (new_head xid xmax block line tuple) rest fits.hoff h

joined-bytes : (tuple : NewTuple) (old : List ℕ) → TupleFits tuple → AreBytes old → AreBytes (joined tuple old)
unfolding joined
joined-bytes tuple old fits h =
    let P = λ (byte : ℕ). byte < 256 in
    let n = tuple.hoff - 23 in
    let a = All-take P n tuple.rest fits.rest in
    let b = All-take P tuple.prefix old h in
    let c = All-drop P n tuple.rest fits.rest in
    let d = All-drop P (length old - tuple.suffix) old h in
    let xs = take n tuple.rest in
    let ys = take tuple.prefix old in
    let zs = drop n tuple.rest in
    let ws = drop (length old - tuple.suffix) old in
    All-append P (xs ++ ys ++ zs) ws (All-append P (xs ++ ys) zs (All-append P xs ys a b) c) d

first-of : {X : Type 0} (P : X → Type 0) (x : X) (xs : List X) → All P (x ∷ xs) → P x
first-of P x xs h = h 0 x (omega arith)

rest-of : {X : Type 0} (P : X → Type 0) (x : X) (xs : List X) → All P (x ∷ xs) → All P xs
rest-of P x xs h = λ k d l. h (suc k) d (omega arith)

-- where one change is followed by another, both were made
both-done :
    {B : Type 0} (first : Result (List Item) BlockRefusal) (next : List Item → Result B BlockRefusal) (after : B)
    → (first >>= next) ≡ Ok after → (items : List Item) × (first ≡ Ok items) × (next items ≡ Ok after)
both-done (Ok items) next after e = (items, refl, e)
both-done (Err refusal) next after e = absurd (cc)

-- tuples are put one after the other
listed-shown :
    (from : LogOrigin) (log : List Rec) (vs : List Version) (xid block : ℕ) (lines : List ℕ) (tuples : List NewTuple)
    (items after : List Item) → All TupleFits tuples → StepsRule from log vs (births_written xid block lines tuples)
    → Shown from log vs block items → put_listed xid block lines tuples items ≡ Ok after
    → Shown from log (with_steps vs (births_written xid block lines tuples)) block after
unfolding births_written put_listed with_steps
listed-shown from log vs xid block [] tuples items after fits rule shown e = subst (Shown from log vs block) (cc) shown
listed-shown from log vs xid block (line ∷ lines) [] items after fits rule shown e = subst (Shown from log vs block) (cc) shown
listed-shown from log vs xid block (line ∷ lines) (tuple ∷ tuples) items after fits (rule, rules) (shows, fit) e =
    let new = tuple_of xid 0 block line tuple tuple.rest in
    let (next, first, rest) = both-done (put line new items) (put_listed xid block lines tuples) after e in
    let one = first-of TupleFits tuple tuples fits in
    let step = born-shown from log vs block line new items next rule (tuple-bytes xid 0 block line tuple tuple.rest one one.rest) fit shows first in
    listed-shown from log (with_step vs (Born false block line new)) xid block lines tuples next after (rest-of TupleFits tuple tuples fits) rules step rest

-- the new version of an update is put
version-shown :
    (from : LogOrigin) (log : List Rec) (vs : List Version) (rec : Rec) (block : RecBlock) (xmax line : ℕ) (old : List ℕ)
    (tuples : List NewTuple) (items after : List Item) → All TupleFits tuples → AreBytes old
    → StepsRule from log vs (version_written rec block xmax line old tuples) → Shown from log vs block.block items
    → put_version rec.head.xid.0 xmax block.block line tuples old items ≡ Ok after
    → Shown from log (with_steps vs (version_written rec block xmax line old tuples)) block.block after
unfolding version_written put_version with_steps
version-shown from log vs rec block xmax line old [] items after fits bytes rule shown e = subst (Shown from log vs block.block) (cc) shown
version-shown from log vs rec block xmax line old (tuple ∷ tuples) items after fits bytes (rule, rules) (shows, fit) e =
    let one = first-of TupleFits tuple tuples fits in
    born-shown from log vs block.block line (tuple_of rec.head.xid.0 xmax block.block line tuple (joined tuple old)) items after rule
    (tuple-bytes rec.head.xid.0 xmax block.block line tuple (joined tuple old) one (joined-bytes tuple old one bytes)) fit shows e

-- the values of a line's tuple are those of the version that it shows
old-values :
    (from : LogOrigin) (log : List Rec) (o : Option Version) (item : Item) (tuple : List ℕ) → item ≡ normal tuple
    → IsTuple tuple → ShowsPlace from log o item → user_data (tuple_in item) ≡ values_of o
old-values from log None item tuple was rule shows = absurd (false≢true (sym shows ∙ ap is_normal was))
old-values from log (Some v) item tuple was rule (own, is, shows) =
    let same : own ≡ tuple = ap tuple_in (sym is ∙ was) in
    let good : IsTuple own = subst IsTuple (sym same) rule in
    ap (λ i. user_data (tuple_in i)) is ∙ same-values own v.tuple good shows.row.bytes

-- a change that is not refused, where a test would refuse it
unless : {X : Type 0} (b : Bool) (refusal : BlockRefusal) (result : Result X BlockRefusal) (after : X) → (if b then Err refusal else result) ≡ Ok after → result ≡ Ok after
unless true refusal result after e = absurd (cc)
unless false refusal result after e = e

-- an update within one block: the old version gets its deleter, and the new one is put
within-shown :
    (from : LogOrigin) (log : List Rec) (vs : List Version) (rec : Rec) (block : RecBlock) (is_hot : Bool)
    (old_xmax old_line old_bits new_xmax new_line : ℕ) (items after : List Item) → All TupleFits block.tuples → old_xmax < 2 ^ 32
    → StepsRule from log vs (Deleter block.block old_line (deleter_of_mark old_xmax old_bits)
    ∷ version_written rec block new_xmax new_line (values_of (version_at block.block old_line vs)) block.tuples)
    → Shown from log vs block.block items
    → update_within rec block is_hot old_xmax old_line old_bits new_xmax new_line items ≡ Ok after
    → Shown from log (with_steps vs (Deleter block.block old_line (deleter_of_mark old_xmax old_bits)
    ∷ version_written rec block new_xmax new_line (values_of (version_at block.block old_line vs)) block.tuples)) block.block after
unfolding update_within update_old with_steps
within-shown from log vs rec block is_hot old_xmax old_line old_bits new_xmax new_line items after fits small (rule, rules) (shows, fit) e =
    let old = user_data (tuple_in (numbered items old_line)) in
    let mark = λ (head : Head). replaced old_xmax old_bits is_hot block.block new_line head in
    let put_new = λ (next : List Item). if is_short block.tuples old then Err (no_tuple old_line)
    else put_version rec.head.xid.0 new_xmax block.block new_line block.tuples old next in
    let (next, first, rest) = both-done (change_head old_line mark items) put_new after e in
    let put_ok = unless (is_short block.tuples old) (no_tuple old_line)
    (put_version rec.head.xid.0 new_xmax block.block new_line block.tuples old next) after rest in
    let done = change-done old_line mark items next first in
    let (bytes, good) = fit old_line done.tuple done.was in
    let values = old-values from log (version_at block.block old_line vs) (numbered items old_line) done.tuple done.was good (shows old_line) in
    let old_bytes : AreBytes old = subst (λ (i : Item). AreBytes (user_data (tuple_in i))) (sym done.was) (All-drop (λ (byte : ℕ). byte < 256) (hoff_of done.tuple) done.tuple bytes) in
    let step = deleter-shown from log vs block.block old_line mark old_xmax old_bits items next small
    (λ head. marks-replaced old_xmax old_bits is_hot block.block new_line head) fit shows first in
    let then_vs = with_step vs (Deleter block.block old_line (deleter_of_mark old_xmax old_bits)) in
    subst (λ (o : List ℕ). Shown from log (with_steps then_vs (version_written rec block new_xmax new_line o block.tuples)) block.block after) values
    (version-shown from log then_vs rec block new_xmax new_line old block.tuples next after fits old_bytes
    (subst (λ (o : List ℕ). StepsRule from log then_vs (version_written rec block new_xmax new_line o block.tuples)) (sym values) rules) step put_ok)

-- lines become ones that show no tuple, one after the other
bare-shown :
    (from : LogOrigin) (log : List Rec) (vs : List Version) (block : ℕ) (item : Item) (lines : List ℕ) (items after : List Item)
    → is_normal item ≡ false → Shown from log vs block items → set_lines item lines items ≡ Ok after
    → Shown from log (with_steps vs (removals_written block lines)) block after
unfolding set_lines removals_written with_steps
bare-shown from log vs block item [] items after bare shown e = subst (Shown from log vs block) (cc) shown
bare-shown from log vs block item (line ∷ lines) items after bare (shows, fit) e =
    let (next, first, rest) = both-done (set_line line item items) (λ (l : List Item). set_lines item lines l) after e in
    bare-shown from log (with_step vs (Removed block line)) block item lines next after bare
    (removed-shown from log vs block line item items next bare fit shows first) rest

-- a line leads to another, once it was set so
one-led : (line : Redirect) (items after : List Item) → redirect_line line items ≡ Ok after → set_line line.from (redirect line.to) items ≡ Ok after
unfolding redirect_line
one-led line items after e =
    let refused = is_unused (numbered items line.to) in
    let (next, first, rest) = both-done (set_line line.from (redirect line.to) items)
    (λ (l : List Item). if refused then Err (no_tuple line.to) else Ok l) after e in
    first ∙ unless refused (no_tuple line.to) (Ok next) after rest

led-shown :
    (from : LogOrigin) (log : List Rec) (vs : List Version) (block : ℕ) (redirected : List Redirect) (items after : List Item)
    → Shown from log vs block items → redirect_lines redirected items ≡ Ok after
    → Shown from log (with_steps vs (removals_written block (map (λ (line : Redirect). line.from) redirected))) block after
unfolding redirect_lines removals_written with_steps
led-shown from log vs block [] items after shown e = subst (Shown from log vs block) (cc) shown
led-shown from log vs block (line ∷ redirected) items after (shows, fit) e =
    let (next, first, rest) = both-done (redirect_line line items) (λ (l : List Item). redirect_lines redirected l) after e in
    led-shown from log (with_step vs (Removed block line.from)) block redirected next after
    (removed-shown from log vs block line.from (redirect line.to) items next refl fit shows (one-led line items next first)) rest

-- removals, and then others
removals-joined : (block : ℕ) (a b : List ℕ) → removals_written block (a ++ b) ≡ removals_written block a ++ removals_written block b
unfolding removals_written
removals-joined block [] b = refl
removals-joined block (line ∷ a) b = ap (λ (l : List RowStep). Removed block line ∷ l) (removals-joined block a b)

removed-joined :
    (block : ℕ) (a b : List ℕ) (vs : List Version)
    → with_steps vs (removals_written block (a ++ b)) ≡ with_steps (with_steps vs (removals_written block a)) (removals_written block b)
removed-joined block a b vs =
    ap (with_steps vs) (removals-joined block a b) ∙ steps_joined (removals_written block a) (removals_written block b) vs

-- a page is pruned
prune-shown :
    (from : LogOrigin) (log : List Rec) (vs : List Version) (block : ℕ) (redirected : List Redirect) (died freed : List ℕ)
    (items after : List Item) → Shown from log vs block items → prune redirected died freed items ≡ Ok after
    → Shown from log (with_steps vs (removals_written block (pruned_lines redirected died freed))) block after
unfolding prune
prune-shown from log vs block redirected died freed items after shown e =
    let sources = map (λ (line : Redirect). line.from) redirected in
    let (led, first, rest) = both-done (redirect_lines redirected items)
    (λ (l : List Item). set_lines dead died l >>= (λ (m : List Item). set_lines unused freed m)) after e in
    let (left, second, third) = both-done (set_lines dead died led) (λ (m : List Item). set_lines unused freed m) after rest in
    let led_vs = with_steps vs (removals_written block sources) in
    let left_vs = with_steps led_vs (removals_written block died) in
    let once_left = bare-shown from log led_vs block dead died led left refl (led-shown from log vs block redirected items led shown first) second in
    subst (λ (l : List Version). Shown from log l block after)
    (sym (removed-joined block (sources ++ died) freed vs
    ∙ ap (λ (l : List Version). with_steps l (removals_written block freed)) (removed-joined block sources died vs)))
    (bare-shown from log left_vs block unused freed left after refl once_left third)

-- the numbers of a plan
plan-small : (plan : listed.FreezePlan) → PlanFits plan → PlanSmall (plan_of plan)
plan-small plan fits = record { xmax = fits.xmax; mask2 = fits.mask2; mask = fits.mask }

-- the tuples of these lines are frozen by a plan
lines_frozen-shown :
    (from : LogOrigin) (log : List Rec) (vs : List Version) (block : ℕ) (plan : listed.FreezePlan) (lines : List ℕ)
    (items after : List Item) → PlanSmall (plan_of plan) → StepsRule from log vs (map (λ line. Frozen block line (plan_of plan)) lines)
    → Shown from log vs block items → freeze_lines plan lines items ≡ Ok after
    → Shown from log (with_steps vs (map (λ line. Frozen block line (plan_of plan)) lines)) block after
unfolding freeze_lines with_steps
lines_frozen-shown from log vs block plan [] items after small rule shown e = subst (Shown from log vs block) (cc) shown
lines_frozen-shown from log vs block plan (line ∷ lines) items after small (rule, rules) (shows, fit) e =
    let (next, first, rest) = both-done (change_head line (λ (head : Head). frozen plan.xmax.0 plan.mask2 plan.mask head) items)
    (λ (l : List Item). freeze_lines plan lines l) after e in
    lines_frozen-shown from log (with_step vs (Frozen block line (plan_of plan))) block plan lines next after small rules
    (frozen-shown from log vs block line rule.horizon (plan_of plan) items next small rule.removals fit shows first) rest

-- each plan freezes its lines
freeze-shown :
    (from : LogOrigin) (log : List Rec) (vs : List Version) (block : ℕ) (plans : List listed.FreezePlan) (items after : List Item)
    → All PlanFits plans → StepsRule from log vs (frozen_written block plans) → Shown from log vs block items
    → freeze plans items ≡ Ok after → Shown from log (with_steps vs (frozen_written block plans)) block after
unfolding freeze frozen_written with_steps
freeze-shown from log vs block [] items after fits rule shown e = subst (Shown from log vs block) (cc) shown
freeze-shown from log vs block (plan ∷ plans) items after fits rule shown e =
    let steps : List RowStep = map (λ line. Frozen block line (plan_of plan)) plan.lines in
    let others : List RowStep = frozen_written block plans in
    let (next, first, rest) = both-done (freeze_lines plan plan.lines items) (λ (l : List Item). freeze plans l) after e in
    let (one, more) = rules_split from log steps others vs rule in
    let small = plan-small plan (first-of PlanFits plan plans fits) in
    subst (λ (l : List Version). Shown from log l block after) (sym (steps_joined steps others vs))
    (freeze-shown from log (with_steps vs steps) block plans next after (rest-of PlanFits plan plans fits) more
    (lines_frozen-shown from log vs block plan plan.lines items next small one shown first) rest)

-- the same for steps that are equal to these
along :
    (from : LogOrigin) (log : List Rec) (vs : List Version) (block : ℕ) (after : List Item) (steps others : List RowStep)
    → steps ≡ others → (StepsRule from log vs others → Shown from log (with_steps vs others) block after) → StepsRule from log vs steps
    → Shown from log (with_steps vs steps) block after
along from log vs block after steps others e done rule =
    subst (λ (l : List RowStep). Shown from log (with_steps vs l) block after) (sym e) (done (subst (StepsRule from log vs) e rule))

-- the steps where no image is restored
births-none : (rec : Rec) (block : RecBlock) (image : Option RecImage) (lines : List ℕ) → image ≡ None → births rec block image lines ≡ births_written rec.head.xid.0 block.block lines block.tuples
unfolding births
births-none rec block image lines none = rw none refl

put-none :
    (rec : Rec) (block : RecBlock) (image : Option RecImage) (xmax line : ℕ) (old : List ℕ) → image ≡ None
    → version_put rec block image xmax line old ≡ version_written rec block xmax line old block.tuples
unfolding version_put
put-none rec block image xmax line old none = rw none refl

removals-none :
    (block : ℕ) (image : Option RecImage) (lines : List ℕ) (vs : List Version) → image ≡ None
    → removals block image lines vs ≡ removals_written block lines
unfolding removals
removals-none block image lines vs none = rw none refl

freezes-none :
    (block : ℕ) (image : Option RecImage) (plans : List listed.FreezePlan) (vs : List Version) → image ≡ None
    → freezes_in block image plans vs ≡ frozen_written block plans
unfolding freezes_in
freezes-none block image plans vs none = rw none refl

module _ (from : LogOrigin) (log : List Rec) (vs : List Version) (rec : Rec) (block : RecBlock) (items after : List Item) (fits : All TupleFits block.tuples) (none : applied block.image ≡ None) (shown : Shown from log vs block.block items) where
  births-shown :
      (lines : List ℕ) → put_listed rec.head.xid.0 block.block lines block.tuples items ≡ Ok after
      → StepsRule from log vs (births rec block (applied block.image) lines)
      → Shown from log (with_steps vs (births rec block (applied block.image) lines)) block.block after
  births-shown lines e rule =
      along from log vs block.block after (births rec block (applied block.image) lines) (births_written rec.head.xid.0 block.block lines block.tuples)
      (births-none rec block (applied block.image) lines none)
      (λ r. listed-shown from log vs rec.head.xid.0 block.block lines block.tuples items after fits r shown e) rule

  head-changed :
      (line xmax bits : ℕ) (f : Head → Head) → xmax < 2 ^ 32 → ((head : Head) → Marks head.xmin xmax bits head (f head))
      → change_head line f items ≡ Ok after
      → Shown from log (with_steps vs (Deleter block.block line (deleter_of_mark xmax bits) ∷ [])) block.block after
  unfolding with_steps
  head-changed line xmax bits f small marks e = deleter-shown from log vs block.block line f xmax bits items after small marks shown.1 shown.0 e

  deletion-shown :
      (xmax line bits flags : ℕ) (super : Bool) → xmax < 2 ^ 32 → has_bits flags 0x08 ≡ super
      → StepsRule from log vs (if super then Undone block.block line ∷ [] else Deleter block.block line (deleter_of_mark xmax bits) ∷ [])
      → change_head line (λ head. deleted xmax bits flags block.block line head) items ≡ Ok after
      → Shown from log (with_steps vs (if super then Undone block.block line ∷ [] else Deleter block.block line (deleter_of_mark xmax bits) ∷ [])) block.block after
  unfolding with_steps
  deletion-shown xmax line bits flags true small is (rule, rules) e =
      undone-shown from log vs block.block line xmax bits flags items after is shown.1 shown.0 e
  deletion-shown xmax line bits flags false small is rule e =
      head-changed line xmax bits (λ head. deleted xmax bits flags block.block line head) small
      (λ head. marks-deleted xmax bits flags block.block line head is) e

  -- of an update over two blocks, the block of the new version, and that of the old one
  two-shown :
      (old_xmax old_line old_bits new_xmax new_line new_block : ℕ) (is_new : Bool) → old_xmax < 2 ^ 32
      → StepsRule from log vs (if is_new then version_put rec block (applied block.image) new_xmax new_line [] else Deleter block.block old_line (deleter_of_mark old_xmax old_bits) ∷ [])
      → (if is_new then put_version rec.head.xid.0 new_xmax block.block new_line block.tuples [] items
      else update_old (bit_and rec.head.info 0x70 == 0x40) old_xmax old_line old_bits new_block new_line items) ≡ Ok after
      → Shown from log (with_steps vs (if is_new then version_put rec block (applied block.image) new_xmax new_line [] else Deleter block.block old_line (deleter_of_mark old_xmax old_bits) ∷ [])) block.block after
  unfolding update_old
  two-shown old_xmax old_line old_bits new_xmax new_line new_block true small rule e =
      along from log vs block.block after (version_put rec block (applied block.image) new_xmax new_line [])
      (version_written rec block new_xmax new_line [] block.tuples)
      (put-none rec block (applied block.image) new_xmax new_line [] none)
      (λ r. version-shown from log vs rec block new_xmax new_line [] block.tuples items after fits (All-nil (λ (byte : ℕ). byte < 256)) r shown e) rule
  two-shown old_xmax old_line old_bits new_xmax new_line new_block false small rule e =
      let is_hot = bit_and rec.head.info 0x70 == 0x40 in
      head-changed old_line old_xmax old_bits (λ head. replaced old_xmax old_bits is_hot new_block new_line head) small
      (λ head. marks-replaced old_xmax old_bits is_hot new_block new_line head) e

  update-shown :
      (old_xmax old_line old_bits new_xmax new_line : ℕ) (new_block old_block : Option ℕ) → old_xmax < 2 ^ 32
      → StepsRule from log vs (update_steps rec block old_xmax old_line old_bits new_xmax new_line new_block old_block vs)
      → update rec block old_xmax old_line old_bits new_xmax new_line new_block old_block items ≡ Ok after
      → Shown from log (with_steps vs (update_steps rec block old_xmax old_line old_bits new_xmax new_line new_block old_block vs)) block.block after
  unfolding update_steps update with_steps
  update-shown old_xmax old_line old_bits new_xmax new_line (Some new_block) (Some old_block) small rule e =
      two-shown old_xmax old_line old_bits new_xmax new_line new_block (block.id == 0) small rule e
  update-shown old_xmax old_line old_bits new_xmax new_line (Some new_block) None small rule e =
      let is_hot = bit_and rec.head.info 0x70 == 0x40 in
      let old = values_of (version_at block.block old_line vs) in
      let step = Deleter block.block old_line (deleter_of_mark old_xmax old_bits) in
      along from log vs block.block after (step ∷ version_put rec block (applied block.image) new_xmax new_line old)
      (step ∷ version_written rec block new_xmax new_line old block.tuples)
      (ap (λ l. step ∷ l) (put-none rec block (applied block.image) new_xmax new_line old none))
      (λ r. within-shown from log vs rec block is_hot old_xmax old_line old_bits new_xmax new_line items after fits small r shown e) rule
  update-shown old_xmax old_line old_bits new_xmax new_line None old_block small rule e = subst (Shown from log vs block.block) (cc) shown

  kind-shown :
      (kind : RecKind) → KindFits kind → StepsRule from log vs (own_steps rec block kind vs) → changed rec block kind items ≡ Ok after
      → Shown from log (with_steps vs (own_steps rec block kind vs)) block.block after
  unfolding own_steps changed with_steps
  kind-shown (Insert line flags) f rule e = births-shown (line ∷ []) e rule
  kind-shown (MultiInsert flags lines) f rule e = births-shown lines e rule
  kind-shown (Delete xmax line bits flags) f rule e = deletion-shown xmax.0 line bits flags (has_bits flags 0x08) f.0 refl rule e
  kind-shown (Update old_xmax old_line old_bits flags new_xmax new_line) f rule e =
      update-shown old_xmax.0 old_line old_bits new_xmax.0 new_line (number_of 0 rec.blocks) (number_of 1 rec.blocks) f.0 rule e
  kind-shown (Lock xmax line bits flags) f rule e =
      head-changed line xmax.0 bits (λ head. locked xmax.0 bits block.block line head) f.0
      (λ head. marks-locked xmax.0 bits block.block line head) e
  kind-shown (LockUpdated xmax line bits flags) f rule e =
      head-changed line xmax.0 bits (λ head. marked xmax.0 bits head) f.0 (λ head. marks-marked xmax.0 bits head) e
  kind-shown (Confirm line) f rule e = pointed-shown from log vs block.block line block.block items after shown.1 shown.0 e
  kind-shown (Checkpoint redo timeline previous writes next multi member oldest active) f rule e = subst (Shown from log vs block.block) (cc) shown
  kind-shown (BackupEnd start) f rule e = subst (Shown from log vs block.block) (cc) shown
  kind-shown (Parameters connections processes senders prepared locks level) f rule e = subst (Shown from log vs block.block) (cc) shown
  kind-shown (FullPageWrites on) f rule e = subst (Shown from log vs block.block) (cc) shown
  kind-shown Images f rule e = subst (Shown from log vs block.block) (cc) shown
  kind-shown (Overwrite given_up time) f rule e = subst (Shown from log vs block.block) (cc) shown
  kind-shown (Ended time xinfo xids files) f rule e = subst (Shown from log vs block.block) (cc) shown
  kind-shown (Assignment top xids) f rule e = subst (Shown from log vs block.block) (cc) shown
  kind-shown (Running tops subs overflow next oldest latest xids) f rule e = subst (Shown from log vs block.block) (cc) shown
  kind-shown (Prune horizon catalogue redirected died freed) f rule e =
      along from log vs block.block after (removals block.block (applied block.image) (pruned_lines redirected died freed) vs)
      (removals_written block.block (pruned_lines redirected died freed))
      (removals-none block.block (applied block.image) (pruned_lines redirected died freed) vs none)
      (λ r. prune-shown from log vs block.block redirected died freed items after shown e) rule
  kind-shown (Vacuum freed) f rule e =
      along from log vs block.block after (removals block.block (applied block.image) freed vs) (removals_written block.block freed)
      (removals-none block.block (applied block.image) freed vs none)
      (λ r. bare-shown from log vs block.block unused freed items after refl shown e) rule
  kind-shown (Freeze horizon catalogue plans) f rule e =
      along from log vs block.block after (freezes_in block.block (applied block.image) plans vs) (frozen_written block.block plans)
      (freezes-none block.block (applied block.image) plans vs none)
      (λ r. freeze-shown from log vs block.block plans items after f.1 r shown e) rule
  kind-shown (Visible horizon flags) f rule e = subst (Shown from log vs block.block) (cc) shown
  kind-shown (Truncate number locator flags) f rule e = subst (Shown from log vs block.block) (cc) shown
  kind-shown (Locks entries) f rule e = subst (Shown from log vs block.block) (cc) shown
  kind-shown (Multixact id offset members) f rule e = subst (Shown from log vs block.block) (cc) shown
  kind-shown Other f rule e = subst (Shown from log vs block.block) (cc) shown

-- After a change that is not refused a block shows the versions after the record's steps in it.
pub changed_shows :
    (from : LogOrigin) (log : List Rec) (vs : List Version) (rec : Rec) (block : RecBlock) (items after : List Item)
    → RecordFits rec → BlockFits block → applied block.image ≡ None → TuplesFit items
    → StepsRule from log vs (own_steps rec block rec.kind vs)
    → ShowsBlock from log vs block.block items
    → changed rec block rec.kind items ≡ Ok after
    → ShowsBlock from log (with_steps vs (own_steps rec block rec.kind vs)) block.block after × TuplesFit after
changed_shows from log vs rec block items after fits block_fits none fit rule shows e =
    kind-shown from log vs rec block items after block_fits.tuples none (shows, fit) rec.kind fits.kind rule e
