-- Lines of a page that are pruned or frozen, one after the other.
use Rattle.std.proofs.Common.{arith, ap, sym, refl, ◌∙◌, ◌∷◌, [], ◌-◌, ◌≡◌, ◌<◌, ◌^◌, ℕ, Bool, true, false, cond, List, Result, Ok, Err}
use Rattle.heap_page.specs.Item.{Item, redirect, with_item, numbered, is_unused}
use Rattle.heap_page.specs.Page.{IsPage, items_of}
use Rattle.heap_page.specs.Put.{set_line_answer}
use Rattle.heap_page.specs.declared.line.PageError.TheVariants.{NoLine}
use Rattle.heap_page.proofs.Header.{in_use, lines-bound}
use Rattle.record_fields.specs.declared.entries.Redirect.{Redirect}
use Rattle.record_fields.specs.declared.entries.FreezePlan.{FreezePlan}
use Rattle.heap_redo.specs.TupleHeads.{frozen}
use Rattle.heap_redo.specs.After.{BlockRefusal, no_tuple, ◌>>=◌, answered, change_head, set_line, set_lines, redirect_line, redirect_lines, freeze_lines, freeze}

-- a line that is in use has a number of 15 bits
pub line-small : (page : List ℕ) (line : ℕ) → IsPage page → is_unused (numbered (items_of page) line) ≡ false → line < 2 ^ 15
line-small page line rule used =
    let inside = in_use page line rule used in
    let few = lines-bound page rule in
    omega (arith, inside.low, inside.below, few)

module _ (line : ℕ) (item : Item) (items : List Item) where
  line-refused : is_unused (numbered items line) ≡ true → set_line line item items ≡ Err (no_tuple line)
  unfolding set_line set_line_answer
  line-refused h = ap (λ v. answered line (with_item items (line - 1) item) (cond v (Err NoLine) (Ok tt))) h

  line-set : is_unused (numbered items line) ≡ false → set_line line item items ≡ Ok (with_item items (line - 1) item)
  unfolding set_line set_line_answer
  line-set h = ap (λ v. answered line (with_item items (line - 1) item) (cond v (Err NoLine) (Ok tt))) h

-- a line leads to another
module _ (line : Redirect) (items : List Item) where
  then_led : Bool → List Item → Result (List Item) BlockRefusal
  then_led unused_ next = cond unused_ (Err (no_tuple line.to)) (Ok next)

  then_led-used : (made : Result (List Item) BlockRefusal) → (made >>= λ next. then_led false next) ≡ made
  unfolding then_led
  then_led-used (Ok next) = refl
  then_led-used (Err refusal) = refl

  redirect-is : redirect_line line items ≡ (set_line line.from (redirect line.to) items >>= λ next. then_led (is_unused (numbered items line.to)) next)
  unfolding redirect_line then_led
  redirect-is = refl

  pub redirect-from : is_unused (numbered items line.from) ≡ true → redirect_line line items ≡ Err (no_tuple line.from)
  redirect-from h =
      redirect-is ∙ ap (λ made. made >>= λ next. then_led (is_unused (numbered items line.to)) next) (line-refused line.from (redirect line.to) items h)

  pub redirect-to : is_unused (numbered items line.from) ≡ false → is_unused (numbered items line.to) ≡ true → redirect_line line items ≡ Err (no_tuple line.to)
  unfolding then_led
  redirect-to h k =
      redirect-is ∙ ap (λ made. made >>= λ next. then_led (is_unused (numbered items line.to)) next) (line-set line.from (redirect line.to) items h)
      ∙ ap (λ v. then_led v (with_item items (line.from - 1) (redirect line.to))) k

  pub redirect-done : is_unused (numbered items line.to) ≡ false → redirect_line line items ≡ set_line line.from (redirect line.to) items
  redirect-done k =
      redirect-is ∙ ap (λ v. set_line line.from (redirect line.to) items >>= λ next. then_led v next) k
      ∙ then_led-used (set_line line.from (redirect line.to) items)

-- what comes of a step is what is done with it
after-step : (step : Result (List Item) BlockRefusal) (next : List Item) (f : List Item → Result (List Item) BlockRefusal) → Ok next ≡ step → f next ≡ (step >>= f)
after-step step next f e = ap (λ made. made >>= f) e

after-refusal : (step : Result (List Item) BlockRefusal) (refusal : BlockRefusal) (f : List Item → Result (List Item) BlockRefusal) → Err refusal ≡ step → Err refusal ≡ (step >>= f)
after-refusal step refusal f e = ap (λ made. made >>= f) e

-- lines become an item
module _ (item : Item) (lines more : List ℕ) (line : ℕ) (items : List Item) where
  pub lines-next : (next : List Item) → lines ≡ line ∷ more → Ok next ≡ set_line line item items → set_lines item more next ≡ set_lines item lines items
  unfolding set_lines
  lines-next next l done =
      after-step (set_line line item items) next (λ made. set_lines item more made) done ∙ sym (ap (λ ls. set_lines item ls items) l)

  pub lines-refused : (refusal : BlockRefusal) → lines ≡ line ∷ more → Err refusal ≡ set_line line item items → Err refusal ≡ set_lines item lines items
  unfolding set_lines
  lines-refused refusal l done =
      after-refusal (set_line line item items) refusal (λ made. set_lines item more made) done ∙ sym (ap (λ ls. set_lines item ls items) l)

pub lines-none : (item : Item) (lines : List ℕ) (items : List Item) → lines ≡ [] → set_lines item lines items ≡ Ok items
unfolding set_lines
lines-none item lines items e = ap (λ ls. set_lines item ls items) e

-- lines lead to others
module _ (lines more : List Redirect) (line : Redirect) (items : List Item) where
  pub redirects-next : (next : List Item) → lines ≡ line ∷ more → Ok next ≡ redirect_line line items → redirect_lines more next ≡ redirect_lines lines items
  unfolding redirect_lines
  redirects-next next l done =
      after-step (redirect_line line items) next (λ made. redirect_lines more made) done ∙ sym (ap (λ ls. redirect_lines ls items) l)

  pub redirects-refused : (refusal : BlockRefusal) → lines ≡ line ∷ more → Err refusal ≡ redirect_line line items → Err refusal ≡ redirect_lines lines items
  unfolding redirect_lines
  redirects-refused refusal l done =
      after-refusal (redirect_line line items) refusal (λ made. redirect_lines more made) done ∙ sym (ap (λ ls. redirect_lines ls items) l)

pub redirects-none : (lines : List Redirect) (items : List Item) → lines ≡ [] → redirect_lines lines items ≡ Ok items
unfolding redirect_lines
redirects-none lines items e = ap (λ ls. redirect_lines ls items) e

-- the tuples of a plan's lines are frozen
module _ (plan : FreezePlan) (lines more : List ℕ) (line : ℕ) (items : List Item) where
  pub frozen-next : (next : List Item) → lines ≡ line ∷ more → Ok next ≡ change_head line (λ head. frozen plan.xmax.0 plan.mask2 plan.mask head) items → freeze_lines plan more next ≡ freeze_lines plan lines items
  unfolding freeze_lines
  frozen-next next l done =
      after-step (change_head line (λ head. frozen plan.xmax.0 plan.mask2 plan.mask head) items) next (λ made. freeze_lines plan more made) done
      ∙ sym (ap (λ ls. freeze_lines plan ls items) l)

  pub frozen-refused : (refusal : BlockRefusal) → lines ≡ line ∷ more → Err refusal ≡ change_head line (λ head. frozen plan.xmax.0 plan.mask2 plan.mask head) items → Err refusal ≡ freeze_lines plan lines items
  unfolding freeze_lines
  frozen-refused refusal l done =
      after-refusal (change_head line (λ head. frozen plan.xmax.0 plan.mask2 plan.mask head) items) refusal (λ made. freeze_lines plan more made) done
      ∙ sym (ap (λ ls. freeze_lines plan ls items) l)

pub frozen-none : (plan : FreezePlan) (lines : List ℕ) (items : List Item) → lines ≡ [] → freeze_lines plan lines items ≡ Ok items
unfolding freeze_lines
frozen-none plan lines items e = ap (λ ls. freeze_lines plan ls items) e

-- plans, one after the other
module _ (plans more : List FreezePlan) (plan : FreezePlan) (items : List Item) where
  pub plans-next : (next : List Item) → plans ≡ plan ∷ more → Ok next ≡ freeze_lines plan plan.lines items → freeze more next ≡ freeze plans items
  unfolding freeze
  plans-next next l done =
      after-step (freeze_lines plan plan.lines items) next (λ made. freeze more made) done ∙ sym (ap (λ ls. freeze ls items) l)

  pub plans-refused : (refusal : BlockRefusal) → plans ≡ plan ∷ more → Err refusal ≡ freeze_lines plan plan.lines items → Err refusal ≡ freeze plans items
  unfolding freeze
  plans-refused refusal l done =
      after-refusal (freeze_lines plan plan.lines items) refusal (λ made. freeze more made) done ∙ sym (ap (λ ls. freeze ls items) l)

pub plans-none : (plans : List FreezePlan) (items : List Item) → plans ≡ [] → freeze plans items ≡ Ok items
unfolding freeze
plans-none plans items e = ap (λ ls. freeze ls items) e
