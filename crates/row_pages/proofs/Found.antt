-- The rows that a scan finds on the pages of a table, line by line and block by block, and that they are in place order.
use Rattle.std.proofs.Common.{◌≡◌, ℕ, zero, suc, ◌+◌, ◌<◌, ◌≤◌, Bool, true, false, cond, List, [], ◌∷◌, ◌++◌, Option, Some, None, arith, refl, sym, ap, ◌∙◌, subst, inl, inr}
use Rattle.std.specs.List.{filter}
use Rattle.std.proofs.lemmas.Bool.{cases_Bool, cases_eq, cond_both, ne_eqb, eq-eqb}
use Rattle.std.proofs.lemmas.List.{append-nil}
use Rattle.std.proofs.lemmas.List.Elements.{filter-append}
use Rattle.heap_page.specs.Item.{Item}
use Rattle.page_store.specs.Seen.{Seen, absent, bad_block, seen_page}
use Rattle.row_model.specs.Versions.{Version, is_at, version_at}
use Rattle.row_model.specs.Shown.{count_at, AreApart}
use Rattle.row_model.specs.Rows.{IsBefore, IsBeforeAll, IsInPlaceOrder}
use Rattle.row_pages.specs.Pages.{is_in_block}
use Rattle.row_pages.proofs.Each.{Each, Stands, each-weaker, each-append, filter_all, filter_none}
use Rattle.row_pages.proofs.Places.{found_at, found_holds, at_place, count_head, count_rest}

-- a version that passes a test
abbrev pub row_in : (Version → Bool) → Option Version → List Version
row_in test None = []
row_in test (Some v) = cond (test v) (v ∷ []) []

-- those at the lines from this one on
unfoldable pub rows_on : (Version → Bool) → List Version → ℕ → ℕ → List Item → List Version
rows_on test vs block line [] = []
rows_on test vs block line (item ∷ items) =
    row_in test (version_at block line vs) ++ rows_on test vs block (line + 1) items

-- those of a block
unfoldable pub rows_in : (Version → Bool) → List Version → ℕ → Seen → List Version
rows_in test vs block absent = []
rows_in test vs block bad_block = []
rows_in test vs block (seen_page lsn items) = rows_on test vs block 1 items

-- those of the blocks below a number
unfoldable pub rows_below : (Version → Bool) → List Version → (ℕ → Seen) → ℕ → List Version
rows_below test vs blocks zero = []
rows_below test vs blocks (suc n) = rows_below test vs blocks n ++ rows_in test vs n (blocks n)

-- a place from this line of the block on
abbrev pub IsFrom : ℕ → ℕ → Version → Type 0
IsFrom block line v = (v.block ≡ block) × (line ≤ v.line)

abbrev pub IsOn : ℕ → ℕ → Version → Type 0
IsOn block line v = (v.block ≡ block) × (v.line ≡ line)

row_at :
    (test : Version → Bool) (block line : ℕ) (o : Option Version)
    → ((v : Version) → o ≡ Some v → IsOn block line v) → Each (IsOn block line) (row_in test o)
row_at test block line None stands = tt
row_at test block line (Some v) stands =
    cond_both (test v) (v ∷ []) [] (λ vs. Each (IsOn block line) vs) (λ e. (stands v refl, tt)) (λ e. tt)

pub row_on :
    (test : Version → Bool) (vs : List Version) (block line : ℕ)
    → Each (IsOn block line) (row_in test (version_at block line vs))
row_on test vs block line = row_at test block line (version_at block line vs) (found_at block line vs)

on_from : (block line : ℕ) (v : Version) → IsOn block line v → IsFrom block line v
on_from block line v (b, l) = (b, omega arith)

later_from : (block line : ℕ) (v : Version) → IsFrom block (line + 1) v → IsFrom block line v
later_from block line v (b, l) = (b, omega arith)

pub all_from :
    (test : Version → Bool) (vs : List Version) (block line : ℕ) (items : List Item)
    → Each (IsFrom block line) (rows_on test vs block line items)
unfolding rows_on
all_from test vs block line [] = tt
all_from test vs block line (item ∷ items) =
    each-append (IsFrom block line) (row_in test (version_at block line vs)) (rows_on test vs block (line + 1) items)
    (each-weaker (IsOn block line) (IsFrom block line) (row_in test (version_at block line vs)) (on_from block line)
    (row_on test vs block line))
    (each-weaker (IsFrom block (line + 1)) (IsFrom block line) (rows_on test vs block (line + 1) items)
    (later_from block line) (all_from test vs block (line + 1) items))

from_in : (block line : ℕ) (v : Version) → IsFrom block line v → v.block ≡ block
from_in block line v (b, l) = b

pub all_in_block :
    (test : Version → Bool) (vs : List Version) (block : ℕ) (seen : Seen)
    → Each (λ v. v.block ≡ block) (rows_in test vs block seen)
unfolding rows_in
all_in_block test vs block absent = tt
all_in_block test vs block bad_block = tt
all_in_block test vs block (seen_page lsn items) =
    each-weaker (IsFrom block 1) (λ v. v.block ≡ block) (rows_on test vs block 1 items) (from_in block 1)
    (all_from test vs block 1 items)

-- all of them hold their places
row_stands : (test : Version → Bool) (o : Option Version) → ((v : Version) → o ≡ Some v → Stands v) → Each Stands (row_in test o)
row_stands test None stands = tt
row_stands test (Some v) stands =
    cond_both (test v) (v ∷ []) [] (λ vs. Each Stands vs) (λ e. (stands v refl, tt)) (λ e. tt)

on_stand : (test : Version → Bool) (vs : List Version) (block line : ℕ) (items : List Item) → Each Stands (rows_on test vs block line items)
unfolding rows_on
on_stand test vs block line [] = tt
on_stand test vs block line (item ∷ items) =
    each-append Stands (row_in test (version_at block line vs)) (rows_on test vs block (line + 1) items)
    (row_stands test (version_at block line vs) (found_holds block line vs)) (on_stand test vs block (line + 1) items)

in_stand : (test : Version → Bool) (vs : List Version) (block : ℕ) (seen : Seen) → Each Stands (rows_in test vs block seen)
unfolding rows_in
in_stand test vs block absent = tt
in_stand test vs block bad_block = tt
in_stand test vs block (seen_page lsn items) = on_stand test vs block 1 items

pub below_stand : (test : Version → Bool) (vs : List Version) (blocks : ℕ → Seen) (n : ℕ) → Each Stands (rows_below test vs blocks n)
unfolding rows_below
below_stand test vs blocks zero = tt
below_stand test vs blocks (suc n) =
    each-append Stands (rows_below test vs blocks n) (rows_in test vs n (blocks n)) (below_stand test vs blocks n)
    (in_stand test vs n (blocks n))

below_next : (n : ℕ) (v : Version) → v.block < n → v.block < suc n
below_next n v h = omega arith

in_next : (n : ℕ) (v : Version) → v.block ≡ n → v.block < suc n
in_next n v h = omega arith

pub all_below :
    (test : Version → Bool) (vs : List Version) (blocks : ℕ → Seen) (n : ℕ)
    → Each (λ v. v.block < n) (rows_below test vs blocks n)
unfolding rows_below
all_below test vs blocks zero = tt
all_below test vs blocks (suc n) =
    each-append (λ v. v.block < suc n) (rows_below test vs blocks n) (rows_in test vs n (blocks n))
    (each-weaker (λ v. v.block < n) (λ v. v.block < suc n) (rows_below test vs blocks n) (below_next n)
    (all_below test vs blocks n))
    (each-weaker (λ v. v.block ≡ n) (λ v. v.block < suc n) (rows_in test vs n (blocks n)) (in_next n)
    (all_in_block test vs n (blocks n)))

-- place order
before_each : (v : Version) (us : List Version) → Each (λ u. IsBefore v u) us → IsBeforeAll v us
before_each v [] all = tt
before_each v (u ∷ us) (first, rest) = (first, before_each v us rest)

each_before : (v : Version) (us : List Version) → IsBeforeAll v us → Each (λ u. IsBefore v u) us
each_before v [] all = tt
each_before v (u ∷ us) (first, rest) = (first, each_before v us rest)

before_more :
    (v : Version) (us ws : List Version) → IsBeforeAll v us → Each (λ u. IsBefore v u) ws → IsBeforeAll v (us ++ ws)
before_more v [] ws all also = before_each v ws also
before_more v (u ∷ us) ws (first, rest) also = (first, before_more v us ws rest also)

-- what comes before and what comes after
order-append :
    (P Q : Version → Type 0) (us ws : List Version) → ((v w : Version) → P v → Q w → IsBefore v w) → Each P us
    → Each Q ws → IsInPlaceOrder us → IsInPlaceOrder ws → IsInPlaceOrder (us ++ ws)
order-append P Q [] ws f p q order also = also
order-append P Q (u ∷ us) ws f (first, rest) q (before, order) also = (
  before_more u us ws before (each-weaker Q (λ w. IsBefore u w) ws (λ w h. f u w first h) q),
  order-append P Q us ws f rest q order also,
)

line_before : (block line : ℕ) (v w : Version) → IsOn block line v → IsFrom block (line + 1) w → IsBefore v w
line_before block line v w (b, l) (c, m) = inr (b ∙ sym c, omega arith)

block_before : (n : ℕ) (v w : Version) → v.block < n → w.block ≡ n → IsBefore v w
block_before n v w b c = inl (omega arith)

row_order : (test : Version → Bool) (o : Option Version) → IsInPlaceOrder (row_in test o)
row_order test None = tt
row_order test (Some v) = cond_both (test v) (v ∷ []) [] IsInPlaceOrder (λ e. (tt, tt)) (λ e. tt)

on_order :
    (test : Version → Bool) (vs : List Version) (block line : ℕ) (items : List Item)
    → IsInPlaceOrder (rows_on test vs block line items)
unfolding rows_on
on_order test vs block line [] = tt
on_order test vs block line (item ∷ items) =
    order-append (IsOn block line) (IsFrom block (line + 1)) (row_in test (version_at block line vs))
    (rows_on test vs block (line + 1) items) (line_before block line) (row_on test vs block line)
    (all_from test vs block (line + 1) items) (row_order test (version_at block line vs))
    (on_order test vs block (line + 1) items)

in_order :
    (test : Version → Bool) (vs : List Version) (block : ℕ) (seen : Seen) → IsInPlaceOrder (rows_in test vs block seen)
unfolding rows_in
in_order test vs block absent = tt
in_order test vs block bad_block = tt
in_order test vs block (seen_page lsn items) = on_order test vs block 1 items

pub below_order :
    (test : Version → Bool) (vs : List Version) (blocks : ℕ → Seen) (n : ℕ)
    → IsInPlaceOrder (rows_below test vs blocks n)
unfolding rows_below
below_order test vs blocks zero = tt
below_order test vs blocks (suc n) =
    order-append (λ v. v.block < n) (λ v. v.block ≡ n) (rows_below test vs blocks n) (rows_in test vs n (blocks n))
    (block_before n) (all_below test vs blocks n) (all_in_block test vs n (blocks n)) (below_order test vs blocks n)
    (in_order test vs n (blocks n))

-- a list in place order has no place twice
not_there :
    (block line : ℕ) (v u : Version) → (v.block ≡ block) × (v.line ≡ line) → IsBefore v u
    → (u.block ≡ block) × (u.line ≡ line) → ⊥
not_there block line v u (b, l) (inl less) (c, m) = omega arith
not_there block line v u (b, l) (inr (same, less)) (c, m) = omega arith

none_after :
    (block line : ℕ) (v : Version) (us : List Version) → (v.block ≡ block) × (v.line ≡ line) → IsBeforeAll v us
    → count_at block line us ≡ 0
none_after block line v [] here all = refl
none_after block line v (u ∷ us) here (first, rest) =
    let none = none_after block line v us here rest in
    elim (cases_Bool (is_at block line u)) [
      | inl t ↦ absurd (not_there block line v u here first (at_place block line u t))
      | inr t ↦ omega (arith, count_rest block line u us t)
    ]

pub order_apart : (us : List Version) → IsInPlaceOrder us → AreApart us
order_apart [] order block line = omega arith
order_apart (v ∷ us) (before, order) block line =
    elim (cases_Bool (is_at block line v)) [
      | inl t ↦
          let none = none_after block line v us (at_place block line v t) before in
          omega (arith, count_head block line v us t)
      | inr t ↦
          let once = order_apart us order block line in
          omega (arith, count_rest block line v us t)
    ]

-- the rows of one block among those of all
in_it : (block : ℕ) (v : Version) → v.block ≡ block → is_in_block block v ≡ true
in_it block v e = eq-eqb v.block block e

in_another : (block n : ℕ) (v : Version) → block < n → v.block ≡ n → is_in_block block v ≡ false
in_another block n v less e = ne_eqb v.block block (λ f. omega arith)

in_lower : (block : ℕ) (v : Version) → v.block < block → is_in_block block v ≡ false
in_lower block v less = ne_eqb v.block block (λ f. omega arith)

none_of_lower :
    (test : Version → Bool) (vs : List Version) (blocks : ℕ → Seen) (block : ℕ)
    → filter (is_in_block block) (rows_below test vs blocks block) ≡ []
none_of_lower test vs blocks block =
    filter_none (is_in_block block) (rows_below test vs blocks block)
    (each-weaker (λ v. v.block < block) (λ v. is_in_block block v ≡ false) (rows_below test vs blocks block)
    (in_lower block) (all_below test vs blocks block))

own_of_block :
    (test : Version → Bool) (vs : List Version) (block : ℕ) (seen : Seen)
    → filter (is_in_block block) (rows_in test vs block seen) ≡ rows_in test vs block seen
own_of_block test vs block seen =
    filter_all (is_in_block block) (rows_in test vs block seen)
    (each-weaker (λ v. v.block ≡ block) (λ v. is_in_block block v ≡ true) (rows_in test vs block seen) (in_it block)
    (all_in_block test vs block seen))

none_of_other :
    (test : Version → Bool) (vs : List Version) (block n : ℕ) (seen : Seen) → block < n
    → filter (is_in_block block) (rows_in test vs n seen) ≡ []
none_of_other test vs block n seen less =
    filter_none (is_in_block block) (rows_in test vs n seen)
    (each-weaker (λ v. v.block ≡ n) (λ v. is_in_block block v ≡ false) (rows_in test vs n seen)
    (λ v e. in_another block n v less e) (all_in_block test vs n seen))

last_filtered :
    (test : Version → Bool) (vs : List Version) (blocks : ℕ → Seen) (block : ℕ)
    → filter (is_in_block block) (rows_below test vs blocks (suc block)) ≡ rows_in test vs block (blocks block)
unfolding rows_below
last_filtered test vs blocks block =
    filter-append (is_in_block block) (rows_below test vs blocks block) (rows_in test vs block (blocks block))
    ∙ ap (λ (us : List Version). us ++ filter (is_in_block block) (rows_in test vs block (blocks block)))
    (none_of_lower test vs blocks block)
    ∙ own_of_block test vs block (blocks block)

next_filtered :
    (test : Version → Bool) (vs : List Version) (blocks : ℕ → Seen) (n block : ℕ) → block < n
    → filter (is_in_block block) (rows_below test vs blocks (suc n))
    ≡ filter (is_in_block block) (rows_below test vs blocks n)
unfolding rows_below
next_filtered test vs blocks n block less =
    filter-append (is_in_block block) (rows_below test vs blocks n) (rows_in test vs n (blocks n))
    ∙ ap (λ (us : List Version). filter (is_in_block block) (rows_below test vs blocks n) ++ us)
    (none_of_other test vs block n (blocks n) less)
    ∙ append-nil (filter (is_in_block block) (rows_below test vs blocks n))

pub block_filtered :
    (test : Version → Bool) (vs : List Version) (blocks : ℕ → Seen) (n block : ℕ) → block < n
    → filter (is_in_block block) (rows_below test vs blocks n) ≡ rows_in test vs block (blocks block)
block_filtered test vs blocks zero block less = absurd (omega arith)
block_filtered test vs blocks (suc n) block less =
    elim (cases_eq block n) [
      | inl e ↦
          subst
          (λ (m : ℕ). filter (is_in_block block) (rows_below test vs blocks (suc m)) ≡ rows_in test vs block (blocks block)) e
          (last_filtered test vs blocks block)
      | inr other ↦
          next_filtered test vs blocks n block (omega arith) ∙ block_filtered test vs blocks n block (omega arith)
    ]
