-- What the blocks of a pool are after one of its tables changed.
use Rattle.std.proofs.Common.{◌-◌, Bool, true, false, cond, arith, ◌≡◌, ◌≢◌, inl, inr, ℕ, zero, suc, ◌+◌, ◌<◌, ◌≤◌, List, [], ◌∷◌, ◌++◌, ◌&&◌, length, take, replicate, ltb, eqb, nat_lt, nat_le, min, get_or, subst, vec_len, IsSome, is_some, IfSome, OnErr, Result, Ok, Err, Option, Some, None, slice_get, slice_set, refl, sym, ap, ◌∙◌}
use Rattle.std.proofs.Math.Path.{fun_ext}
use Rattle.std.specs.List.{All}
use Rattle.std.proofs.lemmas.Bool.{cases_eq, cases_lt, false≢true}
use Rattle.std.proofs.lemmas.Bool.Decides.{nat_tests}
use Rattle.std.proofs.lemmas.List.{take_all, length-append, length-replicate, length-take, set-append_right}
use Rattle.std.proofs.Math.ListN.{length-set}
use Rattle.std.proofs.lemmas.Option.{slice_get_past, slice_get_read, slice_get-get_or}
use Rattle.pg_types.specs.declared.names.Tag.{Tag}
use Rattle.page_store.specs.declared.table.Table.{Table}
use Rattle.page_store.specs.declared.pool.Pool.{Pool}
use Rattle.heap_page.specs.Page.{IsPage}
use Rattle.page_store.specs.declared.pool.PoolFault.{PoolFault}
use Rattle.page_store.specs.declared.pool.PoolFault.TheVariants.{BadPage}
use Rattle.page_store.specs.Lending.{Holds}
use Rattle.page_store.specs.Content.{page_answer, table_count, Blocks, zeros, extended, content, block_in, is_at, with_block, or_zeros, filled_below, truncated}

pub slice_get-set_same : {X : Type 0} → (xs : List X) (i : ℕ) (x : X) → i < length xs → slice_get (slice_set xs i x) i ≡ Some x
slice_get-set_same [] i x h = absurd (omega arith)
slice_get-set_same (y ∷ ys) zero x h = refl
slice_get-set_same (y ∷ ys) (suc i) x h = slice_get-set_same ys i x (omega arith)

pub slice_get-set_other : {X : Type 0} → (xs : List X) (i j : ℕ) (x : X) → j ≢ i → slice_get (slice_set xs i x) j ≡ slice_get xs j
slice_get-set_other [] i j x n = refl
slice_get-set_other (y ∷ ys) zero zero x n = absurd (n refl)
slice_get-set_other (y ∷ ys) zero (suc j) x n = refl
slice_get-set_other (y ∷ ys) (suc i) zero x n = refl
slice_get-set_other (y ∷ ys) (suc i) (suc j) x n = slice_get-set_other ys i j x (λ e. n (ap suc e))

-- past the end of a list nothing stands
slice_get-replicate : {X : Type 0} → (n i : ℕ) (x : X) → i < n → slice_get (replicate n x) i ≡ Some x
slice_get-replicate zero i x h = absurd (omega arith)
slice_get-replicate (suc n) zero x h = refl
slice_get-replicate (suc n) (suc i) x h = slice_get-replicate n i x (omega arith)

slice_get-append : {X : Type 0} → (xs ys : List X) (i : ℕ) → i < length xs → slice_get (xs ++ ys) i ≡ slice_get xs i
slice_get-append [] ys i h = absurd (omega arith)
slice_get-append (x ∷ xs) ys zero h = refl
slice_get-append (x ∷ xs) ys (suc i) h = slice_get-append xs ys i (omega arith)

slice_get-append_past : {X : Type 0} → (xs ys : List X) (i : ℕ) → length xs ≤ i → slice_get (xs ++ ys) i ≡ slice_get ys (i - length xs)
slice_get-append_past [] ys i h = ap (slice_get ys) (omega arith)
slice_get-append_past (x ∷ xs) ys zero h = absurd (omega arith)
slice_get-append_past (x ∷ xs) ys (suc i) h = slice_get-append_past xs ys i (omega arith) ∙ ap (slice_get ys) (omega arith)

is_some_or_zeros : (xs : List (List ℕ)) (i : ℕ) → i < length xs → or_zeros (slice_get xs i) ≡ slice_get xs i
is_some_or_zeros [] i h = absurd (omega arith)
is_some_or_zeros (x ∷ xs) zero h = refl
is_some_or_zeros (x ∷ xs) (suc i) h = is_some_or_zeros xs i (omega arith)

-- the blocks of a table past its end are zeros once it was extended
pub slice_get-extended_below : (pages : List (List ℕ)) (n block : ℕ) → block < n → slice_get (extended pages n) block ≡ or_zeros (slice_get pages block)
slice_get-extended_below pages n block h =
    elim (cases_lt block (length pages)) [
      | inl within ↦ slice_get-append pages _ block within ∙ sym (is_some_or_zeros pages block within)
      | inr past ↦ slice_get-append_past pages _ block past ∙ slice_get-replicate (n - length pages) (block - length pages) zeros (omega arith)
          ∙ sym (ap or_zeros (slice_get_past pages block past))
    ]

pub slice_get-extended_past : (pages : List (List ℕ)) (n block : ℕ) → n ≤ block → slice_get (extended pages n) block ≡ slice_get pages block
slice_get-extended_past pages n block h =
    elim (cases_lt block (length pages)) [
      | inl within ↦ slice_get-append pages _ block within
      | inr past ↦ slice_get_past (extended pages n) block (omega (arith, length-append {A = List ℕ}, length-replicate (n - length pages) zeros))
          ∙ sym (slice_get_past pages block past)
    ]

-- a test of a block's place
pub at-here : (tag : Tag) → is_at tag tag.table tag.block ≡ true
at-here tag = grind (arith, nat_tests)

pub at-other_table : (tag : Tag) (t b : ℕ) → t ≢ tag.table → is_at tag t b ≡ false
at-other_table tag t b n = grind (arith, nat_tests)

pub at-other_block : (tag : Tag) (t b : ℕ) → b ≢ tag.block → is_at tag t b ≡ false
at-other_block tag t b n = grind (arith, nat_tests)

pub with_block-here : (blocks : Blocks) (tag : Tag) (bytes : List ℕ) → with_block blocks tag bytes tag.table tag.block ≡ Some bytes
unfolding with_block
with_block-here blocks tag bytes = ap (λ v. cond v (Some bytes) (blocks tag.table tag.block)) (at-here tag)

pub with_block-other_table : (blocks : Blocks) (tag : Tag) (bytes : List ℕ) (t b : ℕ) → t ≢ tag.table → with_block blocks tag bytes t b ≡ blocks t b
unfolding with_block
with_block-other_table blocks tag bytes t b n = ap (λ v. cond v (Some bytes) (blocks t b)) (at-other_table tag t b n)

pub with_block-other_block : (blocks : Blocks) (tag : Tag) (bytes : List ℕ) (t b : ℕ) → b ≢ tag.block → with_block blocks tag bytes t b ≡ blocks t b
unfolding with_block
with_block-other_block blocks tag bytes t b n = ap (λ v. cond v (Some bytes) (blocks t b)) (at-other_block tag t b n)

below-last : (b : ℕ) (page : Option (List ℕ)) → b < 4294967295 → cond (nat_lt b 4294967295) page None ≡ page
below-last b page h = grind (arith, nat_tests)

pub filled-below : (blocks : Blocks) (tag : Tag) (b : ℕ) → b < tag.block → filled_below blocks tag tag.table b ≡ or_zeros (blocks tag.table b)
unfolding filled_below
filled-below blocks tag b h =
    let e : (eqb tag.table tag.table && ltb b tag.block) ≡ true = grind (arith, nat_tests) in
    ap (λ v. cond v (or_zeros (blocks tag.table b)) (blocks tag.table b)) e

pub filled-past : (blocks : Blocks) (tag : Tag) (b : ℕ) → tag.block ≤ b → filled_below blocks tag tag.table b ≡ blocks tag.table b
unfolding filled_below
filled-past blocks tag b h =
    let e : (eqb tag.table tag.table && ltb b tag.block) ≡ false = grind (arith, nat_tests) in
    ap (λ v. cond v (or_zeros (blocks tag.table b)) (blocks tag.table b)) e

pub filled-other : (blocks : Blocks) (tag : Tag) (t b : ℕ) → t ≢ tag.table → filled_below blocks tag t b ≡ blocks t b
unfolding filled_below
filled-other blocks tag t b h =
    let e : (eqb t tag.table && ltb b tag.block) ≡ false = grind (arith, nat_tests) in
    ap (λ v. cond v (or_zeros (blocks t b)) (blocks t b)) e

-- a block of a table
abbrev pub block_of : Table → ℕ → Option (List ℕ)
block_of table block = cond (nat_lt block 4294967295) (slice_get table.pages.items block) None

pub content-at : (pool : Pool) (t b : ℕ) (table : Table) → slice_get pool.tables.items t ≡ Some table → content pool t b ≡ block_of table b
unfolding content
content-at pool t b table here = ap (λ found. cond (nat_lt b 4294967295) (block_in found b) None) here

pub block_of-below : (table : Table) (block : ℕ) → block < 4294967295 → block_of table block ≡ slice_get table.pages.items block
block_of-below table block h = grind (arith, nat_tests)

pub content-apart : (old new : Pool) (t b : ℕ) → slice_get new.tables.items t ≡ slice_get old.tables.items t → content new t b ≡ content old t b
unfolding content
content-apart old new t b e = ap (λ found. cond (nat_lt b 4294967295) (block_in found b) None) e

-- one table changes, and the block of the tag is another in it
pub record SetsBlock (old new : Pool) (tag : Tag) (table changed : Table) (bytes : List ℕ) : Type 0 where
  pub tables : new.tables.items ≡ slice_set old.tables.items tag.table changed
  pub here : slice_get old.tables.items tag.table ≡ Some table
  pub pages : changed.pages.items ≡ slice_set table.pages.items tag.block bytes
  pub in_tables : tag.table < length old.tables.items
  pub in_table : tag.block < length table.pages.items
  pub below : tag.block < 4294967295

found : (old new : Pool) (tag : Tag) (table changed : Table) (bytes : List ℕ) → SetsBlock old new tag table changed bytes → slice_get new.tables.items tag.table ≡ Some changed
found old new tag table changed bytes h =
    ap (λ tables. slice_get tables tag.table) h.tables ∙ slice_get-set_same old.tables.items tag.table changed h.in_tables

set-here : (old new : Pool) (tag : Tag) (table changed : Table) (bytes : List ℕ) → SetsBlock old new tag table changed bytes → content new tag.table tag.block ≡ Some bytes
set-here old new tag table changed bytes h =
    content-at new tag.table tag.block changed (found old new tag table changed bytes h)
    ∙ block_of-below changed tag.block h.below
    ∙ ap (λ pages. slice_get pages tag.block) h.pages
    ∙ slice_get-set_same table.pages.items tag.block bytes h.in_table

set-other : (old new : Pool) (tag : Tag) (table changed : Table) (bytes : List ℕ) → SetsBlock old new tag table changed bytes → (b : ℕ) → b ≢ tag.block → content new tag.table b ≡ content old tag.table b
set-other old new tag table changed bytes h b other =
    content-at new tag.table b changed (found old new tag table changed bytes h)
    ∙ ap (λ page. cond (nat_lt b 4294967295) page None) (ap (λ pages. slice_get pages b) h.pages ∙ slice_get-set_other table.pages.items tag.block b bytes other)
    ∙ sym (content-at old tag.table b table h.here)

pub content-sets : (old new : Pool) (tag : Tag) (table changed : Table) (bytes : List ℕ) → SetsBlock old new tag table changed bytes → content new ≡ with_block (content old) tag bytes
content-sets old new tag table changed bytes h =
    fun_ext (λ t. fun_ext (λ b. elim (cases_eq t tag.table) [
      | inl same_table ↦ elim (cases_eq b tag.block) [
        | inl same_block ↦ ap (λ x. content new x b) same_table ∙ ap (content new tag.table) same_block
            ∙ set-here old new tag table changed bytes h
            ∙ sym (ap (λ x. with_block (content old) tag bytes x b) same_table ∙ ap (with_block (content old) tag bytes tag.table) same_block ∙ with_block-here (content old) tag bytes)
        | inr other ↦ ap (λ x. content new x b) same_table
            ∙ set-other old new tag table changed bytes h b other
            ∙ sym (ap (λ x. with_block (content old) tag bytes x b) same_table ∙ with_block-other_block (content old) tag bytes tag.table b other)
      ]
      | inr other ↦ content-apart old new t b (ap (λ tables. slice_get tables t) h.tables ∙ slice_get-set_other old.tables.items tag.table t changed other)
          ∙ sym (with_block-other_table (content old) tag bytes t b other)
    ]))

-- a table that was read
pub table-found : (pool : Pool) (t : ℕ) (table : Table) → t < vec_len pool.tables → table ≡ get_or pool.tables.items t table → slice_get pool.tables.items t ≡ Some table
table-found pool t table h e = slice_get_read pool.tables.items (vec_len pool.tables) t table pool.tables.ok.0 h e

pub page-found : (table : Table) (b : ℕ) (bytes : List ℕ) → b < vec_len table.pages → bytes ≡ get_or table.pages.items b bytes → slice_get table.pages.items b ≡ Some bytes
page-found table b bytes h e = slice_get_read table.pages.items (vec_len table.pages) b bytes table.pages.ok.0 h e

pub missing-last : (pool : Pool) (t b : ℕ) → 4294967295 ≤ b → content pool t b ≡ None
unfolding content
missing-last pool t b h = grind (arith, nat_tests)

block_of-past : (table : Table) (b : ℕ) → vec_len table.pages ≤ b → block_of table b ≡ None
block_of-past table b h =
    ap (λ page. cond (nat_lt b 4294967295) page None) (slice_get_past table.pages.items b (omega (arith, table.pages.ok.0)))
    ∙ grind (arith, nat_tests)

pub missing-past : (pool : Pool) (t b : ℕ) (table : Table) → slice_get pool.tables.items t ≡ Some table → vec_len table.pages ≤ b → content pool t b ≡ None
missing-past pool t b table here h = content-at pool t b table here ∙ block_of-past table b h

pub there : (pool : Pool) (t b : ℕ) (table : Table) (bytes : List ℕ) → slice_get pool.tables.items t ≡ Some table → b < 4294967295 → slice_get table.pages.items b ≡ Some bytes → content pool t b ≡ Some bytes
there pool t b table bytes here h page = content-at pool t b table here ∙ block_of-below table b h ∙ page

is_some-none : (block : Option (List ℕ)) → block ≡ None → IsSome block → ⊥
is_some-none block e h = false≢true (sym (ap is_some e) ∙ h)

is_some-some : (block : Option (List ℕ)) (bytes : List ℕ) → block ≡ Some bytes → IsSome block
is_some-some block bytes e = ap is_some e

-- the table has exactly the blocks below the number of its pages
pub has-below : (pool : Pool) (t b n : ℕ) (table : Table) → slice_get pool.tables.items t ≡ Some table → n ≡ min (vec_len table.pages) 4294967295 → IsSome (content pool t b) → b < n
has-below pool t b n table here e h =
    elim (cases_lt b (vec_len table.pages)) [
      | inl within ↦ elim (cases_lt b 4294967295) [
        | inl below ↦ omega arith
        | inr last ↦ absurd (is_some-none (content pool t b) (missing-last pool t b last) h)
      ]
      | inr past ↦ absurd (is_some-none (content pool t b) (missing-past pool t b table here past) h)
    ]

pub below-has : (pool : Pool) (t b n : ℕ) (table : Table) → slice_get pool.tables.items t ≡ Some table → n ≡ min (vec_len table.pages) 4294967295 → b < n → IsSome (content pool t b)
below-has pool t b n table here e h =
    is_some-some (content pool t b) (get_or table.pages.items b [])
    (there pool t b table (get_or table.pages.items b []) here (omega arith) (slice_get-get_or table.pages.items b [] (omega (arith, table.pages.ok.0))))

pub resized : (pages : List (List ℕ)) (n len : ℕ) → len ≡ length pages → length pages ≤ n → take n pages ++ replicate (n - len) zeros ≡ extended pages n
resized pages n len e h =
    ap (λ first. first ++ replicate (n - len) zeros) (take_all n pages h) ∙ ap (λ l. pages ++ replicate (n - l) zeros) e

block_in-empty : (tables : List Table) (t b : ℕ) → All (λ (table : Table). length table.pages.items ≡ 0) tables → block_in (slice_get tables t) b ≡ None
block_in-empty [] t b h = refl
block_in-empty (x ∷ xs) zero b h = slice_get_past x.pages.items b (omega (arith, h 0 x (omega arith)))
block_in-empty (x ∷ xs) (suc t) b h = block_in-empty xs t b (λ k d q. h (suc k) d (omega arith))

pub content-empty : (pool : Pool) (t b : ℕ) → All (λ (table : Table). length table.pages.items ≡ 0) pool.tables.items → content pool t b ≡ None
unfolding content
content-empty pool t b h = ap (λ block. cond (nat_lt b 4294967295) block None) (block_in-empty pool.tables.items t b h) ∙ grind (arith, nat_tests)

again : (v : Bool) (a b : List ℕ) (block : Option (List ℕ)) → cond v (Some b) (cond v (Some a) block) ≡ cond v (Some b) block
again true a b block = refl
again false a b block = refl

-- with_block twice at one tag
pub with_block-again : (blocks : Blocks) (tag : Tag) (a b : List ℕ) → with_block (with_block blocks tag a) tag b ≡ with_block blocks tag b
unfolding with_block
with_block-again blocks tag a b = fun_ext (λ t. fun_ext (λ n. again (is_at tag t n) a b (blocks t n)))

pub same_some : {X : Type 0} → (a b : X) → Some a ≡ Some b → a ≡ b
same_some a b e = cc

-- a table is found once
pub found-within : (pool : Pool) (tag : Tag) (table : Table) → slice_get pool.tables.items tag.table ≡ Some table → tag.block < length table.pages.items → (other : Table) → slice_get pool.tables.items tag.table ≡ Some other → tag.block < vec_len other.pages
found-within pool tag table here h other found =
    let P : Table → Type 0 = λ (x : Table). tag.block < vec_len x.pages in
    subst P (same_some table other (sym here ∙ found)) (omega (arith, table.pages.ok.0))

pub within-found : (pool : Pool) (tag : Tag) (table other : Table) → slice_get pool.tables.items tag.table ≡ Some table → tag.block < vec_len table.pages → slice_get pool.tables.items tag.table ≡ Some other → tag.block < vec_len other.pages
within-found pool tag table other here h found =
    let P : Table → Type 0 = λ (x : Table). tag.block < vec_len x.pages in
    subst P (same_some table other (sym here ∙ found)) h

-- the page of a block, where it is one
pub is_page-at : (block : Option (List ℕ)) (bytes : List ℕ) → block ≡ Some bytes → IfSome block IsPage → IsPage bytes
is_page-at block bytes e h = let P : Option (List ℕ) → Type 0 = λ b. IfSome b IsPage in subst P e h

pub answered-page : (block : Option (List ℕ)) (bytes : List ℕ) → block ≡ Some bytes → IsPage bytes → Ok bytes ≡ page_answer block
unfolding page_answer
answered-page block bytes e h =
    let answer : Bool → Result (List ℕ) PoolFault = λ v. cond v (Ok bytes) (Err BadPage) in
    sym (ap page_answer e ∙ ap answer h)

-- the pool holds another content of one block
pub holds-block : (old new : Pool) (tag : Tag) (table changed : Table) (bytes : List ℕ) → SetsBlock old new tag table changed bytes → vec_len new.tables ≡ vec_len old.tables → Holds old new (with_block (content old) tag bytes)
unfolding table_count
holds-block old new tag table changed bytes h len =
    record { blocks = content-sets old new tag table changed bytes h; tables = len }

-- the tag's table is extended up to the tag's block, which becomes these bytes
pub record Freshens (old new : Pool) (tag : Tag) (table changed : Table) (bytes : List ℕ) : Type 0 where
  pub tables : new.tables.items ≡ slice_set old.tables.items tag.table changed
  pub here : slice_get old.tables.items tag.table ≡ Some table
  pub pages : changed.pages.items ≡ slice_set (extended table.pages.items (tag.block + 1)) tag.block bytes
  pub in_tables : tag.table < length old.tables.items
  pub below : tag.block < 4294967295

module _ (old new : Pool) (tag : Tag) (table changed : Table) (bytes : List ℕ) (h : Freshens old new tag table changed bytes) where
  pages-long : tag.block < length (extended table.pages.items (tag.block + 1))
  pages-long = omega (arith, length-append {A = List ℕ}, length-replicate (tag.block + 1 - length table.pages.items) zeros)

  pub fresh-found : slice_get new.tables.items tag.table ≡ Some changed
  fresh-found = ap (λ tables. slice_get tables tag.table) h.tables ∙ slice_get-set_same old.tables.items tag.table changed h.in_tables

  pub fresh-long : tag.block < length changed.pages.items
  fresh-long = omega (arith, pages-long, ap length h.pages ∙ length-set (extended table.pages.items (tag.block + 1)) tag.block bytes)

  fresh-here : content new tag.table tag.block ≡ Some bytes
  fresh-here =
      content-at new tag.table tag.block changed fresh-found
      ∙ block_of-below changed tag.block h.below
      ∙ ap (λ pages. slice_get pages tag.block) h.pages
      ∙ slice_get-set_same (extended table.pages.items (tag.block + 1)) tag.block bytes pages-long

  fresh-other : (b : ℕ) → b ≢ tag.block → content new tag.table b ≡ cond (nat_lt b 4294967295) (slice_get (extended table.pages.items (tag.block + 1)) b) None
  fresh-other b other =
      content-at new tag.table b changed fresh-found
      ∙ ap (λ page. cond (nat_lt b 4294967295) page None) (ap (λ pages. slice_get pages b) h.pages ∙ slice_get-set_other (extended table.pages.items (tag.block + 1)) tag.block b bytes other)

  fresh-below : (b : ℕ) → b < tag.block → content new tag.table b ≡ or_zeros (content old tag.table b)
  fresh-below b below =
      fresh-other b (omega arith)
      ∙ below-last b (slice_get (extended table.pages.items (tag.block + 1)) b) (omega (arith, h.below))
      ∙ slice_get-extended_below table.pages.items (tag.block + 1) b (omega arith)
      ∙ ap or_zeros (sym (content-at old tag.table b table h.here ∙ block_of-below table b (omega (arith, h.below))))

  fresh-past : (b : ℕ) → tag.block < b → content new tag.table b ≡ content old tag.table b
  fresh-past b past =
      fresh-other b (omega arith)
      ∙ ap (λ page. cond (nat_lt b 4294967295) page None) (slice_get-extended_past table.pages.items (tag.block + 1) b (omega arith))
      ∙ sym (content-at old tag.table b table h.here)

  fresh-table : (b : ℕ) → content new tag.table b ≡ with_block (filled_below (content old) tag) tag bytes tag.table b
  fresh-table b =
      elim (cases_eq b tag.block) [
        | inl same ↦ ap (content new tag.table) same ∙ fresh-here
            ∙ sym (ap (with_block (filled_below (content old) tag) tag bytes tag.table) same ∙ with_block-here (filled_below (content old) tag) tag bytes)
        | inr other ↦ elim (cases_lt b tag.block) [
          | inl below ↦ fresh-below b below
              ∙ sym (with_block-other_block (filled_below (content old) tag) tag bytes tag.table b other ∙ filled-below (content old) tag b below)
          | inr past ↦ fresh-past b (omega (arith, other, past))
              ∙ sym (with_block-other_block (filled_below (content old) tag) tag bytes tag.table b other ∙ filled-past (content old) tag b past)
        ]
      ]

  pub content-freshens : content new ≡ with_block (filled_below (content old) tag) tag bytes
  content-freshens =
      fun_ext (λ t. fun_ext (λ b. elim (cases_eq t tag.table) [
        | inl same ↦ ap (λ x. content new x b) same ∙ fresh-table b ∙ sym (ap (λ x. with_block (filled_below (content old) tag) tag bytes x b) same)
        | inr other ↦ content-apart old new t b (ap (λ tables. slice_get tables t) h.tables ∙ slice_get-set_other old.tables.items tag.table t changed other)
            ∙ sym (with_block-other_table (filled_below (content old) tag) tag bytes t b other ∙ filled-other (content old) tag t b other)
      ]))

-- one table has the same pages as before
pub content-same : (old new : Pool) (t : ℕ) (table changed : Table) → new.tables.items ≡ slice_set old.tables.items t changed → slice_get old.tables.items t ≡ Some table → changed.pages.items ≡ table.pages.items → t < length old.tables.items → content new ≡ content old
content-same old new t table changed tables here pages in_tables =
    fun_ext (λ x. fun_ext (λ b. elim (cases_eq x t) [
      | inl same ↦ ap (λ n. content new n b) same
          ∙ content-at new t b changed (ap (λ ts. slice_get ts t) tables ∙ slice_get-set_same old.tables.items t changed in_tables)
          ∙ ap (λ ps. cond (nat_lt b 4294967295) (slice_get ps b) None) pages
          ∙ sym (ap (λ n. content old n b) same ∙ content-at old t b table here)
      | inr other ↦ content-apart old new x b (ap (λ ts. slice_get ts x) tables ∙ slice_get-set_other old.tables.items t x changed other)
    ]))

pub on_err : {A E P : Type 0} → (r : Result A E) → P → OnErr r P
on_err (Ok x) p = tt
on_err (Err e) p = p

-- a page that is pushed stands where the table would have been extended to
pub pushed_last : (pages pushed : List (List ℕ)) (block : ℕ) (page : List ℕ) → length pages ≡ block → pushed ≡ pages ++ page ∷ [] → pushed ≡ slice_set (extended pages (block + 1)) block page
pushed_last pages pushed block page size is =
    let one : block + 1 - length pages ≡ 1 = omega (arith, size) in
    let none : block - length pages ≡ 0 = omega (arith, size) in
    is ∙ sym (ap (λ (n : ℕ). slice_set (pages ++ replicate n zeros) block page) one
    ∙ (set-append_right pages (zeros ∷ []) (length pages) block page refl (omega (arith, size)) ∙ ap (λ (n : ℕ). pages ++ slice_set (zeros ∷ []) n page) none))

-- a list that is cut has nothing from there on, and all before
slice_get-take_below : {X : Type 0} → (n i : ℕ) (xs : List X) → i < n → slice_get (take n xs) i ≡ slice_get xs i
slice_get-take_below zero i xs h = absurd (omega arith)
slice_get-take_below (suc n) i [] h = refl
slice_get-take_below (suc n) zero (x ∷ xs) h = refl
slice_get-take_below (suc n) (suc i) (x ∷ xs) h = slice_get-take_below n i xs (omega arith)

truncated-other : (blocks : Blocks) (number count t b : ℕ) → t ≢ number → truncated blocks number count t b ≡ blocks t b
unfolding truncated
truncated-other blocks number count t b h =
    let e : (eqb t number && nat_le count b) ≡ false = grind (arith, nat_tests) in
    ap (λ v. cond v None (blocks t b)) e

truncated-below : (blocks : Blocks) (number count b : ℕ) → b < count → truncated blocks number count number b ≡ blocks number b
unfolding truncated
truncated-below blocks number count b h =
    let e : (eqb number number && nat_le count b) ≡ false = grind (arith, nat_tests) in
    ap (λ v. cond v None (blocks number b)) e

truncated-past : (blocks : Blocks) (number count b : ℕ) → count ≤ b → truncated blocks number count number b ≡ None
unfolding truncated
truncated-past blocks number count b h =
    let e : (eqb number number && nat_le count b) ≡ true = grind (arith, nat_tests) in
    ap (λ v. cond v None (blocks number b)) e

none-either : (v : Bool) → cond v (let none : Option (List ℕ) = None in none) None ≡ None
none-either true = refl
none-either false = refl

-- one table is cut
module _ (old new : Pool) (number count : ℕ) (table changed : Table)
    (tables : new.tables.items ≡ slice_set old.tables.items number changed)
    (here : slice_get old.tables.items number ≡ Some table)
    (pages : changed.pages.items ≡ take count table.pages.items)
    (in_tables : number < length old.tables.items) where
  cut-block : (b : ℕ) → content new number b ≡ cond (nat_lt b 4294967295) (slice_get (take count table.pages.items) b) None
  cut-block b =
      content-at new number b changed (ap (λ ts. slice_get ts number) tables ∙ slice_get-set_same old.tables.items number changed in_tables)
      ∙ ap (λ ps. cond (nat_lt b 4294967295) (slice_get ps b) None) pages

  cut-table : (b : ℕ) → content new number b ≡ truncated (content old) number count number b
  cut-table b =
      elim (cases_lt b count) [
        | inl below ↦ cut-block b
            ∙ ap (λ page. cond (nat_lt b 4294967295) page None) (slice_get-take_below count b table.pages.items below)
            ∙ sym (truncated-below (content old) number count b below ∙ content-at old number b table here)
        | inr past ↦ cut-block b
            ∙ ap (λ page. cond (nat_lt b 4294967295) page None) (slice_get_past (take count table.pages.items) b (omega (arith, past, length-take count table.pages.items)))
            ∙ none-either (nat_lt b 4294967295)
            ∙ sym (truncated-past (content old) number count b past)
      ]

  pub content-cut : content new ≡ truncated (content old) number count
  content-cut =
      fun_ext (λ t. fun_ext (λ b. elim (cases_eq t number) [
        | inl same ↦ ap (λ x. content new x b) same ∙ cut-table b ∙ sym (ap (λ x. truncated (content old) number count x b) same)
        | inr other ↦ content-apart old new t b (ap (λ ts. slice_get ts t) tables ∙ slice_get-set_other old.tables.items number t changed other)
            ∙ sym (truncated-other (content old) number count t b other)
      ]))
