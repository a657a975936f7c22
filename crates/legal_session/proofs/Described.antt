-- The table that a name names is the first that has its file.
use Rattle.std.proofs.Common.{◌≡◌, ℕ, suc, ◌+◌, ◌<◌, Bool, true, false, not, ◌&&◌, cond, nat_lt, List, [], ◌∷◌, length, map, Option, Some, None, Ok, arith, refl, ap, ◌∙◌, if◌then◌else◌}
use Rattle.std.proofs.lemmas.Bool.{eq-eqb, lt-ltb}
use Rattle.std.specs.Prelude.{◌==◌, slice_get, unwrap_or}
use Rattle.std.specs.List.{position_or_len}
use Rattle.pg_types.specs.declared.names.Locator.{Locator}
use Rattle.heap_redo.specs.Redone.{table_of}
use Rattle.table_schema.specs.Description.{Description, DescribedTable, first_that, has_file, is_named, locator_in, locators, table_at}
use Rattle.table_schema.specs.Laws.{TablesAreApart}
use Rattle.table_schema.specs.Reading.{Answers}
use Rattle.table_schema.specs.Tables.{file_of, nameless, number_named}
use Rattle.pg_types.specs.Locators.{same_locator}

-- the first that passes a test is there
record IsAt {A : Type 0} (test : A → Bool) (k n : ℕ) (xs : List A) : Type 0 where
  place : ℕ
  element : A
  number : n ≡ k + place
  there : slice_get xs place ≡ Some element

found_at :
    {A : Type 0} (test : A → Bool) (k n : ℕ) (xs : List A) → first_that test k xs ≡ Some n → IsAt test k n xs
found_at test k n [] e = cc
found_at test k n (x ∷ xs) e =
    by (test x) (λ later. found_at test (k + 1) n xs later) e
  where
    one : ◌≡◌ {A = Option ℕ} (Some k) (Some n) → k ≡ n
    one e = cc

    by :
        (is : Bool) → (first_that test (k + 1) xs ≡ Some n → IsAt test (k + 1) n xs)
        → (if is then Some k else first_that test (k + 1) xs) ≡ Some n → IsAt test k n (x ∷ xs)
    by true later e = let same = one e in record { place = 0; element = x; number = omega (arith, same); there = refl }
    by false later e =
        let at = later e in
        let number = at.number in
        record { place = suc at.place; element = at.element; number = omega (arith, number); there = at.there }

-- and its place among what is made of each, by a test that says the same, is the same
abbrev IsPlace : {B : Type 0} → (B → Bool) → ℕ → ℕ → List B → Type 0
IsPlace passes k n ys = (n ≡ k + position_or_len passes ys) × (position_or_len passes ys < length ys)

module _ {A B : Type 0} (test : A → Bool) (passes : B → Bool) (made : A → B) (same : (x : A) → passes (made x) ≡ test x) where
  placed_at : (k n : ℕ) (xs : List A) → first_that test k xs ≡ Some n → IsPlace passes k n (map made xs)
  placed_at k n [] e = cc
  placed_at k n (x ∷ xs) e =
      by (test x) (passes (made x)) (same x) (λ later. placed_at (k + 1) n xs later) e
    where
      one : ◌≡◌ {A = Option ℕ} (Some k) (Some n) → k ≡ n
      one e = cc

      here : (is : Bool) → is ≡ true → cond (not is) (1 + position_or_len passes (map made xs)) 0 ≡ 0
      here true e = refl
      here false e = cc

      further :
          (is : Bool) → is ≡ false
          → cond (not is) (1 + position_or_len passes (map made xs)) 0 ≡ 1 + position_or_len passes (map made xs)
      further true e = cc
      further false e = refl

      by :
          (is other : Bool) → other ≡ is → (first_that test (k + 1) xs ≡ Some n → IsPlace passes (k + 1) n (map made xs))
          → (if is then Some k else first_that test (k + 1) xs) ≡ Some n
          → (n ≡ k + cond (not other) (1 + position_or_len passes (map made xs)) 0)
          × (cond (not other) (1 + position_or_len passes (map made xs)) 0 < suc (length (map made xs)))
      by true other o later e =
          let number = one e in
          let place = here other o in
          (omega (arith, number, place), omega (arith, place))
      by false other o later e =
          let (number, inside) = later e in
          let place = further other o in
          (omega (arith, number, place), omega (arith, inside, place))

one_more : (a b n : ℕ) → a ≡ b → a < n → cond (nat_lt a n) (Some a) None ≡ Some b
one_more a b n e less = ap (λ (is : Bool). cond is (Some a) None) (lt-ltb a n less) ∙ ap Some e

same_file :
    (database file : ℕ) (table : DescribedTable)
    → same_locator (locator_in database table) (record { space = 1663; db = database; rel = file }) ≡ has_file file table
same_file database file table = ap (λ (is : Bool). is && (table.file == file)) (eq-eqb database database refl)

-- where the first table with a file is, there is the file
by_file :
    (tables : Description) (file number : ℕ) → first_that (has_file file) 0 tables.tables ≡ Some number
    → table_of (locators tables) (record { space = 1663; db = tables.database; rel = file }) ≡ Some number
by_file tables file number e =
    let at : Locator = record { space = 1663; db = tables.database; rel = file } in
    let (counts, inside) =
    placed_at (has_file file) (λ (l : Locator). same_locator l at) (locator_in tables.database) (same_file tables.database file) 0 number tables.tables e in
    one_more (position_or_len (λ (l : Locator). same_locator l at) (locators tables)) number (length (locators tables)) (omega (arith, counts)) inside

pub file_is_found :
    TablesAreApart → (text : List ℕ) (tables : Description) (name : List ℕ) (number : ℕ) → Answers text (Ok tables)
    → number_named tables name ≡ Some number → table_of (locators tables) (file_of tables number) ≡ Some number
file_is_found apart text tables name number answers named =
    let at = found_at (is_named name) 0 number tables.tables named in
    let counts = at.number in
    let there : table_at tables number ≡ Some at.element =
    ap (λ (n : ℕ). slice_get tables.tables n) (omega (arith, counts)) ∙ at.there in
    let found = apart text tables number at.element answers there in
    ap (λ (o : Option DescribedTable). table_of (locators tables) (locator_in tables.database (unwrap_or o nameless))) there
    ∙ by_file tables at.element.file number found.by_file
