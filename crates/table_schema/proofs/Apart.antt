-- The tables that a text describes are apart: each has a name, an oid and a file of its own.
use Rattle.std.proofs.Common.{◌≡◌, ℕ, zero, suc, ◌+◌, Bool, true, false, not, nat_le, List, [], ◌∷◌, ◌++◌, length, Option, Some, None, Result, Ok, Err, is_some, codes, ok_or, arith, refl, sym, ap, subst, ◌∙◌, ◌⊎◌, inl, inr, if◌then◌else◌}
use Rattle.std.specs.Prelude.{nat_eq, slice_get}
use Rattle.std.specs.Cmp.Lexicographic.{pointwise}
use Rattle.std.proofs.lemmas.Bool.{eq-eqb}
use Rattle.std.proofs.lemmas.Bool.Decides.{Decides-eqb}
use Rattle.std.proofs.lemmas.Slice.Eq.{slice_eq-Decides}
use Rattle.toml.specs.Data.{Items, no_items, item, Members, as_table}
use Rattle.table_schema.specs.declared.fault.Key.TheVariants.{Database, Table, Oid, File, Other}
use Rattle.table_schema.specs.declared.fault.SchemaFault.{SchemaFault}
use Rattle.table_schema.specs.declared.fault.SchemaFault.TheVariants.{Field, Twice, Many}
use Rattle.table_schema.specs.declared.members.Level.TheVariants.{Top, OfTable}
use Rattle.table_schema.specs.Description.{Description, DescribedTable, first_that, is_named, has_oid, has_file}
use Rattle.table_schema.specs.Laws.{TablesAreApart}
use Rattle.table_schema.specs.Reading.{◌>>=◌, AnswersUpTo, array_in, columns_in, count_items, described_by, description_in, has_other, name_in, number_in, table_in, table_of, tables_from}

-- each is the first that passes its own test
abbrev EachFirst : {A : Type 0} → (A → A → Bool) → List A → Type 0
EachFirst {A} test xs = (n : ℕ) (x : A) → slice_get xs n ≡ Some x → first_that (test x) 0 xs ≡ Some n

-- a choice that is the same on both sides
either_found :
    (is : Bool) (k : ℕ) (a b c d : Option ℕ) → (a ≡ c → b ≡ d) → (Some k ≡ c → Some k ≡ d) → (if is then Some k else a) ≡ c
    → (if is then Some k else b) ≡ d
either_found true k a b c d rest here e = here e
either_found false k a b c d rest here e = rest e

module _ {A : Type 0} (passes : A → Bool) where
  -- where one is found it is found in a longer list
  found_before : (k n : ℕ) (xs ys : List A) → first_that passes k xs ≡ Some n → first_that passes k (xs ++ ys) ≡ Some n
  found_before k n [] ys e = cc
  found_before k n (x ∷ xs) ys e =
      either_found (passes x) k (first_that passes (k + 1) xs) (first_that passes (k + 1) (xs ++ ys)) (Some n) (Some n)
      (found_before (k + 1) n xs ys) (λ here. here) e

  -- where none is found, and one more passes, that is found
  found_last :
      (k : ℕ) (xs : List A) (x : A) → first_that passes k xs ≡ None → passes x ≡ true
      → first_that passes k (xs ++ x ∷ []) ≡ Some (k + length xs)
  found_last k [] x e is = ap (λ (b : Bool). if b then Some k else None) is ∙ ap Some (omega arith)
  found_last k (y ∷ xs) x e is =
      either_found (passes y) k (first_that passes (k + 1) xs) (first_that passes (k + 1) (xs ++ x ∷ [])) None
      (Some (k + suc (length xs))) (λ none. found_last (k + 1) xs x none is ∙ ap Some (omega arith)) (λ here. cc) e

-- an element of a list with one more
in_longer :
    {A : Type 0} (xs : List A) (x y : A) (n : ℕ) → slice_get (xs ++ x ∷ []) n ≡ Some y
    → (slice_get xs n ≡ Some y) ⊎ ((n ≡ length xs) × (x ≡ y))
in_longer [] x y zero e = inr (refl, cc)
in_longer [] x y (suc n) e = cc
in_longer (z ∷ xs) x y zero e = inl e
in_longer (z ∷ xs) x y (suc n) e =
    elim (in_longer xs x y n e) [
      | inl before ↦ inl before
      | inr (last, same) ↦ inr (ap suc last, same)
    ]

-- one more that is new
one_more :
    {A : Type 0} (test : A → A → Bool) (xs : List A) (x : A) → EachFirst test xs → first_that (test x) 0 xs ≡ None
    → test x x ≡ true → EachFirst test (xs ++ x ∷ [])
one_more test xs x each new itself n y e =
    elim (in_longer xs x y n e) [
      | inl before ↦ found_before (test y) 0 n xs (x ∷ []) (each n y before)
      | inr (last, same) ↦
          subst (λ z. first_that (test z) 0 (xs ++ x ∷ []) ≡ Some n) same
          (found_last (test x) 0 xs x new itself ∙ ap Some (omega (arith, last)))
    ]

-- a step that gives a value, and what follows it
after_step :
    {A B : Type 0} (step : Result A SchemaFault) (rest : A → Result B SchemaFault) (value : B) → (step >>= rest) ≡ Ok value
    → (x : A) × (step ≡ Ok x) × (rest x ≡ Ok value)
after_step (Ok x) rest value e = (x, refl, e)
after_step (Err fault) rest value e = cc

-- a test that refuses was not met
unless :
    {A : Type 0} (test : Bool) (fault : SchemaFault) (rest : Result A SchemaFault) (value : A)
    → (if test then Err fault else rest) ≡ Ok value → (test ≡ false) × (rest ≡ Ok value)
unless true fault rest value e = cc
unless false fault rest value e = (refl, e)

pub none_found : {A : Type 0} (found : Option A) → is_some found ≡ false → found ≡ None
none_found None e = refl
none_found (Some x) e = cc

one_ok : {A : Type 0} (a b : A) → ◌≡◌ {A = Result A SchemaFault} (Ok a) (Ok b) → a ≡ b
one_ok a b e = cc

-- a table that is described has a name, an oid and a file that none before it has
record IsNew (before : List DescribedTable) (table : DescribedTable) : Type 0 where
  name : first_that (is_named table.name) 0 before ≡ None
  oid : first_that (has_oid table.oid) 0 before ≡ None
  file : first_that (has_file table.file) 0 before ≡ None

is_new :
    (number : ℕ) (before : List DescribedTable) (ms : Members) (table : DescribedTable)
    → table_in number before ms ≡ Ok table → IsNew before table
unfolding table_in
is_new number before ms table e =
    let (name, first, a) = after_step (name_in number ms) _ table e in
    let (no_name, b) = unless (is_some (first_that (is_named name) 0 before)) (Twice name) _ table a in
    let (oid, second, c) = after_step (number_in number Oid (codes "oid") ms) _ table b in
    let (no_oid, d) = unless (is_some (first_that (has_oid oid) 0 before)) (Twice name) _ table c in
    let (file, third, f) = after_step (number_in number File (codes "file") ms) _ table d in
    let (no_file, g) = unless (is_some (first_that (has_file file) 0 before)) (Twice name) _ table f in
    let (columns, fourth, h) = after_step (columns_in number ms) _ table g in
    let (known, is) = unless (has_other OfTable ms) (Field number Other) _ table h in
    subst (λ (t : DescribedTable). IsNew before t) (one_ok _ table is)
    (record {
      name = none_found (first_that (is_named name) 0 before) no_name;
      oid = none_found (first_that (has_oid oid) 0 before) no_oid;
      file = none_found (first_that (has_file file) 0 before) no_file;
    })

-- tables that are apart
record AreApart (tables : List DescribedTable) : Type 0 where
  names : EachFirst (λ (t : DescribedTable). is_named t.name) tables
  oids : EachFirst (λ (t : DescribedTable). has_oid t.oid) tables
  files : EachFirst (λ (t : DescribedTable). has_file t.file) tables

same_text : (text : List ℕ) → pointwise nat_eq text text ≡ true
same_text text = (slice_eq-Decides Decides-eqb text text _ refl).1 refl

same_number : (n : ℕ) → nat_eq n n ≡ true
same_number n = eq-eqb n n refl

all_apart :
    (before : List DescribedTable) (items : Items) (tables : List DescribedTable) → AreApart before
    → tables_from before items ≡ Ok tables → AreApart tables
unfolding tables_from
all_apart before no_items tables apart e = subst AreApart (one_ok before tables e) apart
all_apart before (item value items) tables apart e =
    let (table, read, rest) = after_step (table_of before value) _ tables e in
    let (ms, is_table, is) = after_step (ok_or (as_table value) (Field 0 Table)) _ table read in
    let new = is_new (length before + 1) before ms table is in
    all_apart (before ++ table ∷ []) items tables
    (record {
      names = one_more (λ (t : DescribedTable). is_named t.name) before table apart.names new.name (same_text table.name);
      oids = one_more (λ (t : DescribedTable). has_oid t.oid) before table apart.oids new.oid (same_number table.oid);
      files = one_more (λ (t : DescribedTable). has_file t.file) before table apart.files new.file (same_number table.file);
    }) rest

nothing_apart : AreApart []
nothing_apart = record { names = λ n t e. cc; oids = λ n t e. cc; files = λ n t e. cc }

described_apart : (ms : Members) (tables : Description) → description_in ms ≡ Ok tables → AreApart tables.tables
unfolding description_in
described_apart ms tables e =
    let (database, first, a) = after_step (number_in 0 Database (codes "database") ms) _ tables e in
    let (items, second, b) = after_step (array_in 0 Table (codes "table") ms) _ tables a in
    let (few, c) = unless (not (nat_le (count_items items) 256)) Many _ tables b in
    let (described, third, d) = after_step (described_by database items) _ tables c in
    let (known, is) = unless (has_other Top ms) (Field 0 Other) _ tables d in
    let (found, read, f) = after_step (tables_from [] items) _ described third in
    let apart = all_apart [] items found nothing_apart read in
    subst (λ (t : Description). AreApart t.tables) (one_ok _ described f ∙ one_ok described tables is) apart

answer_apart :
    (short : Bool) (text : List ℕ) (tables : Description) → AnswersUpTo short text (Ok tables) → AreApart tables.tables
answer_apart true text tables (None, is, e) = cc
answer_apart true text tables (Some ms, is, e) = described_apart ms tables (sym e)
answer_apart false text tables e = cc

pub tables_are_apart_holds : TablesAreApart
tables_are_apart_holds text tables number table answers e =
    let apart = answer_apart (nat_le (length text) 1048576) text tables answers in
    record {
      by_name = apart.names number table e;
      by_oid = apart.oids number table e;
      by_file = apart.files number table e;
    }
