-- Elements of a list that are changed in place, one after the other, and how many of them pass a test.
use Rattle.std.proofs.Common.{◌≡◌, ℕ, suc, ◌+◌, ◌<◌, ◌≤◌, ◌++◌, Bool, true, false, cond, List, [], ◌∷◌, take, drop, set, get_or, length, map, filter, Option, Some, None, sym, ap, subst, ◌∙◌, arith}
use Rattle.std.specs.Prelude.{option_map, unwrap_or}
use Rattle.std.specs.Int.{from_bool}
use Rattle.std.proofs.Math.Numerals.{add-one}
use Rattle.std.proofs.Math.Seq.{drop-cons, take-suc-set}
use Rattle.std.proofs.lemmas.List.{append-nil, append_assoc, drop-set-lt, drop_all, take_all}
use Rattle.pg_types.specs.declared.names.Locator.{Locator}
use Rattle.pg_types.specs.declared.names.Lsn.{Lsn}
use Rattle.typed_records.specs.declared.types.Rec.{Rec}
use Rattle.table_schema.specs.Description.{DescribedTable, Description}
use Rattle.table_schema.specs.Tables.{nameless}
use Rattle.heap_redo.specs.Redone.{table_of}
use Rattle.standby_core.specs.declared.scans.NodeScan.{NodeScan}
use Rattle.standby_core.specs.Conflicts.{cancelled_one, mark_files, mark_gone}

module _ {A : Type 0} (f : A → A) where
  -- one more is changed
  changed_on :
      (xs : List A) (i : ℕ) (d : A) → i < length xs
      → take (i + 1) (set xs i (f (get_or xs i d))) ++ map f (drop (i + 1) (set xs i (f (get_or xs i d)))) ≡ take i xs ++ map f (drop i xs)
  changed_on xs i d below =
      let y = f (get_or xs i d) in
      let new = set xs i y in
      let by = ap (λ (t : List A). t ++ map f (drop (suc i) new)) (take-suc-set xs i y below)
      ∙ ap (λ (r : List A). (take i xs ++ (y ∷ [])) ++ map f r) (drop-set-lt (suc i) xs i y (omega arith))
      ∙ append_assoc (take i xs) (y ∷ []) (map f (drop (suc i) xs))
      ∙ sym (ap (λ (r : List A). take i xs ++ map f r) (drop-cons xs i d below)) in
      subst (λ (k : ℕ). take k new ++ map f (drop k new) ≡ take i xs ++ map f (drop i xs)) (sym (add-one i)) by

  pub changed_by :
      (xs : List A) (i : ℕ) (one new : A) (all : List A) → i < length xs → one ≡ get_or xs i one → new ≡ f one
      → take i xs ++ map f (drop i xs) ≡ all → take (i + 1) (set xs i new) ++ map f (drop (i + 1) (set xs i new)) ≡ all
  changed_by xs i one new all below at is before =
      subst (λ (y : A). take (i + 1) (set xs i y) ++ map f (drop (i + 1) (set xs i y)) ≡ all) (sym (is ∙ ap f at)) (changed_on xs i one below ∙ before)

  -- all are
  pub all_changed : (xs all : List A) (i : ℕ) → length xs ≤ i → take i xs ++ map f (drop i xs) ≡ all → xs ≡ all
  all_changed xs all i past done =
      sym (append-nil xs)
      ∙ sym (ap (λ (t : List A). t ++ []) (take_all i xs past))
      ∙ sym (ap (λ (r : List A). take i xs ++ map f r) (drop_all i xs past))
      ∙ done

pub at_most_one : (b : Bool) → from_bool b ≤ 1
at_most_one true = omega arith
at_most_one false = omega arith

module _ {A : Type 0} (p : A → Bool) where
  count_at :
      (x : A) (rest : List A) (n total : ℕ) (answer : Bool) → answer ≡ p x → n + length (filter p (x ∷ rest)) ≡ total
      → n + from_bool answer + length (filter p rest) ≡ total
  count_at x rest n total answer e h =
      by answer (subst (λ (b : Bool). n + length (cond b (x ∷ filter p rest) (filter p rest)) ≡ total) (sym e) h)
    where
      by : (b : Bool) → n + length (cond b (x ∷ filter p rest) (filter p rest)) ≡ total → n + from_bool b + length (filter p rest) ≡ total
      by true k = omega (arith, k)
      by false k = omega (arith, k)

  -- one more is counted, if it passes
  pub counted_by :
      (xs : List A) (i : ℕ) (one new : A) (n total : ℕ) (answer : Bool) → i < length xs → one ≡ get_or xs i one → answer ≡ p one
      → n + length (filter p (drop i xs)) ≡ total → n + from_bool answer + length (filter p (drop (i + 1) (set xs i new))) ≡ total
  counted_by xs i one new n total answer below at is before =
      let rest : drop (i + 1) (set xs i new) ≡ drop (suc i) xs =
      ap (λ (k : ℕ). drop k (set xs i new)) (add-one i) ∙ drop-set-lt (suc i) xs i new (omega arith) in
      ap (λ (r : List A). n + from_bool answer + length (filter p r)) rest
      ∙ count_at (get_or xs i one) (drop (suc i) xs) n total answer (is ∙ ap p at)
      (subst (λ (r : List A). n + length (filter p r) ≡ total) (drop-cons xs i one below) before)

  -- all are
  pub all_counted : (xs : List A) (i n total : ℕ) → length xs ≤ i → n + length (filter p (drop i xs)) ≡ total → n ≡ total
  all_counted xs i n total past done =
      let none : n + length (filter p []) ≡ total = subst (λ (r : List A). n + length (filter p r) ≡ total) (drop_all i xs past) done in
      omega (arith, none)

-- the oid of a table that is described
pub oid_is : (found : Option DescribedTable) (oid : ℕ) → Some oid ≡ option_map (λ (t : DescribedTable). t.oid) found → oid ≡ (unwrap_or found nameless).oid
oid_is None oid e = cc
oid_is (Some t) oid e = cc

-- one file after the other
pub files_next :
    (known : List Locator) (start : Lsn) (files more : List Locator) (file : Locator) (gone : List (Option Lsn)) → files ≡ file ∷ more
    → mark_files known start more (mark_gone start (table_of known file) gone) ≡ mark_files known start files gone
files_next known start files more file gone e = sym (ap (λ (fs : List Locator). mark_files known start fs gone) e)

pub files_none : (known : List Locator) (start : Lsn) (files : List Locator) (gone : List (Option Lsn)) → files ≡ []
    → mark_files known start files gone ≡ gone
files_none known start files gone e = ap (λ (fs : List Locator). mark_files known start fs gone) e

-- a scan that is cancelled is of the same table
pub cancelled_below :
    (rec : Rec) (tables : Description) (count : ℕ) (one new : NodeScan) → new ≡ cancelled_one rec tables one → one.scan.table < count
    → new.scan.table < count
unfolding cancelled_one
cancelled_below rec tables count one new is below = subst (λ (n : ℕ). n < count) (sym (ap (λ (o : NodeScan). o.scan.table) is)) below
