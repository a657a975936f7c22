-- The open scan with an id, by its place among them.
use Rattle.std.proofs.Common.{◌≡◌, ℕ, zero, suc, ◌+◌, Bool, true, false, cond, List, [], ◌∷◌, set, get_or, Some, None, refl, ap, ◌∙◌, arith}
use Rattle.std.specs.Prelude.{All}
use Rattle.std.specs.List.{remove}
use Rattle.std.proofs.lemmas.List.Elements.{All-append, All-cons, All-drop, All-head, All-tail, All-take}
use Rattle.table_schema.specs.Description.{first_that}
use Rattle.seq_scan.specs.Scans.{after_page}
use Rattle.standby_core.specs.declared.scans.NodeScan.{NodeScan}
use Rattle.standby_core.specs.Scans.{moved_on, scan_with, without}
use Rattle.standby_core.specs.Pages.{has_id}

-- the first scan with this id stands at this place
abbrev pub StandsAt : ℕ → List NodeScan → ℕ → Type 0
StandsAt id [] place = ⊥
StandsAt id (one ∷ scans) zero = has_id id one ≡ true
StandsAt id (one ∷ scans) (suc place) = (has_id id one ≡ false) × StandsAt id scans place

-- it is found behind so many others
abbrev pub IsFound : ℕ → ℕ → List NodeScan → ℕ → Type 0
IsFound id n scans place = (k : ℕ) × (place ≡ n + k) × StandsAt id scans k

-- the first is it, or a later one is
found_next :
    (id n : ℕ) (one : NodeScan) (scans : List NodeScan) (place : ℕ)
    → (first_that (has_id id) (n + 1) scans ≡ Some place → IsFound id (n + 1) scans place) → (test : Bool) → has_id id one ≡ test
    → cond test (Some n) (first_that (has_id id) (n + 1) scans) ≡ Some place → IsFound id n (one ∷ scans) place
found_next id n one scans place later true is e = let same : n ≡ place = cc in (0, omega arith, is)
found_next id n one scans place later false is e = let found = later e in (suc found.0, omega (arith, found.1), (is, found.2))

pub found_at : (id n : ℕ) (scans : List NodeScan) (place : ℕ) → first_that (has_id id) n scans ≡ Some place → IsFound id n scans place
found_at id n [] place e = cc
found_at id n (one ∷ scans) place e = found_next id n one scans place (found_at id (n + 1) scans place) (has_id id one) refl e

-- where none is found, there is none
pub none_found : (id n : ℕ) (scans : List NodeScan) → first_that (has_id id) n scans ≡ None → scan_with id scans ≡ None
none_found id n [] e = refl
none_found id n (one ∷ scans) e = by (none_found id (n + 1) scans) (has_id id one) e
  where
    by :
        (first_that (has_id id) (n + 1) scans ≡ None → scan_with id scans ≡ None) → (test : Bool)
        → cond test (Some n) (first_that (has_id id) (n + 1) scans) ≡ None → cond test (Some one) (scan_with id scans) ≡ None
    by later true e = cc
    by later false e = later e

-- the scan with the id is the one at the place
pub scan_there : (id : ℕ) (scans : List NodeScan) (place : ℕ) (d : NodeScan) → StandsAt id scans place → scan_with id scans ≡ Some (get_or scans place d)
scan_there id [] place d stands = absurd stands
scan_there id (one ∷ scans) zero d is = ap (λ (test : Bool). cond test (Some one) (scan_with id scans)) is
scan_there id (one ∷ scans) (suc place) d (is, stands) =
    ap (λ (test : Bool). cond test (Some one) (scan_with id scans)) is ∙ scan_there id scans place d stands

-- the scans without it are those without the place
pub without_there : (id : ℕ) (scans : List NodeScan) (place : ℕ) → StandsAt id scans place → without id scans ≡ remove scans place
without_there id [] place stands = absurd stands
without_there id (one ∷ scans) zero is = ap (λ (test : Bool). cond test scans (one ∷ without id scans)) is
without_there id (one ∷ scans) (suc place) (is, stands) =
    ap (λ (test : Bool). cond test scans (one ∷ without id scans)) is ∙ ap (λ rest. one ∷ rest) (without_there id scans place stands)

-- none is taken away where there is none
pub without_none : (id : ℕ) (scans : List NodeScan) → scan_with id scans ≡ None → without id scans ≡ scans
without_none id [] e = refl
without_none id (one ∷ scans) e = by (without_none id scans) (has_id id one) e
  where
    by :
        (scan_with id scans ≡ None → without id scans ≡ scans) → (test : Bool)
        → cond test (Some one) (scan_with id scans) ≡ None → cond test scans (one ∷ without id scans) ≡ one ∷ scans
    by later true e = cc
    by later false e = ap (λ rest. one ∷ rest) (later e)

abbrev pub with_page : NodeScan → NodeScan
with_page one = record one { scan = after_page one.scan }

-- the scans once it was given a page are those with it at the place
pub moved_there :
    (id : ℕ) (scans : List NodeScan) (place : ℕ) (d : NodeScan) → StandsAt id scans place
    → moved_on id scans ≡ set scans place (with_page (get_or scans place d))
moved_there id [] place d stands = absurd stands
moved_there id (one ∷ scans) zero d is = ap (λ (test : Bool). cond test (with_page one ∷ scans) (one ∷ moved_on id scans)) is
moved_there id (one ∷ scans) (suc place) d (is, stands) =
    ap (λ (test : Bool). cond test (with_page one ∷ scans) (one ∷ moved_on id scans)) is
    ∙ ap (λ rest. one ∷ rest) (moved_there id scans place d stands)

-- what stood at a place that is taken away does not matter
pub remove_set : (scans : List NodeScan) (place : ℕ) (one : NodeScan) → remove (set scans place one) place ≡ remove scans place
remove_set [] place one = refl
remove_set (other ∷ scans) zero one = refl
remove_set (other ∷ scans) (suc place) one = ap (λ rest. other ∷ rest) (remove_set scans place one)

-- what all scans have they have without one
pub all_left : (P : NodeScan → Type 0) (scans : List NodeScan) (place : ℕ) → All P scans → All P (remove scans place)
all_left P scans place all = All-append P _ _ (All-take P place scans all) (All-drop P (suc place) scans all)

pub all_without : (P : NodeScan → Type 0) (id : ℕ) (scans : List NodeScan) → All P scans → All P (without id scans)
all_without P id [] all = all
all_without P id (one ∷ scans) all =
    by (has_id id one) (All-head P one scans all) (All-tail P one scans all) (all_without P id scans (All-tail P one scans all))
  where
    by : (test : Bool) → P one → All P scans → All P (without id scans) → All P (cond test scans (one ∷ without id scans))
    by true has rest left = rest
    by false has rest left = All-cons P one (without id scans) has left
