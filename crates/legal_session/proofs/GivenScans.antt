-- The open scans of the abstract standby that have one id, and what each change of the scans does to them.
use Rattle.std.proofs.Common.{◌≡◌, ◌≢◌, ℕ, ◌+◌, ◌==◌, Bool, true, false, List, [], ◌∷◌, ◌++◌, map, Option, Some, None, refl, sym, ap, ◌∙◌, if◌then◌else◌}
use Rattle.std.proofs.lemmas.Bool.{eqb-true, ne_eqb}
use Rattle.typed_records.specs.declared.types.Rec.{Rec}
use Rattle.legal_session.specs.AbstractStandby.{AbstractScan, World, given_block, met, scan_in, without_scan}

-- those with this id
abbrev pub found : ℕ → List AbstractScan → List AbstractScan
found id [] = []
found id (scan ∷ scans) = if scan.id == id then scan ∷ found id scans else found id scans

abbrev pub first_of : List AbstractScan → Option AbstractScan
first_of [] = None
first_of (scan ∷ scans) = Some scan

abbrev pub behind : List AbstractScan → List AbstractScan
behind [] = []
behind (scan ∷ scans) = scans

-- a scan once it was given a block
abbrev pub with_block : AbstractScan → AbstractScan
with_block scan = record scan { given = scan.given + 1 }

abbrev pub first_given : List AbstractScan → List AbstractScan
first_given [] = []
first_given (scan ∷ scans) = with_block scan ∷ scans

-- a scan before others, by the test of its id
with_first :
    (id : ℕ) (scan : AbstractScan) (scans : List AbstractScan) (t : Bool) → (scan.id == id) ≡ t
    → found id (scan ∷ scans) ≡ (if t then scan ∷ found id scans else found id scans)
with_first id scan scans t e = ap (λ (b : Bool). if b then scan ∷ found id scans else found id scans) e

pub scan_in_is : (id : ℕ) (scans : List AbstractScan) → scan_in id scans ≡ first_of (found id scans)
scan_in_is id [] = refl
scan_in_is id (scan ∷ scans) = by (scan.id == id) (scan_in_is id scans)
  where
    by :
        (t : Bool) → scan_in id scans ≡ first_of (found id scans)
        → (if t then Some scan else scan_in id scans) ≡ first_of (if t then scan ∷ found id scans else found id scans)
    by true rest = refl
    by false rest = rest

-- a further record
pub found_met : (id : ℕ) (w : World) (rec : Rec) (scans : List AbstractScan) → found id (map (met w rec) scans) ≡ map (met w rec) (found id scans)
unfolding met
found_met id w rec [] = refl
found_met id w rec (scan ∷ scans) = by (scan.id == id) (found_met id w rec scans)
  where
    by :
        (t : Bool) → found id (map (met w rec) scans) ≡ map (met w rec) (found id scans)
        → (if t then met w rec scan ∷ found id (map (met w rec) scans) else found id (map (met w rec) scans))
        ≡ map (met w rec) (if t then scan ∷ found id scans else found id scans)
    by true rest = ap (λ (others : List AbstractScan). met w rec scan ∷ others) rest
    by false rest = rest

-- a further scan, of another id
pub found_more :
    (id : ℕ) (scans : List AbstractScan) (other : AbstractScan) → other.id ≢ id → found id (scans ++ other ∷ []) ≡ found id scans
found_more id [] other apart = with_first id other [] false (ne_eqb other.id id apart)
found_more id (scan ∷ scans) other apart = by (scan.id == id) (found_more id scans other apart)
  where
    by :
        (t : Bool) → found id (scans ++ other ∷ []) ≡ found id scans
        → (if t then scan ∷ found id (scans ++ other ∷ []) else found id (scans ++ other ∷ []))
        ≡ (if t then scan ∷ found id scans else found id scans)
    by true rest = ap (λ (others : List AbstractScan). scan ∷ others) rest
    by false rest = rest

-- of its own, where there was none
pub found_new :
    (id : ℕ) (scans : List AbstractScan) (new : AbstractScan) → (new.id == id) ≡ true → found id scans ≡ []
    → found id (scans ++ new ∷ []) ≡ new ∷ []
found_new id [] new same none = with_first id new [] true same
found_new id (scan ∷ scans) new same none = by (scan.id == id) none (λ free. found_new id scans new same free)
  where
    by :
        (t : Bool) → (if t then scan ∷ found id scans else found id scans) ≡ []
        → (found id scans ≡ [] → found id (scans ++ new ∷ []) ≡ new ∷ [])
        → (if t then scan ∷ found id (scans ++ new ∷ []) else found id (scans ++ new ∷ [])) ≡ new ∷ []
    by true free later = cc
    by false free later = later free

-- one is taken away: of this id the first, of another none
pub found_without : (id : ℕ) (scans : List AbstractScan) → found id (without_scan id scans) ≡ behind (found id scans)
found_without id [] = refl
found_without id (scan ∷ scans) = by (scan.id == id) refl (found_without id scans)
  where
    by :
        (t : Bool) → (scan.id == id) ≡ t → found id (without_scan id scans) ≡ behind (found id scans)
        → found id (if t then scans else scan ∷ without_scan id scans)
        ≡ behind (if t then scan ∷ found id scans else found id scans)
    by true e rest = refl
    by false e rest = with_first id scan (without_scan id scans) false e ∙ rest

pub found_without_other :
    (id other : ℕ) (scans : List AbstractScan) → id ≢ other → found id (without_scan other scans) ≡ found id scans
found_without_other id other [] apart = refl
found_without_other id other (scan ∷ scans) apart =
    by (scan.id == other) refl (scan.id == id) refl (found_without_other id other scans apart)
  where
    by :
        (t : Bool) → (scan.id == other) ≡ t → (s : Bool) → (scan.id == id) ≡ s
        → found id (without_scan other scans) ≡ found id scans
        → found id (if t then scans else scan ∷ without_scan other scans) ≡ found id (scan ∷ scans)
    by true e true f rest = absurd (apart (sym (eqb-true scan.id id f) ∙ eqb-true scan.id other e))
    by true e false f rest = sym (with_first id scan scans false f)
    by false e s f rest =
        ap (λ (others : List AbstractScan). if scan.id == id then scan ∷ others else others) rest

-- one is given a block: of this id the first, of another none
pub found_given : (id : ℕ) (scans : List AbstractScan) → found id (given_block id scans) ≡ first_given (found id scans)
found_given id [] = refl
found_given id (scan ∷ scans) = by (scan.id == id) refl (found_given id scans)
  where
    by :
        (t : Bool) → (scan.id == id) ≡ t → found id (given_block id scans) ≡ first_given (found id scans)
        → found id (if t then with_block scan ∷ scans else scan ∷ given_block id scans)
        ≡ first_given (if t then scan ∷ found id scans else found id scans)
    by true e rest = with_first id (with_block scan) scans true e
    by false e rest = with_first id scan (given_block id scans) false e ∙ rest

pub found_given_other :
    (id other : ℕ) (scans : List AbstractScan) → id ≢ other → found id (given_block other scans) ≡ found id scans
found_given_other id other [] apart = refl
found_given_other id other (scan ∷ scans) apart =
    by (scan.id == other) refl (scan.id == id) refl (found_given_other id other scans apart)
  where
    by :
        (t : Bool) → (scan.id == other) ≡ t → (s : Bool) → (scan.id == id) ≡ s
        → found id (given_block other scans) ≡ found id scans
        → found id (if t then with_block scan ∷ scans else scan ∷ given_block other scans) ≡ found id (scan ∷ scans)
    by true e true f rest = absurd (apart (sym (eqb-true scan.id id f) ∙ eqb-true scan.id other e))
    by true e false f rest = with_first id (with_block scan) scans false f ∙ sym (with_first id scan scans false f)
    by false e s f rest =
        ap (λ (others : List AbstractScan). if scan.id == id then scan ∷ others else others) rest

-- where there was none, none comes of it
pub none_without : (id other : ℕ) (scans : List AbstractScan) → found id scans ≡ [] → found id (without_scan other scans) ≡ []
none_without id other [] none = refl
none_without id other (scan ∷ scans) none =
    by (scan.id == other) (scan.id == id) refl none (λ free. none_without id other scans free)
  where
    by :
        (t s : Bool) → (scan.id == id) ≡ s → (if s then scan ∷ found id scans else found id scans) ≡ []
        → (found id scans ≡ [] → found id (without_scan other scans) ≡ [])
        → found id (if t then scans else scan ∷ without_scan other scans) ≡ []
    by t true e free later = cc
    by true false e free later = free
    by false false e free later = with_first id scan (without_scan other scans) false e ∙ later free

pub none_given : (id other : ℕ) (scans : List AbstractScan) → found id scans ≡ [] → found id (given_block other scans) ≡ []
none_given id other [] none = refl
none_given id other (scan ∷ scans) none =
    by (scan.id == other) (scan.id == id) refl none (λ free. none_given id other scans free)
  where
    by :
        (t s : Bool) → (scan.id == id) ≡ s → (if s then scan ∷ found id scans else found id scans) ≡ []
        → (found id scans ≡ [] → found id (given_block other scans) ≡ [])
        → found id (if t then with_block scan ∷ scans else scan ∷ given_block other scans) ≡ []
    by t true e free later = cc
    by true false e free later = with_first id (with_block scan) scans false e ∙ free
    by false false e free later = with_first id scan (given_block other scans) false e ∙ later free
