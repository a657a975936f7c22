-- A log in which one page was changed, and what one more id adds to a tree.
use Rattle.std.proofs.Common.{◌≡◌, ◌≢◌, ℕ, ◌/◌, ◌%◌, ◌<◌, ◌≤◌, ◌==◌, eqb, List, [], ◌∷◌, length, set, zero, suc, max, refl, sym, ap, ◌∙◌, ⊎_elim, if◌then◌else◌, arith, slice_get, Some, Option}
use Rattle.std.specs.Option.{option_map_or}
use Rattle.std.proofs.lemmas.Bool.{cases_eq, cases_lt, eq-eqb, ne_eqb, lt-ltb, le-ltb, le-leb, lt-leb, cond-true, cond-false}
use Rattle.pg_types.specs.declared.names.Xid.{Xid}
use Rattle.pg_types.specs.declared.status.Status.{Status}
use Rattle.pg_types.specs.declared.status.Status.TheVariants.{None}
use Rattle.commit_log.specs.declared.CommitLog.{CommitLog}
use Rattle.commit_log.specs.declared.page.StatusPage.{StatusPage}
use Rattle.commit_log.specs.Log.{status_of, reserved_end, changed_at, page_status, status_after, changed_after}

-- the element at p after p was written
slice_get-set_same : {X : Type 0} (xs : List X) (p : ℕ) (x y : X) → slice_get xs p ≡ Some y → slice_get (set xs p x) p ≡ Some x
slice_get-set_same [] p x y h = cc
slice_get-set_same (z ∷ xs) zero x y h = refl
slice_get-set_same (z ∷ xs) (suc p) x y h = slice_get-set_same xs p x y h

-- the element at another place
slice_get-set_other : {X : Type 0} (xs : List X) (p q : ℕ) (x : X) → (q ≡ p → ⊥) → slice_get (set xs p x) q ≡ slice_get xs q
slice_get-set_other [] p q x apart = refl
slice_get-set_other (z ∷ xs) zero zero x apart = absurd (apart refl)
slice_get-set_other (z ∷ xs) zero (suc q) x apart = refl
slice_get-set_other (z ∷ xs) (suc p) zero x apart = refl
slice_get-set_other (z ∷ xs) (suc p) (suc q) x apart = slice_get-set_other xs p q x (λ e. apart (ap suc e))

-- what a page tells, after page p was replaced
look_same : {V : Type 0} (tell : StatusPage → V) (pages : List StatusPage) (p q : ℕ) (before after : StatusPage) (d : V) → slice_get pages p ≡ Some before → q ≡ p → option_map_or tell (slice_get (set pages p after) q) d ≡ tell after
look_same tell pages p q before after d found e =
    let at : slice_get (set pages p after) q ≡ Some after = rw e (slice_get-set_same pages p after before found) in
    ap (λ (o : Option StatusPage). option_map_or tell o d) at

look_other : {V : Type 0} (tell : StatusPage → V) (pages : List StatusPage) (p q : ℕ) (after : StatusPage) (d : V) → (q ≡ p → ⊥) → option_map_or tell (slice_get (set pages p after) q) d ≡ option_map_or tell (slice_get pages q) d
look_other tell pages p q after d apart =
    ap (λ (o : Option StatusPage). option_map_or tell o d) (slice_get-set_other pages p q after apart)

look_found : {V : Type 0} (tell : StatusPage → V) (pages : List StatusPage) (p q : ℕ) (before : StatusPage) (d : V) → slice_get pages p ≡ Some before → q ≡ p → option_map_or tell (slice_get pages q) d ≡ tell before
look_found tell pages p q before d found e =
    let at : slice_get pages q ≡ Some before = rw e found in
    ap (λ (o : Option StatusPage). option_map_or tell o d) at

-- the page of x, place by place
status_in : List StatusPage → ℕ → Status
status_in pages x = option_map_or (λ page. page_status page (x % 32768)) (slice_get pages (x / 32768)) None

SetsAt : StatusPage → StatusPage → ℕ → Status → Type 0
SetsAt before after n s = (m : ℕ) → page_status after m ≡ if m == n then s else page_status before m

status_in-same : (pages : List StatusPage) (y : ℕ) (before after : StatusPage) (s : Status) → slice_get pages (y / 32768) ≡ Some before → SetsAt before after (y % 32768) s → status_in (set pages (y / 32768) after) y ≡ s
unfolding status_in SetsAt
status_in-same pages y before after s found sets =
    look_same (λ page. page_status page (y % 32768)) pages (y / 32768) (y / 32768) before after None found refl ∙ sets (y % 32768) ∙ cond-true (eqb (y % 32768) (y % 32768)) s _ (eq-eqb (y % 32768) (y % 32768) refl)

status_in-beside : (pages : List StatusPage) (y x : ℕ) (before after : StatusPage) (s : Status) → slice_get pages (y / 32768) ≡ Some before → SetsAt before after (y % 32768) s → x / 32768 ≡ y / 32768 → (x ≡ y → ⊥) → status_in (set pages (y / 32768) after) x ≡ status_in pages x
unfolding status_in SetsAt
status_in-beside pages y x before after s found sets same apart =
    let other : x % 32768 ≢ y % 32768 = omega arith in
    let tell : StatusPage → Status = λ page. page_status page (x % 32768) in
    look_same tell pages (y / 32768) (x / 32768) before after None found same ∙ sets (x % 32768) ∙ cond-false (eqb (x % 32768) (y % 32768)) s _ (ne_eqb (x % 32768) (y % 32768) other) ∙ sym (look_found tell pages (y / 32768) (x / 32768) before None found same)

status_in-other : (pages : List StatusPage) (y x : ℕ) (before after : StatusPage) (s : Status) → slice_get pages (y / 32768) ≡ Some before → SetsAt before after (y % 32768) s → (x ≡ y → ⊥) → status_in (set pages (y / 32768) after) x ≡ status_in pages x
unfolding status_in
status_in-other pages y x before after s found sets apart =
    ⊎_elim
    (λ same. status_in-beside pages y x before after s found sets same apart)
    (λ away. look_other (λ page. page_status page (x % 32768)) pages (y / 32768) (x / 32768) after None away)
    (cases_eq (x / 32768) (y / 32768))

pub status-set_one : (old new : CommitLog) (y : Xid) (before after : StatusPage) (s : Status) → 3 ≤ y.0 → new.pages.items ≡ set old.pages.items (y.0 / 32768) after → slice_get old.pages.items (y.0 / 32768) ≡ Some before → ((m : ℕ) → page_status after m ≡ if m == y.0 % 32768 then s else page_status before m) → (x : ℕ) → status_of new x ≡ status_after (status_of old) (y ∷ []) s x
unfolding status_of status_in SetsAt
status-set_one old new y before after s normal written found sets x =
    ⊎_elim
    (λ low. rw (lt-ltb x 3 low, lt-leb 3 x low) refl)
    (λ high. rw (le-ltb x 3 high, le-leb 3 x high, written)
    (⊎_elim
    (λ same. rw (eq-eqb y.0 x (sym same), same) (status_in-same old.pages.items y.0 before after s found sets))
    (λ apart. rw (ne_eqb y.0 x (λ e. apart (sym e))) (status_in-other old.pages.items y.0 x before after s found sets apart))
    (cases_eq x y.0)))
    (cases_lt x 3)

pub changed-set_one : (old new : CommitLog) (y : Xid) (before after : StatusPage) (at : ℕ) → 3 ≤ y.0 → new.pages.items ≡ set old.pages.items (y.0 / 32768) after → slice_get old.pages.items (y.0 / 32768) ≡ Some before → after.changed.0 ≡ max before.changed.0 at → (n : ℕ) → changed_at new n ≡ changed_after (changed_at old) (y ∷ []) at n
unfolding changed_at
changed-set_one old new y before after at normal written found sets n =
    let tell : StatusPage → ℕ = λ page. page.changed.0 in
    rw (written, le-leb 3 y.0 normal)
    (⊎_elim
    (λ same. rw (eq-eqb (y.0 / 32768) n (sym same)) (look_same tell old.pages.items (y.0 / 32768) n before after 0 found same ∙ sets ∙ ap (λ k. max k at) (sym (look_found tell old.pages.items (y.0 / 32768) n before 0 found same))))
    (λ away. rw (ne_eqb (y.0 / 32768) n (λ e. away (sym e))) (look_other tell old.pages.items (y.0 / 32768) n after 0 away))
    (cases_eq n (y.0 / 32768)))

-- the page of a reserved id is there
pub page_within : (log : CommitLog) (x : ℕ) → x < reserved_end log → x / 32768 < length log.pages.items
unfolding reserved_end
page_within log x h = omega (arith, log.pages.ok.0)
