-- What a standby's state keeps to along a legal log, one lemma for each of its rules.
use Rattle.std.proofs.Common.{◌≡◌, ℕ, ◌+◌, ◌-◌, ◌<◌, ◌≤◌, max, Bool, true, false, ◌&&◌, List, [], ◌∷◌, Option, Some, None, arith, refl, sym, ◌∙◌, inl, inr, ◌⊎◌, subst, nat_lt, nat_le}
use Rattle.std.proofs.lemmas.Bool.{and_parts, and_from, both_ways, cond_both, cond-true, cases_Bool, cases_lt, false_from_ne_true, false≢true, le-leb, leb-true, lt-ltb, ltb-true}
use Rattle.std.specs.List.{range_with_len}
use Rattle.known_assigned.specs.declared.state.State.{State}
use Rattle.known_assigned.specs.declared.state.State.TheVariants.{Initialized, Pending, Ready}
use Rattle.known_assigned.specs.Ids.{is_among, without, greatest}
use Rattle.known_assigned.specs.Known.{Known, is_initialized, unobserved, after_observe, after_end, after_assign, past_oldest, after_shutdown}
use Rattle.transaction_model.specs.Transactions.{TransactionRecord, finished, ended, Live}
use Rattle.transaction_model.specs.LegalTransactions.{TransactionOrigin, TransactionOriginRule, AreSubsOf}
use Rattle.transaction_model.proofs.ParentLists.{Parents, with_top, forgotten}
use Rattle.transaction_model.proofs.IdSets.{among_later, in_with_ids, kept_with_ids, put_with_ids, in_filter, kept_by_filter, in_without, kept_without, in_range, put_in_range, up_to_greatest}
use Rattle.transaction_model.proofs.Endings.{TopsLive, two_ended}

-- up to which id subtransactions may be missing
abbrev pub gap_of : State → ℕ
gap_of Initialized = 0
gap_of (Pending until) = until.0
gap_of Ready = 0

-- how a live id is accounted for: it is in the set; its parent is known, and it is one of those that may be missing;
-- the commit log is ahead of the position for it; it is a subtransaction that the first running record may miss; the
-- commit log is ahead for its top transaction
pub data Accounted (o : TransactionOrigin) (shows : ℕ → Bool) (k : Known) (parents : Parents) (x : ℕ) : Type 0 where
  InSet : is_among x k.xids ≡ true → Accounted o shows k parents x
  ByParent : (parent : ℕ) → parents x ≡ Some parent → x ≤ k.overflowed → Accounted o shows k parents x
  Ahead : shows x ≡ true → Accounted o shows k parents x
  InGap : x ≤ gap_of k.mode → o.top x < x → Accounted o shows k parents x
  TopAhead : shows (o.top x) ≡ true → Accounted o shows k parents x

pub record Kept (o : TransactionOrigin) (shows : ℕ → Bool) (k : Known) (parents : Parents) (log : List TransactionRecord) : Type 0 where
  pub shows_finished : (x : ℕ) → finished o.at x log ≡ true → shows x ≡ true
  pub set_live : (x : ℕ) → is_among x k.xids ≡ true → Live o.at x log
  pub ended_observed : is_initialized k.mode ≡ false → (x : ℕ) → ended o.at x log ≡ true → x ≤ k.observed
  pub latest_observed : k.latest ≤ k.observed
  pub ended_latest : is_initialized k.mode ≡ false → (x : ℕ) → ended o.at x log ≡ true → x ≤ max k.latest (gap_of k.mode)
  pub parents_agree : (x parent : ℕ) → parents x ≡ Some parent → (o.top x ≡ parent) × (parent < x)
  pub accounted :
      is_initialized k.mode ≡ false → (x : ℕ) → Live o.at x log → x ≤ k.observed → Accounted o shows k parents x

-- an account is still one, where the set's ids, the parents and the gap's are still accounted for
still_accounted :
    (o : TransactionOrigin) (shows shows' : ℕ → Bool) (k k' : Known) (parents parents' : Parents) (x : ℕ)
    → Accounted o shows k parents x → ((y : ℕ) → shows y ≡ true → shows' y ≡ true)
    → (is_among x k.xids ≡ true → Accounted o shows' k' parents' x)
    → ((parent : ℕ) → parents x ≡ Some parent → x ≤ k.overflowed → Accounted o shows' k' parents' x)
    → (x ≤ gap_of k.mode → o.top x < x → Accounted o shows' k' parents' x) → Accounted o shows' k' parents' x
still_accounted o shows shows' k k' parents parents' x (InSet h) more set parent gap = set h
still_accounted o shows shows' k k' parents parents' x (ByParent p h l) more set parent gap = parent p h l
still_accounted o shows shows' k k' parents parents' x (Ahead h) more set parent gap = Ahead (more x h)
still_accounted o shows shows' k k' parents parents' x (InGap h l) more set parent gap = gap h l
still_accounted o shows shows' k k' parents parents' x (TopAhead h) more set parent gap = TopAhead (more (o.top x) h)

in_unobserved :
    (k : Known) (x y : ℕ) → is_among y (unobserved k x) ≡ true → (is_initialized k.mode ≡ false) × (k.observed < y) × (y ≤ x)
unfolding unobserved
in_unobserved k x y =
    cond_both (is_initialized k.mode) [] (range_with_len (k.observed + 1) (x - k.observed))
    (λ (l : List ℕ). is_among y l ≡ true → (is_initialized k.mode ≡ false) × (k.observed < y) × (y ≤ x))
    (λ e h. absurd (false≢true h))
    (λ e h. let (f, g) = in_range y (k.observed + 1) (x - k.observed) h in (e, omega arith, omega arith))

put_unobserved :
    (k : Known) (x y : ℕ) → is_initialized k.mode ≡ false → k.observed < y → y ≤ x → is_among y (unobserved k x) ≡ true
unfolding unobserved
put_unobserved k x y begun low high =
    cond_both (is_initialized k.mode) [] (range_with_len (k.observed + 1) (x - k.observed))
    (λ (l : List ℕ). is_among y l ≡ true)
    (λ e. absurd (both_ways (is_initialized k.mode) begun e))
    (λ e. put_in_range y (k.observed + 1) (x - k.observed) (omega arith) (omega arith))

module _ (o : TransactionOrigin) (shows : ℕ → Bool) (k : Known) (parents : Parents) (log : List TransactionRecord) (kept : Kept o shows k parents log) where
  -- the ids that no record had named are live
  new_live : (x y : ℕ) → is_among y (unobserved k x) ≡ true → Live o.at y log
  new_live x y h =
      let (begun, low, high) = in_unobserved k x y h in
      let two = kept.ended_observed begun 2 (two_ended o.at log) in
      record {
        normal = omega arith;
        not_ended =
            false_from_ne_true (ended o.at y log) (λ e. let past = kept.ended_observed begun y e in omega arith);
      }

  -- observing an id
  pub observe_kept : (x : ℕ) → Kept o shows (after_observe k x) parents log
  unfolding after_observe
  observe_kept x =
      record {
        shows_finished = kept.shows_finished;
        set_live = λ y h.
            elim (in_with_ids y (unobserved k x) k.xids h) [ inl e ↦ new_live x y e | inr e ↦ kept.set_live y e ];
        ended_observed = λ begun y h. let past = kept.ended_observed begun y h in omega arith;
        latest_observed = let h = kept.latest_observed in omega arith;
        ended_latest = kept.ended_latest;
        parents_agree = kept.parents_agree;
        accounted = λ begun y l h.
            elim (cases_lt k.observed y) [
              | inl low ↦ InSet (put_with_ids y (unobserved k x) k.xids (put_unobserved k x y begun low (omega arith)))
              | inr low ↦
                  still_accounted o shows shows k (after_observe k x) parents parents y (kept.accounted begun y l low) (λ z e. e)
                  (λ e. InSet (kept_with_ids y (unobserved k x) k.xids e)) (λ p e f. ByParent p e f) (λ e f. InGap e f)
            ];
      }

  -- ids end that have been observed
  pub end_kept :
      (shows' : ℕ → Bool) (log' : List TransactionRecord) (out : List ℕ) → greatest out ≤ k.observed
      → ((y : ℕ) → shows y ≡ true → shows' y ≡ true) → ((y : ℕ) → finished o.at y log' ≡ true → shows' y ≡ true)
      → ((y : ℕ) → ended o.at y log' ≡ true → (is_among y out ≡ true) ⊎ (ended o.at y log ≡ true))
      → ((y : ℕ) → Live o.at y log → is_among y out ≡ false → Live o.at y log')
      → ((y : ℕ) → Live o.at y log' → Live o.at y log × (is_among y out ≡ false))
      → Kept o shows' (after_end k out) parents log'
  unfolding after_end
  end_kept shows' log' out reached more finishes ending stays lives =
      record {
        shows_finished = finishes;
        set_live = λ y h. let (e, f) = in_without y out k.xids h in stays y (kept.set_live y e) f;
        ended_observed = λ begun y h.
            elim (ending y h) [
              | inl e ↦ let f = up_to_greatest y out e in omega arith
              | inr e ↦ kept.ended_observed begun y e
            ];
        latest_observed = let h = kept.latest_observed in omega arith;
        ended_latest = λ begun y h.
            elim (ending y h) [
              | inl e ↦ let f = up_to_greatest y out e in omega arith
              | inr e ↦ let f = kept.ended_latest begun y e in omega arith
            ];
        parents_agree = kept.parents_agree;
        accounted = λ begun y l h.
            let (was, other) = lives y l in
            still_accounted o shows shows' k (after_end k out) parents parents y (kept.accounted begun y was h) more
            (λ e. InSet (kept_without y out k.xids e other)) (λ p e f. ByParent p e f) (λ e f. InGap e f);
      }

  -- parents of subtransactions become known
  set_agrees : (top : ℕ) (subs : List ℕ) → AreSubsOf o top subs → (y parent : ℕ) → with_top top subs parents y ≡ Some parent
      → (o.top y ≡ parent) × (parent < y)
  set_agrees top subs are y parent =
      cond_both (is_among y subs && nat_lt top y) (Some top) (parents y)
      (λ (v : Option ℕ). v ≡ Some parent → (o.top y ≡ parent) × (parent < y))
      (λ e h.
      let same : top ≡ parent = cc in
      let (f, g) = are y (and_parts (is_among y subs) (nat_lt top y) e).0 in (f ∙ same, omega arith))
      (λ e h. kept.parents_agree y parent h)

  set_known :
      (top : ℕ) (subs : List ℕ) → AreSubsOf o top subs → (y : ℕ) → is_among y subs ≡ true
      → with_top top subs parents y ≡ Some top
  set_known top subs are y h =
      cond-true (is_among y subs && nat_lt top y) (Some top) (parents y)
      (and_from (is_among y subs) (nat_lt top y) h (lt-ltb top y (are y h).1))

  still_known :
      (top : ℕ) (subs : List ℕ) (y parent : ℕ) → parents y ≡ Some parent
      → (p : ℕ) × (with_top top subs parents y ≡ Some p)
  still_known top subs y parent h =
      cond_both (is_among y subs && nat_lt top y) (Some top) (parents y)
      (λ (v : Option ℕ). (p : ℕ) × (v ≡ Some p)) (λ e. (top, refl)) (λ e. (parent, h))

  pub assign_kept :
      (top : ℕ) (subs : List ℕ) → AreSubsOf o top subs
      → Kept o shows (after_assign k top subs) (with_top top subs parents) log
  unfolding after_assign
  assign_kept top subs are =
      let out : Known = record k { xids = without subs k.xids; overflowed = max k.overflowed (greatest (top ∷ subs)) } in
      cond_both (is_initialized k.mode) k out (λ (m : Known). Kept o shows m (with_top top subs parents) log)
      (λ e.
      record {
        shows_finished = kept.shows_finished;
        set_live = kept.set_live;
        ended_observed = kept.ended_observed;
        latest_observed = kept.latest_observed;
        ended_latest = kept.ended_latest;
        parents_agree = set_agrees top subs are;
        accounted = λ begun y l h. absurd (both_ways (is_initialized k.mode) begun e);
      })
      (λ e.
      record {
        shows_finished = kept.shows_finished;
        set_live = λ y h. kept.set_live y (in_without y subs k.xids h).0;
        ended_observed = kept.ended_observed;
        latest_observed = kept.latest_observed;
        ended_latest = kept.ended_latest;
        parents_agree = set_agrees top subs are;
        accounted = λ begun y l h.
            still_accounted o shows shows k out parents (with_top top subs parents) y (kept.accounted begun y l h) (λ z f. f)
            (λ f.
            elim (cases_Bool (is_among y subs)) [
              | inl g ↦
                  let last = up_to_greatest y (top ∷ subs) (among_later y top subs g) in
                  ByParent top (set_known top subs are y g) (omega arith)
              | inr g ↦ InSet (kept_without y subs k.xids f g)
            ])
            (λ p f g. let (q, i) = still_known top subs y p f in ByParent q i (omega arith)) (λ f g. InGap f g);
      })

  -- every id below one ends
  pub expire_kept :
      (log' : List TransactionRecord) (oldest : ℕ) → ((y : ℕ) → finished o.at y log' ≡ true → finished o.at y log ≡ true)
      → ((y : ℕ) → ended o.at y log' ≡ true → (y < oldest) ⊎ (ended o.at y log ≡ true))
      → ((y : ℕ) → Live o.at y log → oldest ≤ y → Live o.at y log')
      → ((y : ℕ) → Live o.at y log' → Live o.at y log × (oldest ≤ y))
      → Kept o shows (past_oldest k oldest) parents log'
  unfolding past_oldest
  expire_kept log' oldest finishes ending stays lives =
      record {
        shows_finished = λ y h. kept.shows_finished y (finishes y h);
        set_live = λ y h.
            let (e, f) = in_filter (nat_le oldest) y k.xids h in stays y (kept.set_live y e) (leb-true oldest y f);
        ended_observed = λ begun y h.
            elim (ending y h) [
              | inl e ↦ omega arith
              | inr e ↦ let f = kept.ended_observed begun y e in omega arith
            ];
        latest_observed = let h = kept.latest_observed in omega arith;
        ended_latest = λ begun y h.
            elim (ending y h) [
              | inl e ↦ omega arith
              | inr e ↦ let f = kept.ended_latest begun y e in omega arith
            ];
        parents_agree = kept.parents_agree;
        accounted = λ begun y l h.
            let (was, low) = lives y l in
            let normal = was.normal in
            still_accounted o shows shows k (past_oldest k oldest) parents parents y
            (kept.accounted begun y was (omega arith)) (λ z e. e)
            (λ e. InSet (kept_by_filter (nat_le oldest) y k.xids e (le-leb oldest y low))) (λ p e f. ByParent p e f)
            (λ e f. InGap e f);
      }

  -- the ids that a pending standby may miss have ended
  pub pending_kept :
      (until oldest : ℕ) → gap_of k.mode ≤ until → is_initialized k.mode ≡ false → oldest - 1 ≤ k.latest
      → ((y : ℕ) → Live o.at y log → oldest ≤ y) → until < oldest → Kept o shows (record k { mode = Ready }) parents log
  pending_kept until oldest same begun reached lives past =
      record {
        shows_finished = kept.shows_finished;
        set_live = kept.set_live;
        ended_observed = λ _ y h. kept.ended_observed begun y h;
        latest_observed = kept.latest_observed;
        ended_latest = λ _ y h. let e = kept.ended_latest begun y h in omega arith;
        parents_agree = kept.parents_agree;
        accounted = λ _ y l h.
            still_accounted o shows shows k (record k { mode = Ready }) parents parents y (kept.accounted begun y l h) (λ z e. e)
            (λ e. InSet e) (λ p e f. ByParent p e f) (λ e f. let low = lives y l in absurd (omega arith));
      }

  -- nothing is left running below an id
  pub shutdown_kept :
      (log' : List TransactionRecord) (next : ℕ) → 3 ≤ next → k.observed < next
      → ((y : ℕ) → finished o.at y log' ≡ true → finished o.at y log ≡ true)
      → ((y : ℕ) → ended o.at y log' ≡ true → y < next) → ((y : ℕ) → Live o.at y log' → next ≤ y)
      → Kept o shows (after_shutdown k next) parents log'
  unfolding after_shutdown
  shutdown_kept log' next normal below finishes ending lives =
      record {
        shows_finished = λ y h. kept.shows_finished y (finishes y h);
        set_live = λ y h. absurd (false≢true h);
        ended_observed = λ begun y h. let e = ending y h in omega arith;
        latest_observed = let h = kept.latest_observed in omega arith;
        ended_latest = λ begun y h. let e = ending y h in omega arith;
        parents_agree = kept.parents_agree;
        accounted = λ begun y l h. let e = lives y l in absurd (omega arith);
      }

  -- a record that ends nothing
  pub nothing_kept :
      (log' : List TransactionRecord) → ((y : ℕ) → finished o.at y log' ≡ finished o.at y log)
      → ((y : ℕ) → ended o.at y log' ≡ ended o.at y log) → Kept o shows k parents log'
  nothing_kept log' finishes ending =
      record {
        shows_finished = λ y h. kept.shows_finished y (sym (finishes y) ∙ h);
        set_live = λ y h.
            let l = kept.set_live y h in record { normal = l.normal; not_ended = ending y ∙ l.not_ended };
        ended_observed = λ begun y h. kept.ended_observed begun y (sym (ending y) ∙ h);
        latest_observed = kept.latest_observed;
        ended_latest = λ begun y h. kept.ended_latest begun y (sym (ending y) ∙ h);
        parents_agree = kept.parents_agree;
        accounted = λ begun y l h.
            kept.accounted begun y (record { normal = l.normal; not_ended = sym (ending y) ∙ l.not_ended }) h;
      }

  -- a parent that is forgotten, below every id of the set, is a transaction that the commit log shows ended
  top_of_forgotten :
      TransactionOriginRule o → (y : ℕ) → Accounted o shows k parents (o.top y)
      → (is_among (o.top y) k.xids ≡ true → ⊥) → Accounted o shows k (λ (z : ℕ). None) y
  top_of_forgotten origin y (InSet h) outside = absurd (outside h)
  top_of_forgotten origin y (ByParent p h l) outside =
      let (e, f) = kept.parents_agree (o.top y) p h in
      let g = origin.top_of_top y in absurd (omega arith)
  top_of_forgotten origin y (Ahead h) outside = TopAhead h
  top_of_forgotten origin y (InGap h l) outside = let g = origin.top_of_top y in absurd (omega arith)
  top_of_forgotten origin y (TopAhead h) outside =
      TopAhead (subst (λ (z : ℕ). shows z ≡ true) (origin.top_of_top y) h)

  pub forget_kept :
      TransactionOriginRule o → TopsLive o log → (bound : ℕ) → ((y : ℕ) → is_among y k.xids ≡ true → bound ≤ y)
      → Kept o shows k (forgotten bound parents) log
  forget_kept origin tops bound free =
      record {
        shows_finished = kept.shows_finished;
        set_live = kept.set_live;
        ended_observed = kept.ended_observed;
        latest_observed = kept.latest_observed;
        ended_latest = kept.ended_latest;
        parents_agree = λ y parent.
            cond_both (nat_lt y bound) None (parents y)
            (λ (v : Option ℕ). v ≡ Some parent → (o.top y ≡ parent) × (parent < y)) (λ e h. absurd (cc))
            (λ e h. kept.parents_agree y parent h);
        accounted = λ begun y l h.
            still_accounted o shows shows k k parents (forgotten bound parents) y (kept.accounted begun y l h) (λ z e. e)
            (λ e. InSet e)
            (λ p e f.
            let (top, below) = kept.parents_agree y p e in
            cond_both (nat_lt y bound) None (parents y)
            (λ (v : Option ℕ). v ≡ forgotten bound parents y → Accounted o shows k (forgotten bound parents) y)
            (λ low same.
            let small = ltb-true y bound low in
            still_accounted o shows shows k k (λ (z : ℕ). None) (forgotten bound parents) y
            (top_of_forgotten origin y (kept.accounted begun (o.top y) (tops y l) (omega arith))
            (λ i. let big = free (o.top y) i in omega arith))
            (λ z i. i) (λ i. InSet i) (λ q i j. absurd (cc)) (λ i j. InGap i j))
            (λ low same. ByParent p (sym same ∙ e) f) refl)
            (λ e f. InGap e f);
      }

-- the same parents by another name
parents_accounted :
    (o : TransactionOrigin) (shows : ℕ → Bool) (k : Known) (parents parents' : Parents) (x : ℕ) → parents' x ≡ parents x
    → Accounted o shows k parents x → Accounted o shows k parents' x
parents_accounted o shows k parents parents' x same (InSet h) = InSet h
parents_accounted o shows k parents parents' x same (ByParent p h l) = ByParent p (same ∙ h) l
parents_accounted o shows k parents parents' x same (Ahead h) = Ahead h
parents_accounted o shows k parents parents' x same (InGap h l) = InGap h l
parents_accounted o shows k parents parents' x same (TopAhead h) = TopAhead h

pub same_parents :
    (o : TransactionOrigin) (shows : ℕ → Bool) (k : Known) (parents parents' : Parents) (log : List TransactionRecord)
    → ((x : ℕ) → parents' x ≡ parents x) → Kept o shows k parents log → Kept o shows k parents' log
same_parents o shows k parents parents' log same kept =
    record {
      shows_finished = kept.shows_finished;
      set_live = kept.set_live;
      ended_observed = kept.ended_observed;
      latest_observed = kept.latest_observed;
      ended_latest = kept.ended_latest;
      parents_agree = λ x p h. kept.parents_agree x p (sym (same x) ∙ h);
      accounted = λ begun x l h. parents_accounted o shows k parents parents' x (same x) (kept.accounted begun x l h);
    }
