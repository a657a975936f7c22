-- A snapshot of a ready standby: its xmin is the least live id, each live id is in progress by it, and none that is has
-- committed.
use Rattle.std.proofs.Common.{◌≡◌, ℕ, ◌+◌, ◌≤◌, Bool, true, false, ◌&&◌, not, cond, List, Some, None, arith, refl, sym, ap, inl, inr, ◌⊎◌, subst, nat_lt, nat_le}
use Rattle.std.proofs.lemmas.Bool.{and_parts, and_from, both_ways, cond_both, cases_lt, false_from_ne_true, false≢true, le-ltb, leb-true, leb-false, ltb-false, not_from_false}
use Rattle.known_assigned.specs.declared.state.State.TheVariants.{Ready}
use Rattle.known_assigned.specs.Ids.{is_among}
use Rattle.known_assigned.specs.Known.{is_initialized}
use Rattle.standby_snapshot.specs.Snapshot.{in_progress, is_running, take_of, xmin_of}
use Rattle.transaction_model.specs.Transactions.{TransactionRecord, committed, ended, Live, IsXmin}
use Rattle.transaction_model.specs.LegalTransactions.{TransactionOrigin, Legal}
use Rattle.transaction_model.specs.StandbyStates.{StandbyState}
use Rattle.subtrans.specs.declared.Pair.{Pair}
use Rattle.subtrans.specs.Parents.{topmost_of}
use Rattle.transaction_model.proofs.ParentLists.{AgreeAll, parent_in, topmost_is}
use Rattle.transaction_model.proofs.IdSets.{first_is_least, least, least_below, least_has, least_up_to}
use Rattle.transaction_model.proofs.Endings.{two_ended, live_not_committed, committed_ended, committed_top, origin_rule, live_top}
use Rattle.transaction_model.proofs.StandbyKept.{Accounted, InSet, ByParent, Ahead, InGap, TopAhead, gap_of}
use Rattle.transaction_model.proofs.Replayed.{Standing}

module _ (o : TransactionOrigin) (shows : ℕ → Bool) (k : StandbyState) (log : List TransactionRecord) (legal : Legal o log)
    (st : Standing o shows k log) (caught : (x : ℕ) → shows x ≡ true → ended o.at x log ≡ true) (ready : k.known.mode ≡ Ready) where
  begun : is_initialized k.known.mode ≡ false
  begun = ap is_initialized ready

  no_gap : gap_of k.known.mode ≡ 0
  no_gap = ap gap_of ready

  not_shown : (x : ℕ) → Live o.at x log → shows x ≡ true → ⊥
  not_shown x l h = both_ways (ended o.at x log) l.not_ended (caught x h)

  ended_up_to_latest : (x : ℕ) → ended o.at x log ≡ true → x ≤ k.known.latest
  ended_up_to_latest x h =
      let e = st.kept.ended_latest begun x h in
      let f = no_gap in omega arith

  -- a live id is in the set, or its parent is known and subtransactions may be missing up to it
  live_account :
      (x : ℕ) → Live o.at x log → Accounted o shows k.known (parent_in k.parents) x
      → (is_among x k.known.xids ≡ true) ⊎ ((p : ℕ) × (parent_in k.parents x ≡ Some p) × (x ≤ k.known.overflowed))
  live_account x l (InSet h) = inl h
  live_account x l (ByParent p h e) = inr (p, h, e)
  live_account x l (Ahead h) = absurd (not_shown x l h)
  live_account x l (InGap h e) =
      let normal = l.normal in
      let f = no_gap in absurd (omega arith)
  live_account x l (TopAhead h) = absurd (not_shown (o.top x) (live_top o log legal x l) h)

  live_known :
      (x : ℕ) → Live o.at x log → x ≤ k.known.latest
      → (is_among x k.known.xids ≡ true) ⊎ ((p : ℕ) × (parent_in k.parents x ≡ Some p) × (x ≤ k.known.overflowed))
  live_known x l h =
      let e = st.kept.latest_observed in live_account x l (st.kept.accounted begun x l (omega arith))

  no_parent_of_top : (x p : ℕ) → parent_in k.parents (o.top x) ≡ Some p → ⊥
  no_parent_of_top x p h =
      let (e, f) = st.kept.parents_agree (o.top x) p h in
      let g = (origin_rule o log legal).top_of_top x in omega arith

  -- a live top transaction is in the set
  top_known : (x : ℕ) → Live o.at x log → x ≤ k.known.latest → is_among (o.top x) k.known.xids ≡ true
  top_known x l h =
      let origin = origin_rule o log legal in
      let first = origin.top_first x in
      let top = origin.top_of_top x in
      elim (live_known (o.top x) (live_top o log legal x l) (omega arith)) [
        | inl e ↦ e
        | inr e ↦ absurd (no_parent_of_top x e.0 e.1)
      ]

  least_live : Live o.at (least (k.known.latest + 1) k.known.xids) log
  least_live =
      let two = ended_up_to_latest 2 (two_ended o.at log) in
      least_has (λ (x : ℕ). Live o.at x log) (k.known.latest + 1) k.known.xids
      (record {
        normal = omega arith;
        not_ended =
            false_from_ne_true (ended o.at (k.known.latest + 1) log)
            (λ h. let e = ended_up_to_latest (k.known.latest + 1) h in omega arith);
      })
      (λ x h. st.kept.set_live x h)

  least_is_least : (x : ℕ) → Live o.at x log → least (k.known.latest + 1) k.known.xids ≤ x
  least_is_least x l =
      elim (cases_lt k.known.latest x) [
        | inl h ↦ let e = least_up_to (k.known.latest + 1) k.known.xids in omega arith
        | inr h ↦
            let e = least_below (k.known.latest + 1) (o.top x) k.known.xids (top_known x l h) in
            let f = (origin_rule o log legal).top_first x in omega arith
      ]

  xmin_is : xmin_of k.known ≡ least (k.known.latest + 1) k.known.xids
  xmin_is = first_is_least (k.known.latest + 1) k.known.xids st.rising

  xmin_live : Live o.at (xmin_of k.known) log
  xmin_live = subst (λ (x : ℕ). Live o.at x log) (sym xmin_is) least_live

  xmin_least : (x : ℕ) → Live o.at x log → xmin_of k.known ≤ x
  xmin_least x l =
      let e = xmin_is in
      let f = least_is_least x l in omega arith

  pub is_xmin : IsXmin o.at (take_of k.known).xmin log
  unfolding take_of
  is_xmin = record { live = xmin_live; least = xmin_least }

  module _ (pairs : List Pair) (agree : AgreeAll o pairs)
      (keeps : (x p : ℕ) → parent_in k.parents x ≡ Some p → xmin_of k.known ≤ x → (q : ℕ) × (parent_in pairs x ≡ Some q)) where
    topmost_known :
        (x : ℕ) → Live o.at x log → x ≤ k.known.latest
        → ((topmost_of pairs x ≡ x) × (parent_in pairs x ≡ None)) ⊎ (topmost_of pairs x ≡ o.top x)
        → is_among (topmost_of pairs x) k.known.xids ≡ true
    topmost_known x l h (inl (same, none)) =
        elim (live_known x l h) [
          | inl e ↦ subst (λ (y : ℕ). is_among y k.known.xids ≡ true) (sym same) e
          | inr (p, e, f) ↦ let (q, g) = keeps x p e (xmin_least x l) in absurd (cc)
        ]
    topmost_known x l h (inr same) = subst (λ (y : ℕ). is_among y k.known.xids ≡ true) (sym same) (top_known x l h)

    live_running : (x : ℕ) → Live o.at x log → x ≤ k.known.latest → is_running (take_of k.known) (topmost_of pairs) x ≡ true
    unfolding take_of
    live_running x l h =
        let xmin : ℕ = xmin_of k.known in
        let y : ℕ = topmost_of pairs x in
        cond_both (nat_le xmin k.known.overflowed)
        (not (nat_lt y xmin) && is_among y k.known.xids)
        (is_among x k.known.xids) (λ (t : Bool). t ≡ true)
        (λ e.
        let known = topmost_known x l h (topmost_is o pairs (origin_rule o log legal) agree x) in
        and_from (not (nat_lt y xmin)) (is_among y k.known.xids)
        (not_from_false (nat_lt y xmin) (le-ltb y xmin (xmin_least y (st.kept.set_live y known))))
        (known))
        (λ e.
        elim (live_known x l h) [
          | inl f ↦ f
          | inr (p, f, g) ↦
              let low = xmin_least x l in
              let high = leb-false xmin k.known.overflowed e in absurd (omega arith)
        ])

    pub live_in_progress : (x : ℕ) → Live o.at x log → in_progress (take_of k.known) (topmost_of pairs) x ≡ true
    unfolding in_progress take_of
    live_in_progress x l =
        let xmin : ℕ = xmin_of k.known in
        cond_both (nat_lt x xmin) false
        (cond (nat_le (k.known.latest + 1) x) true (is_running (take_of k.known) (topmost_of pairs) x))
        (λ (t : Bool). t ≡ true) (λ e. absurd (both_ways (nat_lt x xmin) (le-ltb x xmin (xmin_least x l)) e))
        (λ e.
        cond_both (nat_le (k.known.latest + 1) x) true (is_running (take_of k.known) (topmost_of pairs) x)
        (λ (t : Bool). t ≡ true) (λ f. refl)
        (λ f. let g = leb-false (k.known.latest + 1) x f in live_running x l (omega arith)))

    among_not_committed : (x : ℕ) → is_among x k.known.xids ≡ true → committed o.at x log ≡ false
    among_not_committed x h = live_not_committed o.at x log (st.kept.set_live x h)

    topmost_not_committed :
        (x : ℕ) → 3 ≤ x → is_among (topmost_of pairs x) k.known.xids ≡ true
        → ((topmost_of pairs x ≡ x) × (parent_in pairs x ≡ None)) ⊎ (topmost_of pairs x ≡ o.top x) → committed o.at x log ≡ false
    topmost_not_committed x normal h (inl (same, none)) =
        among_not_committed x (subst (λ (y : ℕ). is_among y k.known.xids ≡ true) same h)
    topmost_not_committed x normal h (inr same) =
        false_from_ne_true (committed o.at x log)
        (λ e.
        both_ways (committed o.at (o.top x) log)
        (among_not_committed (o.top x) (subst (λ (y : ℕ). is_among y k.known.xids ≡ true) same h))
        (committed_top o log legal x normal e))

    running_not_committed :
        (x : ℕ) → 3 ≤ x → is_running (take_of k.known) (topmost_of pairs) x ≡ true → committed o.at x log ≡ false
    unfolding take_of
    running_not_committed x normal =
        let xmin : ℕ = xmin_of k.known in
        let y : ℕ = topmost_of pairs x in
        cond_both (nat_le xmin k.known.overflowed)
        (not (nat_lt y xmin) && is_among y k.known.xids)
        (is_among x k.known.xids)
        (λ (t : Bool). t ≡ true → committed o.at x log ≡ false)
        (λ e h.
        let among = (and_parts (not (nat_lt y xmin)) (is_among y k.known.xids) h).1 in
        topmost_not_committed x normal (among)
        (topmost_is o pairs (origin_rule o log legal) agree x))
        (λ e h. among_not_committed x (h))

    pub progress_not_committed :
        (x : ℕ) → in_progress (take_of k.known) (topmost_of pairs) x ≡ true → committed o.at x log ≡ false
    unfolding in_progress take_of
    progress_not_committed x =
        let xmin : ℕ = xmin_of k.known in
        cond_both (nat_lt x xmin) false
        (cond (nat_le (k.known.latest + 1) x) true (is_running (take_of k.known) (topmost_of pairs) x))
        (λ (t : Bool). t ≡ true → committed o.at x log ≡ false) (λ e h. absurd (false≢true h))
        (λ e.
        let low = ltb-false x xmin e in
        let normal = xmin_live.normal in
        cond_both (nat_le (k.known.latest + 1) x) true (is_running (take_of k.known) (topmost_of pairs) x)
        (λ (t : Bool). t ≡ true → committed o.at x log ≡ false)
        (λ f h.
        false_from_ne_true (committed o.at x log)
        (λ c.
        let past = ended_up_to_latest x (committed_ended o.at x log c) in
        let high = leb-true (k.known.latest + 1) x f in omega arith))
        (λ f h. running_not_committed x (omega arith) h))
