-- What a standby's state keeps to at a running record.
use Rattle.std.proofs.Common.{◌≡◌, ℕ, ◌-◌, ◌<◌, ◌≤◌, max, Bool, true, false, not, cond, List, [], filter, arith, refl, sym, ap, inl, inr, subst, nat_lt}
use Rattle.std.proofs.lemmas.Bool.{and_cases, both_ways, cond_both, cases_Bool, cases_lt, false_from_ne_true, false≢true, ltb-true, ltb-false, not-true, not_from_false}
use Rattle.known_assigned.specs.declared.state.RunningHead.{RunningHead}
use Rattle.known_assigned.specs.declared.state.State.{State}
use Rattle.known_assigned.specs.declared.state.State.TheVariants.{Initialized, Pending, Ready}
use Rattle.known_assigned.specs.Ids.{is_among, with_ids, greatest}
use Rattle.known_assigned.specs.Known.{Known, is_initialized, overflows, made_anew, running_in}
use Rattle.transaction_model.specs.Transactions.{TransactionRecord, ended, Live}
use Rattle.transaction_model.specs.LegalTransactions.{TransactionOrigin, TransactionOriginRule, RunningRule, IsSpanned}
use Rattle.transaction_model.proofs.ParentLists.{Parents}
use Rattle.transaction_model.proofs.IdSets.{in_with_ids, put_with_ids, in_filter, kept_by_filter, up_to_greatest, below_greatest}
use Rattle.transaction_model.proofs.Endings.{TopsLive}
use Rattle.transaction_model.proofs.StandbyKept.{Kept, Accounted, InSet, Ahead, InGap, gap_of, pending_kept}

-- the listed ids that the commit log does not show ended, and the greatest that it does
abbrev pub still_live : (ℕ → Bool) → List ℕ → List ℕ
still_live shows xids = filter (λ y. not (shows y)) xids

abbrev pub last_shown : (ℕ → Bool) → List ℕ → ℕ
last_shown shows xids = greatest (filter shows xids)

-- a set made anew, by whether the record is overflowed
abbrev anew_with : Bool → Known → RunningHead → List ℕ → ℕ → Known
anew_with overflowed k head live last =
    record {
      xids = with_ids live [];
      latest = max (max k.latest head.latest.0) last;
      observed = max k.observed (head.next.0 - 1);
      overflowed = cond overflowed (head.next.0 - 1) k.overflowed;
      mode = cond overflowed (Pending (record { 0 = head.next.0 - 1 })) Ready;
    }

module _ (o : TransactionOrigin) (shows : ℕ → Bool) (k : Known) (parents : Parents) (log : List TransactionRecord) (kept : Kept o shows k parents log)
    (head : RunningHead) (xids : List ℕ) (origin : TransactionOriginRule o) (tops : TopsLive o log) (rule : RunningRule o head xids log)
    (below : k.observed < head.next.0) (from_oldest : (y : ℕ) → Live o.at y log → head.oldest.0 ≤ y) where
  ended_below : (y : ℕ) → ended o.at y log ≡ true → y < head.next.0
  ended_below y h =
      elim (cases_lt y head.next.0) [
        | inl e ↦ e
        | inr e ↦ absurd (both_ways (ended o.at y log) (rule.is_next.none_ended y e) h)
      ]

  listed_shown : (y : ℕ) → is_among y xids ≡ true → ended o.at y log ≡ true → shows y ≡ true
  listed_shown y h e = kept.shows_finished y (rule.listed y h e)

  anew_live : (y : ℕ) → is_among y (with_ids (still_live shows xids) []) ≡ true → Live o.at y log
  anew_live y h =
      elim (in_with_ids y (still_live shows xids) [] h) [
        | inl e ↦
            let (f, g) = in_filter (λ z. not (shows z)) y xids e in
            record {
              normal = rule.normal y f;
              not_ended =
                  false_from_ne_true (ended o.at y log)
                  (λ i. both_ways (shows y) (not-true (shows y) g) (listed_shown y f i));
            }
        | inr e ↦ absurd (false≢true e)
      ]

  last_below : last_shown shows xids < head.next.0
  last_below =
      let normal = rule.is_next.normal in
      below_greatest head.next.0 (filter shows xids) (omega arith)
      (λ y h. (rule.spanned y (in_filter shows y xids h).0).below_next)

  in_set_or_shown :
      (live_last : Known) → live_last.xids ≡ with_ids (still_live shows xids) [] → (y : ℕ) → is_among y xids ≡ true
      → Accounted o shows live_last parents y
  in_set_or_shown m same y h =
      elim (cases_Bool (shows y)) [
        | inl e ↦ Ahead e
        | inr e ↦
            InSet
            (subst (λ (s : List ℕ). is_among y s ≡ true) (sym same)
            (put_with_ids y (still_live shows xids) []
            (kept_by_filter (λ z. not (shows z)) y xids h (not_from_false (shows y) e))))
      ]

  ended_after : (y : ℕ) → overflows head ≡ false → ended o.at y log ≡ true
      → y ≤ max (max k.latest head.latest.0) (last_shown shows xids)
  ended_after y whole h =
      elim (cases_lt head.latest.0 y) [
        | inl low ↦
            let listed = rule.after_latest y whole low (ended_below y h) h in
            let last = up_to_greatest y (filter shows xids) (kept_by_filter shows y xids listed (listed_shown y listed h)) in
            omega arith
        | inr low ↦ omega arith
      ]

  -- a record with no top transaction listed leaves none live
  none_live : head.tops ≡ 0 → (y : ℕ) → Live o.at y log → y < head.next.0 → ⊥
  none_live none y l high =
      let top = tops y l in
      let first = origin.top_first y in
      let span : IsSpanned head (o.top y) = record { from_oldest = from_oldest (o.top y) top; below_next = omega arith } in
      let same = origin.top_of_top y in
      let less = rule.no_tops (o.top y) none (rule.tops (o.top y) span top same) top in
      omega arith

  is_listed : overflows head ≡ false → (y : ℕ) → Live o.at y log → y < head.next.0 → is_among y xids ≡ true
  is_listed whole y l high =
      elim (and_cases head.overflow (nat_lt 0 head.tops) whole) [
        | inl e ↦ rule.subs y (record { from_oldest = from_oldest y l; below_next = high }) l e
        | inr e ↦ let none = ltb-false 0 head.tops e in absurd (none_live (omega arith) y l high)
      ]

  anew_with_kept :
      (t : Bool) → overflows head ≡ t
      → Kept o shows (anew_with t k head (still_live shows xids) (last_shown shows xids)) parents log
  anew_with_kept true is =
      record {
        shows_finished = kept.shows_finished;
        set_live = anew_live;
        ended_observed = λ _ y h. let e = ended_below y h in omega arith;
        latest_observed =
            let e = ended_below head.latest.0 rule.latest in
            let f = kept.latest_observed in
            let g = last_below in omega arith;
        ended_latest = λ _ y h. let e = ended_below y h in omega arith;
        parents_agree = kept.parents_agree;
        accounted = λ _ y l h.
            let first = origin.top_first y in
            let normal = rule.is_next.normal in
            elim (cases_lt (o.top y) y) [
              | inl e ↦ InGap (omega arith) e
              | inr e ↦
                  in_set_or_shown (anew_with true k head (still_live shows xids) (last_shown shows xids)) refl y
                  (rule.tops y (record { from_oldest = from_oldest y l; below_next = omega arith }) l (omega arith))
            ];
      }
  anew_with_kept false is =
      record {
        shows_finished = kept.shows_finished;
        set_live = anew_live;
        ended_observed = λ _ y h. let e = ended_below y h in omega arith;
        latest_observed =
            let e = ended_below head.latest.0 rule.latest in
            let f = kept.latest_observed in
            let g = last_below in omega arith;
        ended_latest = λ _ y h. let e = ended_after y is h in omega arith;
        parents_agree = kept.parents_agree;
        accounted = λ _ y l h.
            let normal = rule.is_next.normal in
            in_set_or_shown (anew_with false k head (still_live shows xids) (last_shown shows xids)) refl y
            (is_listed is y l (omega arith));
      }

  pub anew_kept : Kept o shows (made_anew k head (still_live shows xids) (last_shown shows xids)) parents log
  unfolding made_anew
  anew_kept = anew_with_kept (overflows head) refl

  pub running_in_kept :
      (mode : State) → k.mode ≡ mode → head.oldest.0 - 1 ≤ k.latest
      → Kept o shows (running_in mode k head (still_live shows xids) (last_shown shows xids)) parents log
  running_in_kept Initialized is reached = anew_kept
  running_in_kept Ready is reached = kept
  running_in_kept (Pending until) is reached =
      cond_both (overflows head) (record k { mode = cond (nat_lt until.0 head.oldest.0) Ready (Pending until) })
      (made_anew k head (still_live shows xids) (last_shown shows xids)) (λ (m : Known). Kept o shows m parents log)
      (λ e.
      cond_both (nat_lt until.0 head.oldest.0) Ready (Pending until)
      (λ (m : State). Kept o shows (record k { mode = m }) parents log)
      (λ f.
      let gap : gap_of k.mode ≡ until.0 = ap gap_of is in
      pending_kept o shows k parents log kept until.0 head.oldest.0 (omega arith) (ap is_initialized is) reached
      from_oldest (ltb-true until.0 head.oldest.0 f))
      (λ f. subst (λ (m : State). Kept o shows (record k { mode = m }) parents log) is kept))
      (λ e. anew_kept)
