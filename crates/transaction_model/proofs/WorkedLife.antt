-- The worked life keeps to the rules, and its state is as worked by hand.
use Rattle.std.proofs.Common.{◌≡◌, ℕ, ◌<◌, ◌≤◌, true, false, ◌==◌, ◌||◌, cond, nat_lt, List, [], ◌∷◌, arith, refl, sym, ap, ◌∙◌, inl, inr, ◌⊎◌, subst}
use Rattle.std.proofs.lemmas.Bool.{both_ways, cases_Bool, cases_lt, eqb-true, false≢true, true≢false, le-ltb, or_left, lt-ltb, cond-true, cond-false, or_cases, or_from, false_from_ne_true}
use Rattle.known_assigned.specs.Known.{unobserved, after_observe, after_end, after_assign, past_oldest, made_anew, after_running}
use Rattle.known_assigned.specs.Ids.{is_among}
use Rattle.standby_snapshot.specs.Snapshot.{in_progress, take_of}
use Rattle.transaction_model.specs.Transactions.{Assignment, Running, TransactionRecord, committed, finished, ended, Live, named, first_next, is_settled, state_of}
use Rattle.transaction_model.specs.LegalTransactions.{TransactionOriginRule, RunningRule, CommitRule, AssignmentRule, Legal, greatest_next}
use Rattle.transaction_model.specs.StandbyStates.{Leads, StandbyState, at_start, forget_below, replay, set_parents, shown}
use Rattle.subtrans.specs.Parents.{topmost_of}
use Rattle.transaction_model.specs.WorkedLife.{worked_origin, worked_head, at_place, while_pending, at_opening, afterwards, worked_first, IsWorkedLife}
use Rattle.transaction_model.proofs.IdSets.{among_cases, among_first, among_later}
use Rattle.transaction_model.proofs.NoIds.{none_ended_at}

-- the top transaction of an id
tops_are :
    (x : ℕ)
    → ((x ≡ 4) × (worked_origin.top x ≡ 3)) ⊎ (((x ≡ 6) × (worked_origin.top x ≡ 5)) ⊎ (worked_origin.top x ≡ x))
tops_are x =
    elim (cases_Bool (x == 4)) [
      | inl e ↦ inl (eqb-true x 4 e, cond-true (x == 4) 3 (cond (x == 6) 5 x) e)
      | inr e ↦
          elim (cases_Bool (x == 6)) [
            | inl f ↦ inr (inl (eqb-true x 6 f, cond-false (x == 4) 3 (cond (x == 6) 5 x) e ∙ cond-true (x == 6) 5 x f))
            | inr f ↦ inr (inr (cond-false (x == 4) 3 (cond (x == 6) 5 x) e ∙ cond-false (x == 6) 5 x f))
          ]
    ]

none_committed : (x : ℕ) → 3 ≤ x → committed worked_origin.at x [] ≡ true → ⊥
unfolding committed
none_committed x normal h =
    elim (or_cases (x == 1 || x == 2) false h) [
      | inl e ↦
          elim (or_cases (x == 1) (x == 2) e) [
            | inl f ↦ let g = eqb-true x 1 f in omega arith
            | inr f ↦ let g = eqb-true x 2 f in omega arith
          ]
      | inr e ↦ false≢true e
    ]

none_ended : (x : ℕ) → 3 ≤ x → ended worked_origin.at x [] ≡ false
unfolding ended
none_ended x normal = none_ended_at x normal

worked_rule : TransactionOriginRule worked_origin
unfolding committed
worked_rule =
    record {
      top_of_top = λ x.
          elim (tops_are x) [
            | inl (e, f) ↦ ap worked_origin.top f ∙ sym f
            | inr (inl (e, f)) ↦ ap worked_origin.top f ∙ sym f
            | inr (inr f) ↦ ap worked_origin.top f
          ];
      top_first = λ x.
          elim (tops_are x) [ inl (e, f) ↦ omega arith | inr (inl (e, f)) ↦ omega arith | inr (inr f) ↦ omega arith ];
      top_live = λ x l.
          let normal = l.normal in
          let low : 3 ≤ worked_origin.top x =
          elim (tops_are x) [ inl (e, f) ↦ omega arith | inr (inl (e, f)) ↦ omega arith | inr (inr f) ↦ omega arith ] in
          record { normal = low; not_ended = none_ended (worked_origin.top x) low };
      top_committed = λ x normal h. absurd (none_committed x normal h);
      zero_not_committed = refl;
    }

abbrev first_running : List TransactionRecord
first_running = at_place 0 0 (Running (worked_head 5 3 2) (3 ∷ [])) ∷ []

not_ended_at_first : (x : ℕ) → 3 ≤ x → ended worked_origin.at x first_running ≡ false
unfolding ended
not_ended_at_first x normal = or_from (nat_lt x 3) (ended worked_origin.at x []) (le-ltb x 3 normal) (none_ended x normal)

first_rule : RunningRule worked_origin (worked_head 5 3 2) (3 ∷ []) first_running
unfolding ended named greatest_next
first_rule =
    record {
      is_next =
          record {
            normal = omega arith;
            above_seen = λ x h.
                elim (or_cases (0 == x) false h) [ inl e ↦ let f = eqb-true 0 x e in omega arith | inr e ↦ absurd (false≢true e) ];
            not_below = omega arith;
            none_ended = λ x h. not_ended_at_first x (omega arith);
          };
      tops = λ x span l e.
          let low = span.from_oldest in
          let high = span.below_next in
          elim (cases_lt x 4) [
            | inl f ↦ among_first x 3 [] (omega arith)
            | inr f ↦
                let four : x ≡ 4 = omega arith in
                let top : worked_origin.top x ≡ 3 = ap worked_origin.top four in absurd (omega arith)
          ];
      subs = λ x span l e. absurd (true≢false e);
      no_tops = λ x e h l. absurd (omega arith);
      spanned = λ x h.
          elim (among_cases x 3 [] h) [
            | inl e ↦ record { from_oldest = omega arith; below_next = omega arith }
            | inr e ↦ absurd (false≢true e)
          ];
      normal = λ x h. elim (among_cases x 3 [] h) [ inl e ↦ omega arith | inr e ↦ absurd (false≢true e) ];
      listed = λ x h e.
          elim (among_cases x 3 [] h) [
            | inl f ↦ absurd (both_ways (ended worked_origin.at x first_running) (not_ended_at_first x (omega arith)) e)
            | inr f ↦ absurd (false≢true f)
          ];
      subs_end = λ x h.
          elim (tops_are x) [
            | inl (e, f) ↦ absurd (omega arith)
            | inr (inl (e, f)) ↦ absurd (omega arith)
            | inr (inr f) ↦ or_left (nat_lt x 3) (ended worked_origin.at x []) (lt-ltb x 3 (omega arith))
          ];
      latest = refl;
      after_latest = λ x whole low high e. absurd (true≢false whole);
    }

live_of : (x n : ℕ) (log : List TransactionRecord) → n ≡ x → Live worked_origin.at n log → Live worked_origin.at x log
live_of x n log e l = subst (λ (y : ℕ). Live worked_origin.at y log) e l

-- who belongs to a top transaction with one subtransaction
tree_rule :
    (top sub : ℕ) (older : List TransactionRecord) → worked_origin.top top ≡ top → worked_origin.top sub ≡ top → top < sub
    → Live worked_origin.at top older → Live worked_origin.at sub older
    → ((x : ℕ) → worked_origin.top x ≡ top → is_among x (top ∷ sub ∷ []) ≡ true)
    → CommitRule worked_origin top (sub ∷ []) older
tree_rule top sub older is_top is_sub above l m all =
    record {
      is_top = is_top;
      live = λ x h.
          elim (among_cases x top (sub ∷ []) h) [
            | inl e ↦ live_of x top older e l
            | inr e ↦
                elim (among_cases x sub [] e) [ inl f ↦ live_of x sub older f m | inr f ↦ absurd (false≢true f) ]
          ];
      are_subs = λ x h.
          elim (among_cases x sub [] h) [
            | inl e ↦ (ap worked_origin.top (sym e) ∙ is_sub, omega arith)
            | inr e ↦ absurd (false≢true e)
          ];
      all = λ _ x l e. all x e;
    }

three_and_four : (x : ℕ) → worked_origin.top x ≡ 3 → is_among x (3 ∷ 4 ∷ []) ≡ true
three_and_four x h =
    elim (tops_are x) [
      | inl (e, f) ↦ among_later x 3 (4 ∷ []) (among_first x 4 [] (sym e))
      | inr (inl (e, f)) ↦ absurd (omega arith)
      | inr (inr f) ↦ among_first x 3 (4 ∷ []) (omega arith)
    ]

five_and_six : (x : ℕ) → worked_origin.top x ≡ 5 → is_among x (5 ∷ 6 ∷ []) ≡ true
five_and_six x h =
    elim (tops_are x) [
      | inl (e, f) ↦ absurd (omega arith)
      | inr (inl (e, f)) ↦ among_later x 5 (6 ∷ []) (among_first x 6 [] (sym e))
      | inr (inr f) ↦ among_first x 5 (6 ∷ []) (omega arith)
    ]

pending_rule : CommitRule worked_origin 3 (4 ∷ []) first_running
unfolding ended
pending_rule =
    tree_rule 3 4 first_running refl refl (omega arith) (record { normal = omega arith; not_ended = refl })
    (record { normal = omega arith; not_ended = refl }) three_and_four

abbrev second_running : List TransactionRecord
second_running = at_place 2 0 (Running (worked_head 6 5 4) (5 ∷ [])) ∷ while_pending

not_ended_at_second : (x : ℕ) → 5 ≤ x → ended worked_origin.at x second_running ≡ false
unfolding ended
not_ended_at_second x normal =
    or_from (nat_lt x 5) (is_among x (3 ∷ 4 ∷ []) || (nat_lt x 3 || ended worked_origin.at x [])) (le-ltb x 5 normal)
    (or_from (is_among x (3 ∷ 4 ∷ [])) (nat_lt x 3 || ended worked_origin.at x [])
    (false_from_ne_true (is_among x (3 ∷ 4 ∷ []))
    (λ h.
    elim (among_cases x 3 (4 ∷ []) h) [
      | inl e ↦ omega arith
      | inr e ↦ elim (among_cases x 4 [] e) [ inl f ↦ omega arith | inr f ↦ false≢true f ]
    ]))
    (not_ended_at_first x (omega arith)))

seen_at_second : (x : ℕ) → named x second_running ≡ true → x < 6
unfolding named
seen_at_second x h =
    elim (or_cases (0 == x) (is_among x (3 ∷ 4 ∷ []) || ((0 == x) || false)) h) [
      | inl e ↦ let f = eqb-true 0 x e in omega arith
      | inr e ↦
          elim (or_cases (is_among x (3 ∷ 4 ∷ [])) ((0 == x) || false) e) [
            | inl f ↦
                elim (among_cases x 3 (4 ∷ []) f) [
                  | inl g ↦ omega arith
                  | inr g ↦ elim (among_cases x 4 [] g) [ inl i ↦ omega arith | inr i ↦ absurd (false≢true i) ]
                ]
            | inr f ↦
                elim (or_cases (0 == x) false f) [
                  | inl g ↦ let i = eqb-true 0 x g in omega arith
                  | inr g ↦ absurd (false≢true g)
                ]
          ]
    ]

second_rule : RunningRule worked_origin (worked_head 6 5 4) (5 ∷ []) second_running
unfolding ended greatest_next
second_rule =
    record {
      is_next =
          record {
            normal = omega arith;
            above_seen = seen_at_second;
            not_below = omega arith;
            none_ended = λ x h. not_ended_at_second x (omega arith);
          };
      tops = λ x span l e.
          let low = span.from_oldest in
          let high = span.below_next in among_first x 5 [] (omega arith);
      subs = λ x span l e. absurd (true≢false e);
      no_tops = λ x e h l. absurd (omega arith);
      spanned = λ x h.
          elim (among_cases x 5 [] h) [
            | inl e ↦ record { from_oldest = omega arith; below_next = omega arith }
            | inr e ↦ absurd (false≢true e)
          ];
      normal = λ x h. elim (among_cases x 5 [] h) [ inl e ↦ omega arith | inr e ↦ absurd (false≢true e) ];
      listed = λ x h e.
          elim (among_cases x 5 [] h) [
            | inl f ↦ absurd (both_ways (ended worked_origin.at x second_running) (not_ended_at_second x (omega arith)) e)
            | inr f ↦ absurd (false≢true f)
          ];
      subs_end = λ x h.
          elim (cases_lt x 5) [
            | inl e ↦ or_left (nat_lt x 5) (is_among x (3 ∷ 4 ∷ []) || (nat_lt x 3 || ended worked_origin.at x [])) (lt-ltb x 5 e)
            | inr e ↦
                elim (tops_are x) [
                  | inl (f, g) ↦ absurd (omega arith)
                  | inr (inl (f, g)) ↦ absurd (omega arith)
                  | inr (inr g) ↦ absurd (omega arith)
                ]
          ];
      latest = refl;
      after_latest = λ x whole low high e. absurd (true≢false whole);
    }

assigned_rule : AssignmentRule worked_origin 5 (6 ∷ [])
assigned_rule =
    record {
      some = λ e. absurd (cc);
      are_subs = λ x h.
          elim (among_cases x 6 [] h) [
            | inl e ↦ (ap worked_origin.top (sym e), omega arith)
            | inr e ↦ absurd (false≢true e)
          ];
    }

abbrev assigned_log : List TransactionRecord
assigned_log = at_place 3 5 (Assignment 5 (6 ∷ [])) ∷ second_running

seven_rule : CommitRule worked_origin 7 [] assigned_log
unfolding ended
seven_rule =
    record {
      is_top = refl;
      live = λ x h.
          elim (among_cases x 7 [] h) [
            | inl e ↦ live_of x 7 assigned_log e (record { normal = omega arith; not_ended = refl })
            | inr e ↦ absurd (false≢true e)
          ];
      are_subs = λ x h. absurd (false≢true h);
      all = λ _ x l h.
          elim (tops_are x) [
            | inl (e, f) ↦ absurd (omega arith)
            | inr (inl (e, f)) ↦ absurd (omega arith)
            | inr (inr f) ↦ among_first x 7 [] (omega arith)
          ];
    }

afterwards_rule : CommitRule worked_origin 5 (6 ∷ []) at_opening
unfolding ended
afterwards_rule =
    tree_rule 5 6 at_opening refl refl (omega arith) (record { normal = omega arith; not_ended = refl })
    (record { normal = omega arith; not_ended = refl }) five_and_six

-- each life leads to a state
abbrev state_along : List TransactionRecord → StandbyState
state_along [] = at_start
state_along (r ∷ life) = forget_below 0 (replay (shown worked_first life) r.xid r.kind (state_along life))

leads_along : (life : List TransactionRecord) → Leads worked_first life (state_along life)
leads_along [] = refl
leads_along (r ∷ life) = (state_along life, 0, leads_along life, λ x h. omega arith, refl)

worked_legal : Legal worked_origin afterwards
unfolding Legal
worked_legal =
    (afterwards_rule, (tt, (seven_rule, (assigned_rule, (second_rule, (pending_rule, (first_rule, worked_rule)))))))

pub worked_life_is : IsWorkedLife
unfolding committed finished first_next is_settled state_of unobserved after_observe after_end after_assign past_oldest made_anew after_running shown set_parents topmost_of take_of in_progress
worked_life_is =
    record {
      legal = worked_legal;
      pending = refl;
      ready = refl;
      state = state_along at_opening;
      leads = leads_along at_opening;
      set = refl;
      xmin = refl;
      missing = refl;
      runs = refl;
      not_yet = refl;
      commits = refl;
    }
