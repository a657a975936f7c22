-- A legal log with the two records of a promotion is legal again.
use Rattle.std.proofs.Common.{◌≡◌, ℕ, ◌-◌, ◌<◌, ◌≤◌, max, true, List, [], ◌∷◌, ◌++◌, arith, refl, sym, ap, ◌∙◌, inl, inr, subst, nat_le}
use Rattle.std.proofs.lemmas.Bool.{or_cases, or_from, cases_lt, false_from_ne_true, cond-true, cond-false, eqb-true, false≢true, le-leb, lt-leb, lt-ltb, ltb-true}
use Rattle.known_assigned.specs.Ids.{is_among}
use Rattle.transaction_model.specs.Transactions.{Kind, Commit, Abort, Assignment, Running, Shutdown, Online, Other, TransactionRecord, Statuses, ends, names, committed, ended, Live, named}
use Rattle.transaction_model.specs.LegalTransactions.{TransactionOrigin, TransactionOriginRule, IsNext, AreSubsOf, SubsEnd, RuleOf, Legal, greatest_next, next_in}
use Rattle.transaction_model.specs.Promotions.{next_past, promotion_next, nothing_runs, assigned_anew}
use Rattle.transaction_model.specs.TransactionLaws.{OneXmin, PromotionLegal}
use Rattle.transaction_model.proofs.IdSets.{among_first, among_later, up_to_greatest}
use Rattle.transaction_model.proofs.Endings.{rule_of, legal_rest, ended_by, written, next_before, next_above_seen, next_not_below}
use Rattle.transaction_model.proofs.Replayed.{oldest_below}
use Rattle.transaction_model.proofs.NoIds.{nothing_rule}

pub one_xmin : OneXmin
one_xmin s log a b p q =
    let h = p.least b q.live in
    let g = q.least a p.live in omega arith

module _ (o : TransactionOrigin) (n : ℕ) where
  -- below the next id the map is as before, from it on each id is its own top transaction
  top_below : (x : ℕ) → x < n → (assigned_anew n o).top x ≡ o.top x
  top_below x h = cond-false (nat_le n x) x (o.top x) (lt-leb n x h)

  top_anew : (x : ℕ) → n ≤ x → (assigned_anew n o).top x ≡ x
  top_anew x h = cond-true (nat_le n x) x (o.top x) (le-leb n x h)

  anew_origin : TransactionOriginRule o → TransactionOriginRule (assigned_anew n o)
  anew_origin origin =
      record {
        top_of_top = λ x.
            elim (cases_lt x n) [
              | inl h ↦
                  let first = origin.top_first x in
                  let e = top_below x h in
                  ap (λ (y : ℕ). (assigned_anew n o).top y) e
                  ∙ top_below (o.top x) (omega arith)
                  ∙ origin.top_of_top x
                  ∙ sym e
              | inr h ↦ ap (λ (y : ℕ). (assigned_anew n o).top y) (top_anew x h)
            ];
        top_first = λ x.
            elim (cases_lt x n) [
              | inl h ↦
                  let first = origin.top_first x in
                  let e = top_below x h in omega arith
              | inr h ↦ let e = top_anew x h in omega arith
            ];
        top_live = λ x l.
            elim (cases_lt x n) [
              | inl h ↦ subst (λ (y : ℕ). Live o.at y []) (sym (top_below x h)) (origin.top_live x l)
              | inr h ↦ subst (λ (y : ℕ). Live o.at y []) (sym (top_anew x h)) l
            ];
        top_committed = λ x normal c.
            elim (cases_lt x n) [
              | inl h ↦ subst (λ (y : ℕ). committed o.at y [] ≡ true) (sym (top_below x h)) (origin.top_committed x normal c)
              | inr h ↦ subst (λ (y : ℕ). committed o.at y [] ≡ true) (sym (top_anew x h)) c
            ];
        zero_not_committed = origin.zero_not_committed;
      }

  -- an id of a top transaction below the next one is below it
  below_of_top : (x xid : ℕ) → xid < n → (assigned_anew n o).top x ≡ xid → x < n
  below_of_top x xid h e =
      elim (cases_lt x n) [ inl g ↦ g | inr g ↦ let f = top_anew x g in absurd (omega arith) ]

  subs_anew : (top : ℕ) (subs : List ℕ) → ((x : ℕ) → is_among x subs ≡ true → x < n) → AreSubsOf o top subs
      → AreSubsOf (assigned_anew n o) top subs
  subs_anew top subs low are x h = let (e, f) = are x h in (top_below x (low x h) ∙ e, f)

  subs_end_anew : (low : ℕ) (now : List TransactionRecord) → low ≤ n → SubsEnd o low now → SubsEnd (assigned_anew n o) low now
  subs_end_anew low now h all x less =
      elim (cases_lt x n) [
        | inl g ↦ let e = top_below x g in all x (omega arith)
        | inr g ↦ let e = top_anew x g in absurd (omega arith)
      ]

  -- a record keeps to the rules where the ids from the next one on are assigned anew
  rule_anew :
      (start end xid : ℕ) (kind : Kind) (older : List TransactionRecord)
      → IsNext o.at n (written start end xid kind older)
      → RuleOf o xid kind older (written start end xid kind older)
      → RuleOf (assigned_anew n o) xid kind older (written start end xid kind older)
  rule_anew start end xid (Commit subs) older next rule =
      let r : TransactionRecord = record { start = start; end = end; xid = xid; kind = Commit subs } in
      let low = next_above_seen o.at n r older next in
      let own = low xid (among_first xid xid subs refl) in
      record {
        is_top = top_below xid own ∙ rule.is_top;
        live = rule.live;
        are_subs = subs_anew xid subs (λ x h. low x (among_later x xid subs h)) rule.are_subs;
        all = λ top x l e.
            let below = below_of_top x xid own e in rule.all rule.is_top x l (sym (top_below x below) ∙ e);
      }
  rule_anew start end xid (Abort subs) older next rule =
      let r : TransactionRecord = record { start = start; end = end; xid = xid; kind = Abort subs } in
      let low = next_above_seen o.at n r older next in
      let own = low xid (among_first xid xid subs refl) in
      record {
        live = rule.live;
        are_subs =
            subst (λ (t : ℕ). AreSubsOf (assigned_anew n o) t subs) (sym (top_below xid own))
            (subs_anew (o.top xid) subs (λ x h. low x (among_later x xid subs h)) rule.are_subs);
        all = λ top x l e.
            let below = below_of_top x xid own e in
            rule.all (sym (top_below xid own) ∙ top) x l (sym (top_below x below) ∙ e);
      }
  rule_anew start end xid (Assignment top subs) older next rule =
      let r : TransactionRecord = record { start = start; end = end; xid = xid; kind = Assignment top subs } in
      let low = next_above_seen o.at n r older next in
      record {
        some = rule.some;
        are_subs = subs_anew top subs (λ x h. low x (among_later x xid subs h)) rule.are_subs;
      }
  rule_anew start end xid (Running head xids) older next rule =
      let r : TransactionRecord = record { start = start; end = end; xid = xid; kind = Running head xids } in
      let high = next_not_below o.at n r older next in
      record {
        is_next = rule.is_next;
        tops = λ x span l e.
            let below = span.below_next in rule.tops x span l (sym (top_below x (omega arith)) ∙ e);
        subs = rule.subs;
        no_tops = λ x none h l.
            let below = (rule.spanned x h).below_next in
            let less = rule.no_tops x none h l in
            let e = top_below x (omega arith) in omega arith;
        spanned = rule.spanned;
        normal = rule.normal;
        listed = rule.listed;
        subs_end =
            subs_end_anew head.oldest.0 (r ∷ older)
            (oldest_below o.at r older head.oldest.0 n next (λ y e. lt-ltb y head.oldest.0 e)) rule.subs_end;
        latest = rule.latest;
        after_latest = rule.after_latest;
      }
  rule_anew start end xid (Shutdown next_id) older next rule =
      let r : TransactionRecord = record { start = start; end = end; xid = xid; kind = Shutdown next_id } in
      record {
        is_next = rule.is_next;
        subs_end =
            subs_end_anew next_id (r ∷ older) (oldest_below o.at r older next_id n next (λ y e. lt-ltb y next_id e))
            rule.subs_end;
      }
  rule_anew start end xid (Online redo next_id) older next rule =
      record { is_start = rule.is_start; not_before = rule.not_before; is_next = rule.is_next }
  rule_anew start end xid Other older next rule = tt

  legal_anew : (log : List TransactionRecord) → IsNext o.at n log → Legal o log → Legal (assigned_anew n o) log
  unfolding Legal
  legal_anew [] next legal = anew_origin legal
  legal_anew (r ∷ older) next (rule, legal) =
      (rule_anew r.start r.end r.xid r.kind older next rule, legal_anew older (next_before o.at n r older next) legal)

-- the next id of a promotion had not been assigned
past_sees : (x xid : ℕ) (kind : Kind) → names x xid kind ≡ true → x < next_past xid kind
past_sees x xid (Commit subs) h = let e = up_to_greatest x (xid ∷ subs) h in omega arith
past_sees x xid (Abort subs) h = let e = up_to_greatest x (xid ∷ subs) h in omega arith
past_sees x xid (Assignment top subs) h = let e = up_to_greatest x (xid ∷ subs) h in omega arith
past_sees x xid (Running head xids) h = let e = eqb-true xid x h in omega arith
past_sees x xid (Shutdown next) h = let e = eqb-true xid x h in omega arith
past_sees x xid (Online redo next) h = let e = eqb-true xid x h in omega arith
past_sees x xid Other h = let e = eqb-true xid x h in omega arith

past_next : (xid : ℕ) (kind : Kind) → next_in kind ≤ next_past xid kind
past_next xid (Commit subs) = omega arith
past_next xid (Abort subs) = omega arith
past_next xid (Assignment top subs) = omega arith
past_next xid (Running head xids) = omega arith
past_next xid (Shutdown next) = omega arith
past_next xid (Online redo next) = omega arith
past_next xid Other = omega arith

past_ends :
    (o : TransactionOrigin) (start end xid : ℕ) (kind : Kind) (older : List TransactionRecord)
    → RuleOf o xid kind older (written start end xid kind older) → (x : ℕ) → ends x xid kind ≡ true → x < next_past xid kind
past_ends o start end xid (Commit subs) older rule x h = let e = up_to_greatest x (xid ∷ subs) h in omega arith
past_ends o start end xid (Abort subs) older rule x h = let e = up_to_greatest x (xid ∷ subs) h in omega arith
past_ends o start end xid (Assignment top subs) older rule x h = absurd (false≢true h)
past_ends o start end xid (Running head xids) older rule x h =
    let e = ltb-true x head.oldest.0 h in
    let r : TransactionRecord = record { start = start; end = end; xid = xid; kind = Running head xids } in
    let f = oldest_below o.at r older head.oldest.0 head.next.0 rule.is_next (λ y g. lt-ltb y head.oldest.0 g) in omega arith
past_ends o start end xid (Shutdown next) older rule x h = let e = ltb-true x next h in omega arith
past_ends o start end xid (Online redo next) older rule x h = absurd (false≢true h)
past_ends o start end xid Other older rule x h = absurd (false≢true h)

-- what had not been assigned before a record, and is past what the record names and ends, has not been with it
next_with :
    (s : Statuses) (n : ℕ) (r : TransactionRecord) (older : List TransactionRecord) → IsNext s n older
    → ((x : ℕ) → names x r.xid r.kind ≡ true → x < n) → next_in r.kind ≤ n
    → ((x : ℕ) → ends x r.xid r.kind ≡ true → x < n) → IsNext s n (r ∷ older)
unfolding named greatest_next ended
next_with s n r older next sees_below not_below ends_below =
    record {
      normal = next.normal;
      above_seen = λ x h.
          elim (or_cases (names x r.xid r.kind) (named x older) h) [ inl e ↦ sees_below x e | inr e ↦ next.above_seen x e ];
      not_below = let h = next.not_below in omega arith;
      none_ended = λ x h.
          or_from (ends x r.xid r.kind) (ended s x older)
          (false_from_ne_true (ends x r.xid r.kind) (λ e. let g = ends_below x e in omega arith)) (next.none_ended x h);
    }

next_higher :
    (s : Statuses) (n m : ℕ) (log : List TransactionRecord) → n ≤ m → IsNext s n log → IsNext s m log
next_higher s n m log h next =
    record {
      normal = let e = next.normal in omega arith;
      above_seen = λ x g. let e = next.above_seen x g in omega arith;
      not_below = let e = next.not_below in omega arith;
      none_ended = λ x g. next.none_ended x (omega arith);
    }

promotion_is_next :
    (o : TransactionOrigin) (old life : List TransactionRecord) (control : ℕ) → Legal o (life ++ old) → IsNext o.at control old
    → IsNext o.at (promotion_next control life) (life ++ old)
unfolding promotion_next
promotion_is_next o old [] control legal next = next
promotion_is_next o old (r ∷ life) control legal next =
    let rest = promotion_is_next o old life control (legal_rest o r (life ++ old) legal) next in
    let m : ℕ = max (next_past r.xid r.kind) (promotion_next control life) in
    next_with o.at m r (life ++ old)
    (next_higher o.at (promotion_next control life) m (life ++ old) (omega arith) rest)
    (λ x h. let e = past_sees x r.xid r.kind h in omega arith) (let e = past_next r.xid r.kind in omega arith)
    (λ x h.
    let e = past_ends o r.start r.end r.xid r.kind (life ++ old) (rule_of o r (life ++ old) legal) x h in omega arith)

-- by the running record of a promotion each id below its next one has ended
nothing_runs_rule :
    (o : TransactionOrigin) (n start end : ℕ) (older : List TransactionRecord) → IsNext o.at n older
    → RuleOf (assigned_anew n o) 0 (nothing_runs n) older (written start end 0 (nothing_runs n) older)
nothing_runs_rule o n start end older next =
    let r : TransactionRecord = record { start = start; end = end; xid = 0; kind = nothing_runs n } in
    let normal = next.normal in
    nothing_rule (assigned_anew n o) n (n - 1) (r ∷ older) (omega arith)
    (next_with o.at n r older next (λ x h. let e = eqb-true 0 x h in omega arith) (omega arith) (λ x h. ltb-true x n h))
    (λ x h.
    elim (cases_lt x n) [
      | inl g ↦ ended_by o.at x r older (lt-ltb x n g)
      | inr g ↦ let e = top_anew o n x g in absurd (omega arith)
    ])
    (ended_by o.at (n - 1) r older (lt-ltb (n - 1) n (omega arith)))

pub promotion_legal : PromotionLegal
unfolding Legal
promotion_legal o old life control from middle to legal next =
    let n : ℕ = promotion_next control life in
    let is = promotion_is_next o old life control legal next in
    let r : TransactionRecord = record { start = from; end = middle; xid = 0; kind = Other } in
    let normal = is.normal in
    let ended_recovery : IsNext o.at n (r ∷ (life ++ old)) =
    next_with o.at n r (life ++ old) is (λ x h. let e = eqb-true 0 x h in omega arith) (omega arith)
    (λ x h. absurd (false≢true h)) in
    (nothing_runs_rule o n middle to (r ∷ (life ++ old)) ended_recovery, (tt, legal_anew o n (life ++ old) is legal))
