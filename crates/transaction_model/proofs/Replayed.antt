-- A standby's state keeps its invariant over each record of a legal log, and so along a life.
use Rattle.std.proofs.Common.{◌≡◌, ℕ, ◌<◌, ◌≤◌, max, Bool, true, not, cond, List, [], ◌∷◌, ◌++◌, arith, refl, sym, ◌∙◌, inl, inr, subst, nat_lt, nat_le}
use Rattle.std.proofs.lemmas.Bool.{or_cases, or_left, or_right, both_ways, cond_both, cases_lt, false≢true, lt-ltb, le-ltb, ltb-true, ltb-false, eq-eqb}
use Rattle.known_assigned.specs.declared.state.RunningHead.{RunningHead}
use Rattle.known_assigned.specs.declared.state.State.{State}
use Rattle.known_assigned.specs.declared.state.State.TheVariants.{Initialized, Pending, Ready}
use Rattle.known_assigned.specs.Ids.{is_among, without, greatest}
use Rattle.known_assigned.specs.Known.{Known, is_initialized, overflows, unobserved, after_observe, after_end, after_assign, past_oldest, made_anew, running_in, after_running, after_shutdown}
use Rattle.transaction_model.specs.Transactions.{Kind, Commit, Abort, Assignment, Running, Shutdown, Online, Other, TransactionRecord, Statuses, finishes, ends, finished, ended, Live}
use Rattle.transaction_model.specs.LegalTransactions.{TransactionOrigin, TransactionOriginRule, IsNext, RuleOf, RunningRule, AssignmentRule, ShutdownRule, Legal}
use Rattle.transaction_model.specs.StandbyStates.{Leads, MayForget, StandbyState, at_start, effect, forget_below, last_named, replay, set_parents, shown}
use Rattle.subtrans.specs.Parents.{from_sub}
use Rattle.transaction_model.proofs.ParentLists.{AgreeAll, Parents, agree_from, agree_set, forgotten, from_sub_is, parent_in, set_parents_is, with_top}
use Rattle.transaction_model.specs.TransactionLaws.{ShowsFinished}
use Rattle.transaction_model.proofs.IdSets.{Rising, rising_filter, rising_with_ids, among_cases, among_first, among_later, below_greatest}
use Rattle.transaction_model.proofs.Endings.{origin_rule, rule_of, legal_rest, ended_cases, ended_by, not_ended_before, live_before, live_after, live_top, written, TopsLive, next_before, next_above_seen, next_not_below}
use Rattle.transaction_model.proofs.StandbyKept.{Kept, Accounted, InSet, ByParent, Ahead, InGap, TopAhead, observe_kept, end_kept, assign_kept, expire_kept, shutdown_kept, nothing_kept, forget_kept, same_parents}
use Rattle.transaction_model.proofs.RunningKept.{running_in_kept, still_live, last_shown}

-- the invariant of a state at a position: what it keeps, that known parents are top transactions, that the set is
-- in rising order, and that no id observed is one that had not been assigned
pub record Standing (o : TransactionOrigin) (shows : ℕ → Bool) (k : StandbyState) (log : List TransactionRecord) : Type 0 where
  pub kept : Kept o shows k.known (parent_in k.parents) log
  pub agree : AgreeAll o k.parents
  pub rising : Rising k.known.xids
  pub unassigned : (n : ℕ) → IsNext o.at n log → k.known.observed < n

more_accounted :
    (o : TransactionOrigin) (shows shows' : ℕ → Bool) (k : Known) (parents : Parents) (x : ℕ) → Accounted o shows k parents x
    → ((y : ℕ) → shows y ≡ true → shows' y ≡ true) → Accounted o shows' k parents x
more_accounted o shows shows' k parents x (InSet h) more = InSet h
more_accounted o shows shows' k parents x (ByParent p h l) more = ByParent p h l
more_accounted o shows shows' k parents x (Ahead h) more = Ahead (more x h)
more_accounted o shows shows' k parents x (InGap h l) more = InGap h l
more_accounted o shows shows' k parents x (TopAhead h) more = TopAhead (more (o.top x) h)

-- a commit log that shows more
more_shown :
    (o : TransactionOrigin) (shows shows' : ℕ → Bool) (k : Known) (parents : Parents) (log : List TransactionRecord)
    → Kept o shows k parents log → ((y : ℕ) → shows y ≡ true → shows' y ≡ true) → Kept o shows' k parents log
more_shown o shows shows' k parents log kept more =
    record {
      shows_finished = λ x h. more x (kept.shows_finished x h);
      set_live = kept.set_live;
      ended_observed = kept.ended_observed;
      latest_observed = kept.latest_observed;
      ended_latest = kept.ended_latest;
      parents_agree = kept.parents_agree;
      accounted = λ begun x l h. more_accounted o shows shows' k parents x (kept.accounted begun x l h) more;
    }

finished_shown :
    (s : Statuses) (shows : ℕ → Bool) (r : TransactionRecord) (older : List TransactionRecord)
    → ((y : ℕ) → finishes y r.xid r.kind ≡ true → shows y ≡ true) → ((y : ℕ) → finished s y older ≡ true → shows y ≡ true)
    → (y : ℕ) → finished s y (r ∷ older) ≡ true → shows y ≡ true
unfolding finished
finished_shown s shows r older now before y h =
    elim (or_cases (finishes y r.xid r.kind) (finished s y older) h) [ inl e ↦ now y e | inr e ↦ before y e ]

module _ (o : TransactionOrigin) (shows shows' : ℕ → Bool) (k : Known) (parents : Parents) (start end xid : ℕ) (older : List TransactionRecord)
    (origin : TransactionOriginRule o) (kept : Kept o shows k parents older) (more : (y : ℕ) → shows y ≡ true → shows' y ≡ true) where
  -- a commit or an abort
  tree_kept :
      (kind : Kind) (out : List ℕ) → greatest out ≤ k.observed → ((y : ℕ) → ends y xid kind ≡ is_among y out)
      → ((y : ℕ) → finishes y xid kind ≡ is_among y out) → ((y : ℕ) → finishes y xid kind ≡ true → shows' y ≡ true)
      → Kept o shows' (after_end k out) parents (written start end xid kind older)
  tree_kept kind out reached same fin now =
      let r : TransactionRecord = record { start = start; end = end; xid = xid; kind = kind } in
      end_kept o shows k parents older kept shows' (r ∷ older) out reached more
      (finished_shown o.at shows' r older now (λ y h. more y (kept.shows_finished y h)))
      (λ y h. elim (ended_cases o.at y r older h) [ inl e ↦ inl (sym (same y) ∙ e) | inr e ↦ inr e ])
      (λ y l e. live_after o.at y r older l (same y ∙ e))
      (λ y l. (live_before o.at y r older l, sym (same y) ∙ (not_ended_before o.at y r older l.not_ended).0))

  running_kept :
      (head : RunningHead) (xids : List ℕ) → RunningRule o head xids (written start end xid (Running head xids) older)
      → TopsLive o (written start end xid (Running head xids) older) → k.observed < head.next.0
      → Kept o shows (after_running k head (still_live shows xids) (last_shown shows xids)) parents
      (written start end xid (Running head xids) older)
  unfolding after_running past_oldest finished
  running_kept head xids rule tops below =
      let r : TransactionRecord = record { start = start; end = end; xid = xid; kind = Running head xids } in
      let lives : (y : ℕ) → Live o.at y (r ∷ older) → Live o.at y older × (head.oldest.0 ≤ y) =
      λ y l. (live_before o.at y r older l, ltb-false y head.oldest.0 (not_ended_before o.at y r older l.not_ended).0) in
      let past : Kept o shows (past_oldest k head.oldest.0) parents (r ∷ older) =
      expire_kept o shows k parents older kept (r ∷ older) head.oldest.0 (λ y h. h)
      (λ y h.
      elim (ended_cases o.at y r older h) [ inl e ↦ inl (ltb-true y head.oldest.0 e) | inr e ↦ inr e ])
      (λ y l e. live_after o.at y r older l (le-ltb y head.oldest.0 e)) lives in
      let reached : head.oldest.0 ≤ head.next.0 =
      elim (cases_lt head.next.0 head.oldest.0) [
        | inl e ↦
            absurd
            (both_ways (ended o.at head.next.0 (r ∷ older)) (rule.is_next.none_ended head.next.0 (omega arith))
            (ended_by o.at head.next.0 r older (lt-ltb head.next.0 head.oldest.0 e)))
        | inr e ↦ e
      ] in
      let normal = rule.is_next.normal in
      running_in_kept o shows (past_oldest k head.oldest.0) parents (r ∷ older) past head xids origin tops rule (omega arith)
      (λ y l. (lives y l).1) k.mode refl (omega arith)

  checkpoint_kept :
      (next : ℕ) → ShutdownRule o next (written start end xid (Shutdown next) older) → k.observed < next
      → Kept o shows (after_shutdown k next) parents (written start end xid (Shutdown next) older)
  unfolding finished
  checkpoint_kept next rule below =
      let r : TransactionRecord = record { start = start; end = end; xid = xid; kind = Shutdown next } in
      shutdown_kept o shows k parents older kept (r ∷ older) next rule.is_next.normal below (λ y h. h)
      (λ y h.
      elim (cases_lt y next) [
        | inl e ↦ e
        | inr e ↦ absurd (both_ways (ended o.at y (r ∷ older)) (rule.is_next.none_ended y e) h)
      ])
      (λ y l. ltb-false y next (not_ended_before o.at y r older l.not_ended).0)

-- an id is reached by its observation
observe_reaches : (k : Known) (x : ℕ) → x ≤ (after_observe k x).observed
unfolding after_observe
observe_reaches k x = omega arith

-- what a record observes, and what its rule then observes, is below an id that had not been assigned
observe_observed : (k : Known) (x n : ℕ) → k.observed < n → x < n → (after_observe k x).observed < n
unfolding after_observe
observe_observed k x n was now = omega arith

end_observed : (k : Known) (out : List ℕ) → (after_end k out).observed ≡ k.observed
unfolding after_end
end_observed k out = refl

assign_observed : (k : Known) (top : ℕ) (subs : List ℕ) → (after_assign k top subs).observed ≡ k.observed
unfolding after_assign
assign_observed k top subs =
    cond_both (is_initialized k.mode) k
    (record k { xids = without subs k.xids; overflowed = max k.overflowed (greatest (top ∷ subs)) })
    (λ (m : Known). m.observed ≡ k.observed) (λ e. refl) (λ e. refl)

running_in_observed :
    (mode : State) (k : Known) (head : RunningHead) (live : List ℕ) (last n : ℕ) → k.observed < n → head.next.0 ≤ n → 0 < n
    → (running_in mode k head live last).observed < n
unfolding made_anew
running_in_observed Initialized k head live last n was now normal = omega arith
running_in_observed Ready k head live last n was now normal = was
running_in_observed (Pending until) k head live last n was now normal =
    cond_both (overflows head) (record k { mode = cond (nat_lt until.0 head.oldest.0) Ready (Pending until) })
    (made_anew k head live last) (λ (m : Known). m.observed < n) (λ e. was) (λ e. omega arith)

running_observed :
    (k : Known) (head : RunningHead) (live : List ℕ) (last n : ℕ) → k.observed < n → head.next.0 ≤ n → head.oldest.0 ≤ n → 0 < n
    → (after_running k head live last).observed < n
unfolding after_running past_oldest
running_observed k head live last n was now oldest normal =
    running_in_observed k.mode (past_oldest k head.oldest.0) head live last n (omega arith) now normal

shutdown_observed : (k : Known) (next n : ℕ) → k.observed < n → next ≤ n → 0 < n → (after_shutdown k next).observed < n
unfolding after_shutdown
shutdown_observed k next n was now normal = omega arith

top_below : (o : TransactionOrigin) (top : ℕ) (subs : List ℕ) (n : ℕ) → AssignmentRule o top subs → ((y : ℕ) → is_among y subs ≡ true → y < n)
    → top < n
top_below o top [] n rule below = absurd (rule.some refl)
top_below o top (x ∷ subs) n rule below =
    let (same, less) = rule.are_subs x (among_first x x subs refl) in
    let high = below x (among_first x x subs refl) in omega arith

-- a record does not end an id that had not been assigned with it
pub oldest_below :
    (s : Statuses) (r : TransactionRecord) (older : List TransactionRecord) (low n : ℕ) → IsNext s n (r ∷ older)
    → ((y : ℕ) → y < low → ends y r.xid r.kind ≡ true) → low ≤ n
oldest_below s r older low n next all =
    elim (cases_lt n low) [
      | inl e ↦
          absurd (both_ways (ended s n (r ∷ older)) (next.none_ended n (omega arith)) (ended_by s n r older (all n e)))
      | inr e ↦ e
    ]

-- a record names no id that had not been assigned with it
named_below :
    (o : TransactionOrigin) (start end xid : ℕ) (kind : Kind) (older : List TransactionRecord)
    → RuleOf o xid kind older (written start end xid kind older) → (n : ℕ)
    → IsNext o.at n (written start end xid kind older) → last_named xid kind < n
named_below o start end xid (Commit subs) older rule n next =
    let r : TransactionRecord = record { start = start; end = end; xid = xid; kind = Commit subs } in
    let normal = next.normal in below_greatest n (xid ∷ subs) (omega arith) (next_above_seen o.at n r older next)
named_below o start end xid (Abort subs) older rule n next =
    let r : TransactionRecord = record { start = start; end = end; xid = xid; kind = Abort subs } in
    let normal = next.normal in below_greatest n (xid ∷ subs) (omega arith) (next_above_seen o.at n r older next)
named_below o start end xid (Assignment top subs) older rule n next =
    let r : TransactionRecord = record { start = start; end = end; xid = xid; kind = Assignment top subs } in
    let normal = next.normal in
    let own : xid < n = next_above_seen o.at n r older next xid (among_first xid xid subs refl) in
    let below : (y : ℕ) → is_among y subs ≡ true → y < n = λ y h. next_above_seen o.at n r older next y (among_later y xid subs h) in
    let first = top_below o top subs n rule below in
    below_greatest n (xid ∷ top ∷ subs) (omega arith)
    (λ y h.
    elim (among_cases y xid (top ∷ subs) h) [
      | inl e ↦ omega arith
      | inr e ↦ elim (among_cases y top subs e) [ inl f ↦ omega arith | inr f ↦ below y f ]
    ])
named_below o start end xid (Running head xids) older rule n next =
    next_above_seen o.at n (record { start = start; end = end; xid = xid; kind = Running head xids }) older next xid
    (eq-eqb xid xid refl)
named_below o start end xid (Shutdown next_id) older rule n next =
    next_above_seen o.at n (record { start = start; end = end; xid = xid; kind = Shutdown next_id }) older next xid
    (eq-eqb xid xid refl)
named_below o start end xid (Online redo next_id) older rule n next =
    next_above_seen o.at n (record { start = start; end = end; xid = xid; kind = Online redo next_id }) older next xid
    (eq-eqb xid xid refl)
named_below o start end xid Other older rule n next =
    next_above_seen o.at n (record { start = start; end = end; xid = xid; kind = Other }) older next xid (eq-eqb xid xid refl)

-- each record keeps what a state keeps, once the ids that it names are observed
effect_kept :
    (o : TransactionOrigin) (shows shows' : ℕ → Bool) (k : StandbyState) (start end xid : ℕ) (kind : Kind) (older : List TransactionRecord)
    → TransactionOriginRule o → RuleOf o xid kind older (written start end xid kind older)
    → TopsLive o (written start end xid kind older) → Kept o shows k.known (parent_in k.parents) older
    → last_named xid kind ≤ k.known.observed
    → ((n : ℕ) → IsNext o.at n (written start end xid kind older) → k.known.observed < n)
    → ((y : ℕ) → shows y ≡ true → shows' y ≡ true) → ((y : ℕ) → finishes y xid kind ≡ true → shows' y ≡ true)
    → Kept o shows' (effect shows xid kind k).known (parent_in (effect shows xid kind k).parents) (written start end xid kind older)
unfolding finished ended
effect_kept o shows shows' k start end xid (Commit subs) older origin rule tops kept reached below more now =
    tree_kept o shows shows' k.known (parent_in k.parents) start end xid older origin kept more (Commit subs) (xid ∷ subs)
    reached (λ y. refl) (λ y. refl) now
effect_kept o shows shows' k start end xid (Abort subs) older origin rule tops kept reached below more now =
    tree_kept o shows shows' k.known (parent_in k.parents) start end xid older origin kept more (Abort subs) (xid ∷ subs)
    reached (λ y. refl) (λ y. refl) now
effect_kept o shows shows' k start end xid (Assignment top subs) older origin rule tops kept reached below more now =
    let log : List TransactionRecord = written start end xid (Assignment top subs) older in
    let next : Known = after_assign k.known top subs in
    more_shown o shows shows' next (parent_in (set_parents top subs k.parents)) log
    (same_parents o shows next (with_top top subs (parent_in k.parents)) (parent_in (set_parents top subs k.parents)) log
    (set_parents_is top subs k.parents)
    (assign_kept o shows k.known (parent_in k.parents) log
    (nothing_kept o shows k.known (parent_in k.parents) older kept log (λ y. refl) (λ y. refl)) top subs rule.are_subs))
    more
effect_kept o shows shows' k start end xid (Running head xids) older origin rule tops kept reached below more now =
    let r : TransactionRecord = record { start = start; end = end; xid = xid; kind = Running head xids } in
    more_shown o shows shows' (effect shows xid (Running head xids) k).known (parent_in k.parents) (r ∷ older)
    (running_kept o shows shows' k.known (parent_in k.parents) start end xid older origin kept more head xids rule tops
    (below head.next.0 rule.is_next))
    more
effect_kept o shows shows' k start end xid (Shutdown next) older origin rule tops kept reached below more now =
    let r : TransactionRecord = record { start = start; end = end; xid = xid; kind = Shutdown next } in
    more_shown o shows shows' (effect shows xid (Shutdown next) k).known (parent_in k.parents) (r ∷ older)
    (checkpoint_kept o shows shows' k.known (parent_in k.parents) start end xid older origin kept more next rule
    (below next rule.is_next))
    more
effect_kept o shows shows' k start end xid (Online redo next) older origin rule tops kept reached below more now =
    more_shown o shows shows' k.known (parent_in k.parents) (written start end xid (Online redo next) older)
    (nothing_kept o shows k.known (parent_in k.parents) older kept (written start end xid (Online redo next) older) (λ y. refl) (λ y. refl))
    more
effect_kept o shows shows' k start end xid Other older origin rule tops kept reached below more now =
    more_shown o shows shows' k.known (parent_in k.parents) (written start end xid Other older)
    (nothing_kept o shows k.known (parent_in k.parents) older kept (written start end xid Other older) (λ y. refl) (λ y. refl)) more

effect_unassigned :
    (o : TransactionOrigin) (shows : ℕ → Bool) (k : StandbyState) (start end xid : ℕ) (kind : Kind) (older : List TransactionRecord)
    → RuleOf o xid kind older (written start end xid kind older) → (n : ℕ)
    → IsNext o.at n (written start end xid kind older) → k.known.observed < n
    → (effect shows xid kind k).known.observed < n
effect_unassigned o shows k start end xid (Commit subs) older rule n next was =
    let e = end_observed k.known (xid ∷ subs) in omega arith
effect_unassigned o shows k start end xid (Abort subs) older rule n next was =
    let e = end_observed k.known (xid ∷ subs) in omega arith
effect_unassigned o shows k start end xid (Assignment top subs) older rule n next was =
    let e = assign_observed k.known top subs in omega arith
effect_unassigned o shows k start end xid (Running head xids) older rule n next was =
    let r : TransactionRecord = record { start = start; end = end; xid = xid; kind = Running head xids } in
    let normal = next.normal in
    running_observed k.known head (still_live shows xids) (last_shown shows xids) n was (next_not_below o.at n r older next)
    (oldest_below o.at r older head.oldest.0 n next (λ y e. lt-ltb y head.oldest.0 e)) (omega arith)
effect_unassigned o shows k start end xid (Shutdown next_id) older rule n next was =
    let r : TransactionRecord = record { start = start; end = end; xid = xid; kind = Shutdown next_id } in
    let normal = next.normal in
    shutdown_observed k.known next_id n was (oldest_below o.at r older next_id n next (λ y e. lt-ltb y next_id e)) (omega arith)
effect_unassigned o shows k start end xid (Online redo next_id) older rule n next was = was
effect_unassigned o shows k start end xid Other older rule n next was = was

-- the known parents stay top transactions
effect_agrees :
    (o : TransactionOrigin) (shows : ℕ → Bool) (k : StandbyState) (start end xid : ℕ) (kind : Kind) (older : List TransactionRecord)
    → RuleOf o xid kind older (written start end xid kind older) → AgreeAll o k.parents
    → AgreeAll o (effect shows xid kind k).parents
effect_agrees o shows k start end xid (Commit subs) older rule agree = agree
effect_agrees o shows k start end xid (Abort subs) older rule agree = agree
effect_agrees o shows k start end xid (Assignment top subs) older rule agree = agree_set o top subs k.parents rule.are_subs agree
effect_agrees o shows k start end xid (Running head xids) older rule agree = agree
effect_agrees o shows k start end xid (Shutdown next) older rule agree = agree
effect_agrees o shows k start end xid (Online redo next) older rule agree = agree
effect_agrees o shows k start end xid Other older rule agree = agree

-- the set stays in rising order
observe_rises : (k : Known) (x : ℕ) → Rising k.xids → Rising (after_observe k x).xids
unfolding after_observe
observe_rises k x r = rising_with_ids (unobserved k x) k.xids r

end_rises : (k : Known) (out : List ℕ) → Rising k.xids → Rising (after_end k out).xids
unfolding after_end
end_rises k out r = rising_filter (λ y. not (is_among y out)) k.xids r

assign_rises : (k : Known) (top : ℕ) (subs : List ℕ) → Rising k.xids → Rising (after_assign k top subs).xids
unfolding after_assign
assign_rises k top subs r =
    cond_both (is_initialized k.mode) k
    (record k { xids = without subs k.xids; overflowed = max k.overflowed (greatest (top ∷ subs)) })
    (λ (m : Known). Rising m.xids) (λ e. r) (λ e. rising_filter (λ y. not (is_among y subs)) k.xids r)

running_in_rises :
    (mode : State) (k : Known) (head : RunningHead) (live : List ℕ) (last : ℕ) → Rising k.xids
    → Rising (running_in mode k head live last).xids
unfolding made_anew
running_in_rises Initialized k head live last r = rising_with_ids live [] tt
running_in_rises Ready k head live last r = r
running_in_rises (Pending until) k head live last r =
    cond_both (overflows head) (record k { mode = cond (nat_lt until.0 head.oldest.0) Ready (Pending until) })
    (made_anew k head live last) (λ (m : Known). Rising m.xids) (λ e. r) (λ e. rising_with_ids live [] tt)

running_rises :
    (k : Known) (head : RunningHead) (live : List ℕ) (last : ℕ) → Rising k.xids
    → Rising (after_running k head live last).xids
unfolding after_running past_oldest
running_rises k head live last r =
    running_in_rises k.mode (past_oldest k head.oldest.0) head live last (rising_filter (nat_le head.oldest.0) k.xids r)

shutdown_rises : (k : Known) (next : ℕ) → Rising (after_shutdown k next).xids
unfolding after_shutdown
shutdown_rises k next = tt

effect_rises :
    (shows : ℕ → Bool) (k : StandbyState) (xid : ℕ) (kind : Kind) → Rising k.known.xids
    → Rising (effect shows xid kind k).known.xids
effect_rises shows k xid (Commit subs) r = end_rises k.known (xid ∷ subs) r
effect_rises shows k xid (Abort subs) r = end_rises k.known (xid ∷ subs) r
effect_rises shows k xid (Assignment top subs) r = assign_rises k.known top subs r
effect_rises shows k xid (Running head xids) r = running_rises k.known head (still_live shows xids) (last_shown shows xids) r
effect_rises shows k xid (Shutdown next) r = shutdown_rises k.known next
effect_rises shows k xid (Online redo next) r = r
effect_rises shows k xid Other r = r

pub replay_rises :
    (shows : ℕ → Bool) (k : StandbyState) (xid : ℕ) (kind : Kind) → Rising k.known.xids
    → Rising (replay shows xid kind k).known.xids
replay_rises shows k xid kind r =
    let last : ℕ = last_named xid kind in
    effect_rises shows (record k { known = after_observe k.known last }) xid kind (observe_rises k.known last r)

-- one record of a legal log
pub standing_after :
    (o : TransactionOrigin) (shows shows' : ℕ → Bool) (k : StandbyState) (r : TransactionRecord) (older : List TransactionRecord)
    → Legal o (r ∷ older) → Standing o shows k older → ((y : ℕ) → shows y ≡ true → shows' y ≡ true)
    → ((y : ℕ) → finishes y r.xid r.kind ≡ true → shows' y ≡ true)
    → Standing o shows' (replay shows r.xid r.kind k) (r ∷ older)
standing_after o shows shows' k r older legal st more now =
    let last : ℕ = last_named r.xid r.kind in
    let seen : StandbyState = record k { known = after_observe k.known last } in
    let rule = rule_of o r older legal in
    let below : (n : ℕ) → IsNext o.at n (r ∷ older) → seen.known.observed < n =
    λ n next.
    observe_observed k.known last n (st.unassigned n (next_before o.at n r older next))
    (named_below o r.start r.end r.xid r.kind older rule n next) in
    record {
      kept =
          effect_kept o shows shows' seen r.start r.end r.xid r.kind older (origin_rule o (r ∷ older) legal) rule
          (live_top o (r ∷ older) legal) (observe_kept o shows k.known (parent_in k.parents) older st.kept last)
          (observe_reaches k.known last) below more now;
      agree = effect_agrees o shows seen r.start r.end r.xid r.kind older rule st.agree;
      rising = replay_rises shows k r.xid r.kind st.rising;
      unassigned = λ n next. effect_unassigned o shows seen r.start r.end r.xid r.kind older rule n next (below n next);
    }

-- parents that are forgotten
pub standing_forgotten :
    (o : TransactionOrigin) (shows : ℕ → Bool) (k : StandbyState) (log : List TransactionRecord) (bound : ℕ) → Legal o log
    → Standing o shows k log → MayForget bound k → Standing o shows (forget_below bound k) log
standing_forgotten o shows k log bound legal st free =
    record {
      kept =
          same_parents o shows k.known (forgotten bound (parent_in k.parents)) (parent_in (from_sub k.parents bound)) log
          (from_sub_is k.parents bound)
          (forget_kept o shows k.known (parent_in k.parents) log st.kept (origin_rule o log legal) (live_top o log legal) bound
          free);
      agree = agree_from o k.parents bound st.agree;
      rising = st.rising;
      unassigned = st.unassigned;
    }

-- where a life begins
pub standing_at_start :
    (o : TransactionOrigin) (first : ℕ → Bool) (old : List TransactionRecord) → ShowsFinished o.at first old → Standing o first at_start old
standing_at_start o first old shows =
    record {
      kept =
          record {
            shows_finished = shows;
            set_live = λ y h. absurd (false≢true h);
            ended_observed = λ begun y h. absurd (false≢true (sym begun));
            latest_observed = omega arith;
            ended_latest = λ begun y h. absurd (false≢true (sym begun));
            parents_agree = λ y p h. absurd (cc);
            accounted = λ begun y l h. absurd (false≢true (sym begun));
          };
      agree = tt;
      rising = tt;
      unassigned = λ n next. let normal = next.normal in omega arith;
    }

pub shown_more : (first : ℕ → Bool) (r : TransactionRecord) (life : List TransactionRecord) (y : ℕ) → shown first life y ≡ true
    → shown first (r ∷ life) y ≡ true
unfolding shown
shown_more first r life y h = or_right (finishes y r.xid r.kind) (shown first life y) h

pub shown_now : (first : ℕ → Bool) (r : TransactionRecord) (life : List TransactionRecord) (y : ℕ) → finishes y r.xid r.kind ≡ true
    → shown first (r ∷ life) y ≡ true
unfolding shown
shown_now first r life y h = or_left (finishes y r.xid r.kind) (shown first life y) h

shown_first : (o : TransactionOrigin) (first : ℕ → Bool) (old : List TransactionRecord) → ShowsFinished o.at first old
    → Standing o (shown first []) at_start old
unfolding shown
shown_first o first old shows = standing_at_start o first old shows

-- along a life
pub standing_along :
    (o : TransactionOrigin) (first : ℕ → Bool) (old life : List TransactionRecord) (k : StandbyState) → Legal o (life ++ old)
    → ShowsFinished o.at first old → Leads first life k → Standing o (shown first life) k (life ++ old)
standing_along o first old [] k legal shows leads =
    subst (λ (m : StandbyState). Standing o (shown first []) m old) (sym leads) (shown_first o first old shows)
standing_along o first old (r ∷ life) k legal shows (was, bound, leads, free, is) =
    subst (λ (m : StandbyState). Standing o (shown first (r ∷ life)) m ((r ∷ life) ++ old)) (sym is)
    (standing_forgotten o (shown first (r ∷ life)) (replay (shown first life) r.xid r.kind was) ((r ∷ life) ++ old) bound legal
    (standing_after o (shown first life) (shown first (r ∷ life)) was r (life ++ old) legal
    (standing_along o first old life was (legal_rest o r (life ++ old) legal) shows leads) (shown_more first r life)
    (shown_now first r life))
    free)
