-- The laws of the snapshot, from the invariant along a life.
use Rattle.std.proofs.Common.{◌≡◌, ℕ, ◌≤◌, Bool, true, false, ◌&&◌, not, cond, List, [], ◌∷◌, ◌++◌, Option, Some, None, arith, refl, sym, ap, ◌∙◌, inl, inr, ◌⊎◌, subst, nat_lt}
use Rattle.std.proofs.lemmas.Bool.{or_cases, cases_Bool, cond_both, both_ways, ltb-true}
use Rattle.known_assigned.specs.declared.state.State.TheVariants.{Ready}
use Rattle.known_assigned.specs.Ids.{is_among}
use Rattle.standby_snapshot.specs.Snapshot.{in_progress, take_of, xmin_of}
use Rattle.transaction_model.specs.Transactions.{Kind, Commit, Abort, Assignment, Running, Shutdown, Online, Other, TransactionRecord, Statuses, finishes, committed, ended, Live, state_of}
use Rattle.transaction_model.specs.LegalTransactions.{TransactionOrigin, Legal}
use Rattle.transaction_model.specs.StandbyStates.{Leads, LeadsOn, StandbyState, replay, set_parents, shown}
use Rattle.subtrans.specs.declared.Pair.{Pair}
use Rattle.subtrans.specs.Parents.{from_sub, topmost_of}
use Rattle.transaction_model.proofs.ParentLists.{from_sub_is, parent_in, set_parents_is}
use Rattle.transaction_model.specs.TransactionLaws.{ShowsFinished, IsCaughtUp, XminAgrees, LiveInProgress, SnapshotDecides}
use Rattle.transaction_model.proofs.Endings.{legal_rest, legal_before, ended_by, ended_later, finishes_ends, committed_no_more}
use Rattle.transaction_model.proofs.Replayed.{Standing, standing_after, standing_forgotten, standing_along, shown_more, shown_now}
use Rattle.transaction_model.proofs.States.{state_agrees}
use Rattle.transaction_model.proofs.Decisions.{is_xmin, live_in_progress, progress_not_committed}

-- what the commit log shows has ended, once what it showed at first has
shown_ended :
    (s : Statuses) (first : ℕ → Bool) (old life : List TransactionRecord) (x : ℕ) → shown first life x ≡ true
    → (first x ≡ true) ⊎ (ended s x (life ++ old) ≡ true)
unfolding shown
shown_ended s first old [] x h = inl h
shown_ended s first old (r ∷ life) x h =
    elim (or_cases (finishes x r.xid r.kind) (shown first life x) h) [
      | inl e ↦ inr (ended_by s x r (life ++ old) (finishes_ends x r.xid r.kind e))
      | inr e ↦
          elim (shown_ended s first old life x e) [ inl f ↦ inl f | inr f ↦ inr (ended_later s x r (life ++ old) f) ]
    ]

caught_up :
    (s : Statuses) (first : ℕ → Bool) (old life : List TransactionRecord) → IsCaughtUp s first (life ++ old) → (x : ℕ)
    → shown first life x ≡ true → ended s x (life ++ old) ≡ true
caught_up s first old life caught x h = elim (shown_ended s first old life x h) [ inl e ↦ caught x e | inr e ↦ e ]

-- along the records after a snapshot
standing_on :
    (o : TransactionOrigin) (first : ℕ → Bool) (old life more : List TransactionRecord) (k now : StandbyState) (xmin : ℕ)
    → Legal o ((more ++ life) ++ old) → Standing o (shown first life) k (life ++ old) → LeadsOn first life k xmin more now
    → Standing o (shown first (more ++ life)) now ((more ++ life) ++ old)
standing_on o first old life [] k now xmin legal st on =
    subst (λ (m : StandbyState). Standing o (shown first life) m (life ++ old)) (sym on) st
standing_on o first old life (r ∷ more) k now xmin legal st (was, bound, on, free, low, is) =
    subst (λ (m : StandbyState). Standing o (shown first ((r ∷ more) ++ life)) m (((r ∷ more) ++ life) ++ old)) (sym is)
    (standing_forgotten o (shown first (r ∷ (more ++ life))) (replay (shown first (more ++ life)) r.xid r.kind was)
    (r ∷ ((more ++ life) ++ old)) bound legal
    (standing_after o (shown first (more ++ life)) (shown first (r ∷ (more ++ life))) was r ((more ++ life) ++ old) legal
    (standing_on o first old life more k was xmin (legal_rest o r ((more ++ life) ++ old) legal) st on)
    (shown_more first r (more ++ life)) (shown_now first r (more ++ life)))
    free)

set_knows :
    (top : ℕ) (subs : List ℕ) (pairs : List Pair) (y parent : ℕ) → parent_in pairs y ≡ Some parent
    → (p : ℕ) × (parent_in (set_parents top subs pairs) y ≡ Some p)
set_knows top subs pairs y parent h =
    let (p, e) : (p : ℕ) × (cond (is_among y subs && nat_lt top y) (Some top) (parent_in pairs y) ≡ Some p) =
    cond_both (is_among y subs && nat_lt top y) (Some top) (parent_in pairs y)
    (λ (v : Option ℕ). (p : ℕ) × (v ≡ Some p)) (λ e. (top, refl)) (λ e. (parent, h)) in
    (p, set_parents_is top subs pairs y ∙ e)

replay_knows :
    (shows : ℕ → Bool) (xid : ℕ) (kind : Kind) (k : StandbyState) (x p : ℕ) → parent_in k.parents x ≡ Some p
    → (q : ℕ) × (parent_in (replay shows xid kind k).parents x ≡ Some q)
replay_knows shows xid (Commit subs) k x p h = (p, h)
replay_knows shows xid (Abort subs) k x p h = (p, h)
replay_knows shows xid (Assignment top subs) k x p h = set_knows top subs k.parents x p h
replay_knows shows xid (Running head xids) k x p h = (p, h)
replay_knows shows xid (Shutdown next) k x p h = (p, h)
replay_knows shows xid (Online redo next) k x p h = (p, h)
replay_knows shows xid Other k x p h = (p, h)

forget_knows :
    (bound : ℕ) (pairs : List Pair) (x q : ℕ) → bound ≤ x → parent_in pairs x ≡ Some q
    → parent_in (from_sub pairs bound) x ≡ Some q
forget_knows bound pairs x q high h =
    from_sub_is pairs bound x
    ∙ cond_both (nat_lt x bound) None (parent_in pairs x) (λ (v : Option ℕ). v ≡ Some q)
    (λ e. let low = ltb-true x bound e in absurd (omega arith)) (λ e. h)

-- parents from the snapshot's xmin on are kept
knows_on :
    (first : ℕ → Bool) (life more : List TransactionRecord) (k now : StandbyState) (xmin : ℕ)
    → LeadsOn first life k xmin more now → (x p : ℕ) → parent_in k.parents x ≡ Some p → xmin ≤ x
    → (q : ℕ) × (parent_in now.parents x ≡ Some q)
knows_on first life [] k now xmin on x p h high = (p, ap (λ (m : StandbyState). parent_in m.parents x) on ∙ h)
knows_on first life (r ∷ more) k now xmin (was, bound, on, free, low, is) x p h high =
    let (q, e) = knows_on first life more k was xmin on x p h high in
    let (t, f) = replay_knows (shown first (more ++ life)) r.xid r.kind was x q e in (
      t,
      ap (λ (m : StandbyState). parent_in m.parents x) is
          ∙ forget_knows bound (replay (shown first (more ++ life)) r.xid r.kind was).parents x t (omega arith) f,
    )

pub xmin_agrees : XminAgrees
xmin_agrees o first old life k legal shows caught ready leads =
    is_xmin o (shown first life) k (life ++ old) legal (standing_along o first old life k legal shows leads)
    (caught_up o.at first old life caught) (state_agrees o first old life k legal leads ∙ ready)

xmin_is : (k : StandbyState) → (take_of k.known).xmin ≡ xmin_of k.known
unfolding take_of
xmin_is k = refl

module _ (o : TransactionOrigin) (first : ℕ → Bool) (old life more : List TransactionRecord) (k now : StandbyState)
    (legal : Legal o ((more ++ life) ++ old)) (shows : ShowsFinished o.at first old) (caught : IsCaughtUp o.at first (life ++ old))
    (ready : state_of life ≡ Ready) (leads : Leads first life k) (on : LeadsOn first life k (take_of k.known).xmin more now) where
  at_opening : Legal o (life ++ old)
  at_opening = legal_before o more life old legal

  standing : Standing o (shown first life) k (life ++ old)
  standing = standing_along o first old life k at_opening shows leads

  standing_now : Standing o (shown first (more ++ life)) now ((more ++ life) ++ old)
  standing_now = standing_on o first old life more k now (take_of k.known).xmin legal standing on

  knows : (x p : ℕ) → parent_in k.parents x ≡ Some p → xmin_of k.known ≤ x → (q : ℕ) × (parent_in now.parents x ≡ Some q)
  knows x p h high =
      let same = xmin_is k in knows_on first life more k now (take_of k.known).xmin on x p h (omega arith)

  pub live_are : (x : ℕ) → Live o.at x (life ++ old) → in_progress (take_of k.known) (topmost_of now.parents) x ≡ true
  live_are =
      live_in_progress o (shown first life) k (life ++ old) at_opening standing (caught_up o.at first old life caught)
      (state_agrees o first old life k at_opening leads ∙ ready) now.parents standing_now.agree knows

  in_progress_are : (x : ℕ) → in_progress (take_of k.known) (topmost_of now.parents) x ≡ true → committed o.at x (life ++ old) ≡ false
  in_progress_are =
      progress_not_committed o (shown first life) k (life ++ old) at_opening standing (caught_up o.at first old life caught)
      (state_agrees o first old life k at_opening leads ∙ ready) now.parents standing_now.agree knows

  pub decided :
      (x : ℕ)
      → (not (in_progress (take_of k.known) (topmost_of now.parents) x) && committed o.at x ((more ++ life) ++ old))
      ≡ committed o.at x (life ++ old)
  decided x =
      elim (cases_Bool (in_progress (take_of k.known) (topmost_of now.parents) x)) [
        | inl e ↦ ap (λ (t : Bool). not t && committed o.at x ((more ++ life) ++ old)) e ∙ sym (in_progress_are x e)
        | inr e ↦
            ap (λ (t : Bool). not t && committed o.at x ((more ++ life) ++ old)) e
            ∙ committed_no_more o more life old legal x
            (λ l. both_ways (in_progress (take_of k.known) (topmost_of now.parents) x) e (live_are x l))
      ]

pub live_progress : LiveInProgress
live_progress o first old life more k now legal shows caught ready leads on x l =
    live_are o first old life more k now legal shows caught ready leads on x l

pub snapshot_decides : SnapshotDecides
snapshot_decides o first old life more k now legal shows caught ready leads on x =
    decided o first old life more k now legal shows caught ready leads on x
