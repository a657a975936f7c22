-- Along a legal log what a standby knows of running transactions is what the rules of known ids lead to.
use Rattle.std.proofs.Common.{◌≡◌, ℕ, Bool, not, ◌&&◌, List, [], ◌∷◌, ◌++◌, sym, ap, ◌∙◌, subst}
use Rattle.std.proofs.Math.Path.{fun_ext}
use Rattle.std.proofs.lemmas.List.{append-nil, map-append}
use Rattle.typed_records.specs.declared.types.Rec.{Rec}
use Rattle.known_assigned.specs.declared.state.State.TheVariants.{Ready}
use Rattle.subtrans.specs.Parents.{topmost_of}
use Rattle.standby_snapshot.specs.Snapshot.{in_progress, take_of}
use Rattle.xact_redo.specs.State.{TransactionState, before_records, forgetting, shows_ended, standby_of, state_after}
use Rattle.xact_redo.specs.TransactionsOf.{kind_of, transaction_of, transactions_of}
use Rattle.transaction_model.specs.Transactions.{TransactionRecord, IsXmin, committed}
use Rattle.transaction_model.specs.LegalTransactions.{Legal, TransactionOrigin}
use Rattle.transaction_model.specs.StandbyStates.{Leads, LeadsOn, MayForget, StandbyState, forget_below, replay, shown}
use Rattle.transaction_model.specs.TransactionLaws.{SnapshotDecides, StateAgrees, XminAgrees}
use Rattle.row_visibility.specs.Sees.{HasNoStatuses, IsAlong, IsAlongFrom, StateAlong, XminAlong}
use Rattle.transaction_model.proofs.Endings.{legal_rest}
use Rattle.row_visibility.proofs.Forgetting.{along_on}
use Rattle.row_visibility.proofs.Statuses.{ended_along, first, is_caught_up, shows_finished}

-- the commit log shows ended what the records finished
shows_are :
    (o : TransactionOrigin) (log : List Rec) (state : TransactionState) → Legal o (transactions_of log) → IsAlong log state
    → shows_ended state.statuses ≡ shown first (transactions_of log)
shows_are o log state legal along = fun_ext (ended_along o log state legal along)

-- one record, beside a commit log that shows the same
known_after :
    (r : Rec) (was : TransactionState) (shows : ℕ → Bool) → shows_ended was.statuses ≡ shows
    → standby_of (state_after r was) ≡ replay shows r.head.xid.0 (kind_of r.head r.kind) (standby_of was)
unfolding state_after
known_after r was shows same = ap (λ (t : ℕ → Bool). replay t r.head.xid.0 (kind_of r.head r.kind) (standby_of was)) same

-- and then some parents are forgotten
forgotten_after :
    (bound : ℕ) (after state : TransactionState) (k : StandbyState) → standby_of after ≡ k → state ≡ forgetting bound after
    → standby_of state ≡ forget_below bound k
unfolding forgetting
forgotten_after bound after state k same is =
    ap (λ (s : TransactionState). standby_of s) is ∙ ap (λ (m : StandbyState). forget_below bound m) same

-- the log leads to what is known
pub leads_along :
    (o : TransactionOrigin) (log : List Rec) (state : TransactionState) → Legal o (transactions_of log) → IsAlong log state
    → Leads first (transactions_of log) (standby_of state)
unfolding before_records transaction_of
leads_along o [] state legal is = ap (λ (s : TransactionState). standby_of s) is
leads_along o (r ∷ older) state legal (was, bound, along, free, is) =
    let before = legal_rest o (transaction_of r) (transactions_of older) legal in
    let shows : ℕ → Bool = shown first (transactions_of older) in
    let same = known_after r was shows (shows_are o older was before along) in (
      standby_of was,
      bound,
      leads_along o older was before along,
      subst (λ (k : StandbyState). MayForget bound k) same free,
      forgotten_after bound (state_after r was) state
          (replay shows r.head.xid.0 (kind_of r.head r.kind) (standby_of was)) same is,
    )

legal_before_none : (o : TransactionOrigin) (log : List TransactionRecord) → Legal o log → Legal o (log ++ [])
legal_before_none o log legal = subst (Legal o) (sym (append-nil log)) legal

pub state_is : StateAgrees → StateAlong
state_is agrees o log state legal along =
    agrees o first [] (transactions_of log) (standby_of state) (legal_before_none o (transactions_of log) legal)
    (leads_along o log state legal along)

pub xmin_is : StateAgrees → XminAgrees → XminAlong
xmin_is agrees xmins o log state none legal along ready =
    subst (IsXmin o.at (take_of state.known).xmin) (append-nil (transactions_of log))
    (xmins o first [] (transactions_of log) (standby_of state) (legal_before_none o (transactions_of log) legal)
    (shows_finished o.at none) (is_caught_up o.at (transactions_of log ++ []))
    (sym (state_is agrees o log state legal along) ∙ ready) (leads_along o log state legal along))

-- the records of a log, and then of more
pub transactions_joined :
    (later opened : List Rec) → transactions_of (later ++ opened) ≡ transactions_of later ++ transactions_of opened
transactions_joined later opened = map-append transaction_of later opened

pub legal_older :
    (o : TransactionOrigin) (later opened : List Rec) → Legal o (transactions_of (later ++ opened)) → Legal o (transactions_of opened)
legal_older o [] opened legal = legal
legal_older o (r ∷ later) opened legal =
    legal_older o later opened (legal_rest o (transaction_of r) (transactions_of (later ++ opened)) legal)

-- further records lead on
leads_on_along :
    (o : TransactionOrigin) (later opened : List Rec) (was now : TransactionState) → Legal o (transactions_of (later ++ opened))
    → (xmin : ℕ) → IsAlong opened was → IsAlongFrom was xmin later now
    → LeadsOn first (transactions_of opened) (standby_of was) xmin (transactions_of later) (standby_of now)
unfolding transaction_of
leads_on_along o [] opened was now legal xmin along is = ap (λ (s : TransactionState). standby_of s) is
leads_on_along o (r ∷ later) opened was now legal xmin along (mid, bound, on, free, low, is) =
    let before = legal_rest o (transaction_of r) (transactions_of (later ++ opened)) legal in
    let shows : ℕ → Bool = shown first (transactions_of later ++ transactions_of opened) in
    let same =
    known_after r mid shows
    (shows_are o (later ++ opened) mid before (along_on later opened was mid xmin along on)
    ∙ ap (λ (log : List TransactionRecord). shown first log) (transactions_joined later opened)) in (
      standby_of mid,
      bound,
      leads_on_along o later opened was mid before xmin along on,
      subst (λ (k : StandbyState). MayForget bound k) same free,
      low,
      forgotten_after bound (state_after r mid) now
          (replay shows r.head.xid.0 (kind_of r.head r.kind) (standby_of mid)) same is,
    )

-- an id committed by now and is not in progress by a snapshot exactly where it had committed as that was taken
pub decided_then :
    StateAgrees → SnapshotDecides → (o : TransactionOrigin) (later opened : List Rec) (was now : TransactionState)
    → HasNoStatuses o.at → Legal o (transactions_of (later ++ opened)) → IsAlong opened was → was.known.mode ≡ Ready
    → IsAlongFrom was (take_of was.known).xmin later now → (x : ℕ)
    → (not (in_progress (take_of was.known) (topmost_of now.parents) x)
    && committed o.at x (transactions_of (later ++ opened)))
    ≡ committed o.at x (transactions_of opened)
decided_then agrees decide o later opened was now none legal along ready since x =
    let more : List TransactionRecord = transactions_of later in
    let life : List TransactionRecord = transactions_of opened in
    let joined = transactions_joined later opened in
    let snapshot = take_of was.known in
    let opened_legal = legal_older o later opened legal in
    let now_legal : Legal o (more ++ life) = subst (Legal o) joined legal in
    let decided =
    decide o first [] life more (standby_of was) (standby_of now) (legal_before_none o (more ++ life) now_legal)
    (shows_finished o.at none) (is_caught_up o.at (life ++ []))
    (sym (state_is agrees o opened was opened_legal along) ∙ ready) (leads_along o opened was opened_legal along)
    (leads_on_along o later opened was now legal snapshot.xmin along since) x in
    ap (λ (l : List TransactionRecord). not (in_progress snapshot (topmost_of now.parents) x) && committed o.at x l)
    (joined ∙ sym (append-nil (more ++ life)))
    ∙ decided
    ∙ ap (λ (l : List TransactionRecord). committed o.at x l) (append-nil life)
