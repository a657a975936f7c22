-- The commit log along a legal log: whose status says ended, and whose committed.
use Rattle.std.proofs.Common.{◌≡◌, ℕ, ◌≤◌, Bool, true, false, ◌==◌, ◌||◌, ◌&&◌, cond, List, [], ◌∷◌, arith, refl, sym, ap, ◌∙◌, inl, inr, nat_le}
use Rattle.std.proofs.lemmas.Bool.{or_left, or_right, or_from, cond_both, cond-true, cond-false, cases_Bool, false_from_ne_true, le-leb, and_right, false≢true}
use Rattle.std.specs.List.{list_any}
use Rattle.pg_types.specs.declared.names.Xid.{Xid}
use Rattle.pg_types.specs.declared.status.Status.{Status}
use Rattle.pg_types.specs.declared.status.Status.TheVariants.{None as Unset, Committed, Aborted}
use Rattle.wal_record.specs.declared.types.RecordHead.{RecordHead}
use Rattle.typed_records.specs.declared.types.Rec.{Rec}
use Rattle.typed_records.specs.declared.types.RecKind.{RecKind}
use Rattle.typed_records.specs.declared.types.RecKind.TheVariants.{Checkpoint, Ended}
use Rattle.commit_log.specs.Log.{initial_status, is_named, status_after}
use Rattle.known_assigned.specs.Ids.{is_among, numbers}
use Rattle.tuple_visibility.specs.Visible.{is_committed}
use Rattle.xact_redo.specs.State.{TransactionState, before_records, forgetting, has_ended, outcome_of, state_after, statuses_after}
use Rattle.transaction_model.specs.Transactions.{Kind, Commit, Abort, Shutdown, Online, TransactionRecord, Statuses, commits, finishes, ends, committed, finished, ended}
use Rattle.transaction_model.specs.LegalTransactions.{Legal, NamesLive, TransactionOrigin, RuleOf}
use Rattle.transaction_model.specs.StandbyStates.{shown}
use Rattle.transaction_model.specs.TransactionLaws.{IsCaughtUp, ShowsFinished}
use Rattle.transaction_model.proofs.Endings.{legal_rest, live_not_committed, origin_rule, rule_of}
use Rattle.xact_redo.specs.TransactionsOf.{is_commit, at_shutdown, kind_of, transaction_of, transactions_of}
use Rattle.row_visibility.specs.Sees.{HasNoStatuses, IsAlong}

-- what the commit log shows ended before the first record
abbrev pub first : ℕ → Bool
first x = has_ended (initial_status x)

-- ids as numbers
any_number : (x : ℕ) (xids : List Xid) → list_any (λ (y : Xid). y.0 == x) xids ≡ is_among x (numbers xids)
any_number x [] = refl
any_number x (y ∷ xids) = ap (λ (t : Bool). (y.0 == x) || t) (any_number x xids)

-- the ids of these names are normal
abbrev AreNormal : List Xid → Type 0
AreNormal xids = (x : ℕ) → is_among x (numbers xids) ≡ true → 3 ≤ x

named_is : (x : ℕ) (xids : List Xid) → AreNormal xids → is_named xids x ≡ is_among x (numbers xids)
named_is x xids normal =
    ap (λ (t : Bool). nat_le 3 x && t) (any_number x xids)
    ∙ elim (cases_Bool (is_among x (numbers xids))) [
      | inl e ↦ ap (λ (t : Bool). t && is_among x (numbers xids)) (le-leb 3 x (normal x e))
      | inr e ↦ and_right (nat_le 3 x) (is_among x (numbers xids)) e ∙ sym e
    ]

-- a status after these ids got this one
status_is :
    (before : ℕ → Status) (xids : List Xid) (status : Status) (x : ℕ) → AreNormal xids
    → status_after before xids status x ≡ cond (is_among x (numbers xids)) status (before x)
status_is before xids status x normal = ap (λ (t : Bool). cond t status (before x)) (named_is x xids normal)

-- a test of it
test_is :
    (test : Status → Bool) (before : ℕ → Status) (xids : List Xid) (status : Status) (x : ℕ) → AreNormal xids
    → test (status_after before xids status x) ≡ cond (is_among x (numbers xids)) (test status) (test (before x))
test_is test before xids status x normal =
    ap test (status_is before xids status x normal)
    ∙ cond_both (is_among x (numbers xids)) status (before x)
    (λ (v : Status). test v ≡ cond (is_among x (numbers xids)) (test status) (test (before x)))
    (λ e. sym (cond-true (is_among x (numbers xids)) (test status) (test (before x)) e))
    (λ e. sym (cond-false (is_among x (numbers xids)) (test status) (test (before x)) e))

-- what a record that ends a transaction says of it
abbrev ending : Bool → List ℕ → Kind
ending commit subs = cond commit (Commit subs) (Abort subs)

abbrev outcome : Bool → Status
outcome commit = cond commit Committed Aborted

ending_names :
    (o : TransactionOrigin) (xid : ℕ) (subs : List ℕ) (older now : List TransactionRecord) (commit : Bool)
    → RuleOf o xid (ending commit subs) older now → NamesLive o xid subs older
ending_names o xid subs older now true rule = rule.live
ending_names o xid subs older now false rule = rule.live

or_is : (a b : Bool) → cond a true b ≡ (a || b)
or_is true b = refl
or_is false b = refl

ended_now :
    (xid : ℕ) (subs : List ℕ) (commit was : Bool) (x : ℕ)
    → cond (is_among x (xid ∷ subs)) (has_ended (outcome commit)) was ≡ (finishes x xid (ending commit subs) || was)
ended_now xid subs true was x = or_is (is_among x (xid ∷ subs)) was
ended_now xid subs false was x = or_is (is_among x (xid ∷ subs)) was

committed_now :
    (xid : ℕ) (subs : List ℕ) (commit was : Bool) (x : ℕ) → (is_among x (xid ∷ subs) ≡ true → was ≡ false)
    → cond (is_among x (xid ∷ subs)) (is_committed (outcome commit)) was ≡ (commits x xid (ending commit subs) || was)
committed_now xid subs true was x not_yet = or_is (is_among x (xid ∷ subs)) was
committed_now xid subs false was x not_yet =
    cond_both (is_among x (xid ∷ subs)) false was (λ (t : Bool). t ≡ was) (λ e. sym (not_yet e)) (λ e. refl)

-- a checkpoint ends no transaction
checkpoint_ended :
    (b was : Bool) (x xid next redo : ℕ) → was ≡ (finishes x xid (cond b (Shutdown next) (Online redo next)) || was)
checkpoint_ended true was x xid next redo = refl
checkpoint_ended false was x xid next redo = refl

checkpoint_committed :
    (b was : Bool) (x xid next redo : ℕ) → was ≡ (commits x xid (cond b (Shutdown next) (Online redo next)) || was)
checkpoint_committed true was x xid next redo = refl
checkpoint_committed false was x xid next redo = refl

-- one record: a test of a status afterwards is what the record says of it, or what the test was before
ended_after :
    (o : TransactionOrigin) (head : RecordHead) (kind : RecKind) (before : ℕ → Status) (older now : List TransactionRecord)
    → RuleOf o head.xid.0 (kind_of head kind) older now → (x : ℕ)
    → has_ended (statuses_after head kind before x) ≡ (finishes x head.xid.0 (kind_of head kind) || has_ended (before x))
ended_after o head (Ended time xinfo xids files) before older now rule x =
    test_is has_ended before (head.xid ∷ xids) (outcome_of head) x
    (λ y h. (ending_names o head.xid.0 (numbers xids) older now (is_commit head) rule y h).normal)
    ∙ ended_now head.xid.0 (numbers xids) (is_commit head) (has_ended (before x)) x
ended_after o head (Checkpoint redo timeline previous writes next multi member oldest active) before older now rule x =
    checkpoint_ended (at_shutdown head) (has_ended (before x)) x head.xid.0 next.0 redo.0
ended_after o head _ before older now rule x = refl

committed_after :
    (o : TransactionOrigin) (head : RecordHead) (kind : RecKind) (before : ℕ → Status) (older now : List TransactionRecord)
    → RuleOf o head.xid.0 (kind_of head kind) older now → (x : ℕ) → is_committed (before x) ≡ committed o.at x older
    → is_committed (statuses_after head kind before x)
    ≡ (commits x head.xid.0 (kind_of head kind) || is_committed (before x))
committed_after o head (Ended time xinfo xids files) before older now rule x same =
    let names = ending_names o head.xid.0 (numbers xids) older now (is_commit head) rule in
    test_is is_committed before (head.xid ∷ xids) (outcome_of head) x (λ y h. (names y h).normal)
    ∙ committed_now head.xid.0 (numbers xids) (is_commit head) (is_committed (before x)) x
    (λ h. same ∙ live_not_committed o.at x older (names x h))
committed_after o head (Checkpoint redo timeline previous writes next multi member oldest active) before older now rule x same =
    checkpoint_committed (at_shutdown head) (is_committed (before x)) x head.xid.0 next.0 redo.0
committed_after o head _ before older now rule x same = refl

-- the commit log shows ended what the records finished
pub ended_along :
    (o : TransactionOrigin) (log : List Rec) (state : TransactionState) → Legal o (transactions_of log) → IsAlong log state
    → (x : ℕ) → has_ended (state.statuses x) ≡ shown first (transactions_of log) x
unfolding state_after before_records forgetting transaction_of shown
ended_along o [] state legal is x = ap (λ (s : TransactionState). has_ended (s.statuses x)) is
ended_along o (r ∷ older) state legal (was, bound, along, free, is) x =
    ap (λ (s : TransactionState). has_ended (s.statuses x)) is
    ∙ ended_after o r.head r.kind was.statuses (transactions_of older) (transactions_of (r ∷ older))
    (rule_of o (transaction_of r) (transactions_of older) legal) x
    ∙ ap (λ (t : Bool). finishes x r.head.xid.0 (kind_of r.head r.kind) || t)
    (ended_along o older was (legal_rest o (transaction_of r) (transactions_of older) legal) along x)

-- before the first record the bootstrap and the frozen id alone have a status
initial_ended : (b : Bool) → has_ended (cond b Committed Unset) ≡ b
initial_ended true = refl
initial_ended false = refl

initial_committed : (b : Bool) → is_committed (cond b Committed Unset) ≡ b
initial_committed true = refl
initial_committed false = refl

or_none : (a b : Bool) → b ≡ false → a ≡ (a || b)
or_none true b e = refl
or_none false b e = sym e

-- it shows committed what the log committed
pub committed_along :
    (o : TransactionOrigin) (log : List Rec) (state : TransactionState) → HasNoStatuses o.at → Legal o (transactions_of log)
    → IsAlong log state → (x : ℕ) → is_committed (state.statuses x) ≡ committed o.at x (transactions_of log)
unfolding state_after before_records forgetting transaction_of committed
committed_along o [] state none legal is x =
    ap (λ (s : TransactionState). is_committed (s.statuses x)) is
    ∙ initial_committed (x == 1 || x == 2)
    ∙ or_none (x == 1 || x == 2) (o.at.is_committed x) (none x).0
committed_along o (r ∷ older) state none legal (was, bound, along, free, is) x =
    let before = committed_along o older was none (legal_rest o (transaction_of r) (transactions_of older) legal) along x in
    ap (λ (s : TransactionState). is_committed (s.statuses x)) is
    ∙ committed_after o r.head r.kind was.statuses (transactions_of older) (transactions_of (r ∷ older))
    (rule_of o (transaction_of r) (transactions_of older) legal) x before
    ∙ ap (λ (t : Bool). commits x r.head.xid.0 (kind_of r.head r.kind) || t) before

-- it begins with what had committed or aborted, and all of that has ended
pub shows_finished : (s : Statuses) → HasNoStatuses s → ShowsFinished s first []
unfolding finished
shows_finished s none x h =
    initial_ended (x == 1 || x == 2)
    ∙ or_none (x == 1 || x == 2) (s.is_committed x) (none x).0
    ∙ or_none ((x == 1 || x == 2) || s.is_committed x) (s.is_aborted x) (none x).1
    ∙ h

ended_at_first : (s : Statuses) (log : List TransactionRecord) (x : ℕ) → (x == 1 || x == 2) ≡ true → ended s x log ≡ true
unfolding ended
ended_at_first s [] x h =
    or_left ((x == 1 || x == 2) || s.is_committed x) (s.is_aborted x) (or_left (x == 1 || x == 2) (s.is_committed x) h)
ended_at_first s (r ∷ older) x h = or_right (ends x r.xid r.kind) (ended s x older) (ended_at_first s older x h)

pub is_caught_up : (s : Statuses) (log : List TransactionRecord) → IsCaughtUp s first log
is_caught_up s log x h = ended_at_first s log x (sym (initial_ended (x == 1 || x == 2)) ∙ h)

-- the bootstrap and the frozen id have committed, and 0 is none's id
pub first_committed :
    (s : Statuses) (log : List TransactionRecord) (x : ℕ) → (x == 1 || x == 2) ≡ true → committed s x log ≡ true
unfolding committed
first_committed s [] x h = or_left (x == 1 || x == 2) (s.is_committed x) h
first_committed s (r ∷ older) x h = or_right (commits x r.xid r.kind) (committed s x older) (first_committed s older x h)

commits_normal :
    (o : TransactionOrigin) (xid : ℕ) (kind : Kind) (older now : List TransactionRecord) → RuleOf o xid kind older now → (x : ℕ)
    → commits x xid kind ≡ true → 3 ≤ x
commits_normal o xid (Commit subs) older now rule x h = (rule.live x h).normal
commits_normal o xid _ older now rule x h = absurd (false≢true h)

pub zero_not_committed : (o : TransactionOrigin) (log : List TransactionRecord) → Legal o log → committed o.at 0 log ≡ false
unfolding committed
zero_not_committed o [] legal = (origin_rule o [] legal).zero_not_committed
zero_not_committed o (r ∷ older) legal =
    or_from (commits 0 r.xid r.kind) (committed o.at 0 older)
    (false_from_ne_true (commits 0 r.xid r.kind)
    (λ h.
    let normal = commits_normal o r.xid r.kind older (r ∷ older) (rule_of o r older legal) 0 h in
    omega arith))
    (zero_not_committed o older (legal_rest o r older legal))
