-- What a legal log says of live, ended and committed ids.
use Rattle.std.proofs.Common.{◌≡◌, ℕ, ◌<◌, ◌≤◌, Bool, true, false, ◌==◌, ◌||◌, List, [], ◌∷◌, ◌++◌, arith, refl, sym, ap, ◌∙◌, inl, inr, ◌⊎◌, nat_lt}
use Rattle.std.proofs.lemmas.Bool.{or_cases, or_left, or_right, or_parts, or_from, ltb-true, both_ways, false_from_ne_true, false≢true}
use Rattle.known_assigned.specs.Ids.{is_among}
use Rattle.transaction_model.specs.Transactions.{Kind, Commit, Abort, Assignment, Running, Shutdown, Online, Other, TransactionRecord, Statuses, commits, finishes, ends, names, committed, ended, Live, named}
use Rattle.transaction_model.specs.LegalTransactions.{TransactionOrigin, TransactionOriginRule, IsNext, RuleOf, Legal, greatest_next, next_in}
use Rattle.transaction_model.proofs.IdSets.{among_cases, among_first}

pub origin_rule : (o : TransactionOrigin) (log : List TransactionRecord) → Legal o log → TransactionOriginRule o
unfolding Legal
origin_rule o [] legal = legal
origin_rule o (r ∷ older) (rule, legal) = origin_rule o older legal

pub rule_of : (o : TransactionOrigin) (r : TransactionRecord) (older : List TransactionRecord) → Legal o (r ∷ older) → RuleOf o r.xid r.kind older (r ∷ older)
unfolding Legal
rule_of o r older (rule, legal) = rule

pub legal_rest : (o : TransactionOrigin) (r : TransactionRecord) (older : List TransactionRecord) → Legal o (r ∷ older) → Legal o older
unfolding Legal
legal_rest o r older (rule, legal) = legal

pub legal_before : (o : TransactionOrigin) (more life old : List TransactionRecord) → Legal o ((more ++ life) ++ old) → Legal o (life ++ old)
legal_before o [] life old legal = legal
legal_before o (r ∷ more) life old legal = legal_before o more life old (legal_rest o r ((more ++ life) ++ old) legal)

pub ended_cases :
    (s : Statuses) (x : ℕ) (r : TransactionRecord) (older : List TransactionRecord) → ended s x (r ∷ older) ≡ true
    → (ends x r.xid r.kind ≡ true) ⊎ (ended s x older ≡ true)
unfolding ended
ended_cases s x r older h = or_cases (ends x r.xid r.kind) (ended s x older) h

pub ended_later :
    (s : Statuses) (x : ℕ) (r : TransactionRecord) (older : List TransactionRecord) → ended s x older ≡ true
    → ended s x (r ∷ older) ≡ true
unfolding ended
ended_later s x r older h = or_right (ends x r.xid r.kind) (ended s x older) h

pub ended_by :
    (s : Statuses) (x : ℕ) (r : TransactionRecord) (older : List TransactionRecord) → ends x r.xid r.kind ≡ true
    → ended s x (r ∷ older) ≡ true
unfolding ended
ended_by s x r older h = or_left (ends x r.xid r.kind) (ended s x older) h

pub not_ended_before :
    (s : Statuses) (x : ℕ) (r : TransactionRecord) (older : List TransactionRecord) → ended s x (r ∷ older) ≡ false
    → (ends x r.xid r.kind ≡ false) × (ended s x older ≡ false)
unfolding ended
not_ended_before s x r older h = or_parts (ends x r.xid r.kind) (ended s x older) h

pub live_before :
    (s : Statuses) (x : ℕ) (r : TransactionRecord) (older : List TransactionRecord) → Live s x (r ∷ older) → Live s x older
live_before s x r older l = record { normal = l.normal; not_ended = (not_ended_before s x r older l.not_ended).1 }

pub live_after :
    (s : Statuses) (x : ℕ) (r : TransactionRecord) (older : List TransactionRecord) → Live s x older
    → ends x r.xid r.kind ≡ false → Live s x (r ∷ older)
unfolding ended
live_after s x r older l e =
    record { normal = l.normal; not_ended = or_from (ends x r.xid r.kind) (ended s x older) e l.not_ended }

-- the record in its parts, before a log
abbrev pub written : ℕ → ℕ → ℕ → Kind → List TransactionRecord → List TransactionRecord
written start end xid kind older = record { start = start; end = end; xid = xid; kind = kind } ∷ older

abbrev pub TopsLive : TransactionOrigin → List TransactionRecord → Type 0
TopsLive o log = (x : ℕ) → Live o.at x log → Live o.at (o.top x) log

-- no record ends a top transaction without its live subtransactions
top_not_ended :
    (o : TransactionOrigin) (start end xid : ℕ) (kind : Kind) (older : List TransactionRecord) → TransactionOriginRule o
    → RuleOf o xid kind older (written start end xid kind older) → (x : ℕ) → Live o.at x older
    → ended o.at x (written start end xid kind older) ≡ false → ends x xid kind ≡ false → ends (o.top x) xid kind ≡ false
top_not_ended o start end xid (Commit subs) older origin rule x l e f =
    false_from_ne_true (is_among (o.top x) (xid ∷ subs))
    (λ h.
    elim (among_cases (o.top x) xid subs h) [
      | inl g ↦ both_ways (is_among x (xid ∷ subs)) f (rule.all rule.is_top x l (sym g))
      | inr g ↦
          let (i, j) = rule.are_subs (o.top x) g in
          let k = origin.top_of_top x in omega arith
    ])
top_not_ended o start end xid (Abort subs) older origin rule x l e f =
    false_from_ne_true (is_among (o.top x) (xid ∷ subs))
    (λ h.
    elim (among_cases (o.top x) xid subs h) [
      | inl g ↦
          both_ways (is_among x (xid ∷ subs)) f
          (rule.all (ap o.top g ∙ origin.top_of_top x ∙ sym g) x l (sym g))
      | inr g ↦
          let (i, j) = rule.are_subs (o.top x) g in
          let k = origin.top_of_top x in omega arith
    ])
top_not_ended o start end xid (Assignment top subs) older origin rule x l e f = refl
top_not_ended o start end xid (Running head xids) older origin rule x l e f =
    false_from_ne_true (nat_lt (o.top x) head.oldest.0)
    (λ h. both_ways (ended o.at x (written start end xid (Running head xids) older)) e (rule.subs_end x (ltb-true (o.top x) head.oldest.0 h)))
top_not_ended o start end xid (Shutdown next) older origin rule x l e f =
    false_from_ne_true (nat_lt (o.top x) next)
    (λ h. both_ways (ended o.at x (written start end xid (Shutdown next) older)) e (rule.subs_end x (ltb-true (o.top x) next h)))
top_not_ended o start end xid (Online redo next) older origin rule x l e f = refl
top_not_ended o start end xid Other older origin rule x l e f = refl

-- the top transaction of a live id is live
pub live_top : (o : TransactionOrigin) (log : List TransactionRecord) → Legal o log → TopsLive o log
live_top o [] legal x l = (origin_rule o [] legal).top_live x l
live_top o (r ∷ older) legal x l =
    let was = live_before o.at x r older l in
    let (e, f) = not_ended_before o.at x r older l.not_ended in
    live_after o.at (o.top x) r older (live_top o older (legal_rest o r older legal) x was)
    (top_not_ended o r.start r.end r.xid r.kind older (origin_rule o (r ∷ older) legal) (rule_of o r older legal) x was
    l.not_ended e)

-- a commit of a subtransaction is one of its top transaction
commits_top :
    (o : TransactionOrigin) (start end xid : ℕ) (kind : Kind) (older : List TransactionRecord)
    → RuleOf o xid kind older (written start end xid kind older) → (x : ℕ) → commits x xid kind ≡ true
    → commits (o.top x) xid kind ≡ true
commits_top o start end xid (Commit subs) older rule x h =
    elim (among_cases x xid subs h) [
      | inl e ↦ among_first (o.top x) xid subs (sym rule.is_top ∙ ap o.top e)
      | inr e ↦ among_first (o.top x) xid subs (sym (rule.are_subs x e).0)
    ]
commits_top o start end xid (Abort subs) older rule x h = absurd (false≢true h)
commits_top o start end xid (Assignment top subs) older rule x h = absurd (false≢true h)
commits_top o start end xid (Running head xids) older rule x h = absurd (false≢true h)
commits_top o start end xid (Shutdown next) older rule x h = absurd (false≢true h)
commits_top o start end xid (Online redo next) older rule x h = absurd (false≢true h)
commits_top o start end xid Other older rule x h = absurd (false≢true h)

pub committed_top :
    (o : TransactionOrigin) (log : List TransactionRecord) → Legal o log → (x : ℕ) → 3 ≤ x → committed o.at x log ≡ true
    → committed o.at (o.top x) log ≡ true
unfolding committed
committed_top o [] legal x normal h = (origin_rule o [] legal).top_committed x normal h
committed_top o (r ∷ older) legal x normal h =
    elim (or_cases (commits x r.xid r.kind) (committed o.at x older) h) [
      | inl e ↦
          or_left (commits (o.top x) r.xid r.kind) (committed o.at (o.top x) older)
          (commits_top o r.start r.end r.xid r.kind older (rule_of o r older legal) x e)
      | inr e ↦
          or_right (commits (o.top x) r.xid r.kind) (committed o.at (o.top x) older)
          (committed_top o older (legal_rest o r older legal) x normal e)
    ]

-- who finishes ends
pub finishes_ends : (x xid : ℕ) (kind : Kind) → finishes x xid kind ≡ true → ends x xid kind ≡ true
finishes_ends x xid (Commit subs) h = h
finishes_ends x xid (Abort subs) h = h
finishes_ends x xid (Assignment top subs) h = absurd (false≢true h)
finishes_ends x xid (Running head xids) h = absurd (false≢true h)
finishes_ends x xid (Shutdown next) h = absurd (false≢true h)
finishes_ends x xid (Online redo next) h = absurd (false≢true h)
finishes_ends x xid Other h = absurd (false≢true h)

commits_ends : (x xid : ℕ) (kind : Kind) → commits x xid kind ≡ true → ends x xid kind ≡ true
commits_ends x xid (Commit subs) h = h
commits_ends x xid (Abort subs) h = absurd (false≢true h)
commits_ends x xid (Assignment top subs) h = absurd (false≢true h)
commits_ends x xid (Running head xids) h = absurd (false≢true h)
commits_ends x xid (Shutdown next) h = absurd (false≢true h)
commits_ends x xid (Online redo next) h = absurd (false≢true h)
commits_ends x xid Other h = absurd (false≢true h)

pub committed_ended : (s : Statuses) (x : ℕ) (log : List TransactionRecord) → committed s x log ≡ true → ended s x log ≡ true
unfolding committed ended
committed_ended s x [] h = or_left ((x == 1 || x == 2) || s.is_committed x) (s.is_aborted x) h
committed_ended s x (r ∷ older) h =
    elim (or_cases (commits x r.xid r.kind) (committed s x older) h) [
      | inl e ↦ or_left (ends x r.xid r.kind) (ended s x older) (commits_ends x r.xid r.kind e)
      | inr e ↦ or_right (ends x r.xid r.kind) (ended s x older) (committed_ended s x older e)
    ]

pub live_not_committed : (s : Statuses) (x : ℕ) (log : List TransactionRecord) → Live s x log → committed s x log ≡ false
live_not_committed s x log l =
    false_from_ne_true (committed s x log) (λ h. both_ways (ended s x log) l.not_ended (committed_ended s x log h))

-- the bootstrap and the frozen id have ended
pub two_ended : (s : Statuses) (log : List TransactionRecord) → ended s 2 log ≡ true
unfolding ended
two_ended s [] = refl
two_ended s (r ∷ older) = or_right (ends 2 r.xid r.kind) (ended s 2 older) (two_ended s older)

-- only a live id commits
commits_live :
    (o : TransactionOrigin) (start end xid : ℕ) (kind : Kind) (older : List TransactionRecord)
    → RuleOf o xid kind older (written start end xid kind older) → (x : ℕ) → commits x xid kind ≡ true → Live o.at x older
commits_live o start end xid (Commit subs) older rule x h = rule.live x h
commits_live o start end xid (Abort subs) older rule x h = absurd (false≢true h)
commits_live o start end xid (Assignment top subs) older rule x h = absurd (false≢true h)
commits_live o start end xid (Running head xids) older rule x h = absurd (false≢true h)
commits_live o start end xid (Shutdown next) older rule x h = absurd (false≢true h)
commits_live o start end xid (Online redo next) older rule x h = absurd (false≢true h)
commits_live o start end xid Other older rule x h = absurd (false≢true h)

pub committed_stays :
    (o : TransactionOrigin) (r : TransactionRecord) (older : List TransactionRecord) → Legal o (r ∷ older) → (x : ℕ)
    → (Live o.at x older → ⊥) → committed o.at x (r ∷ older) ≡ committed o.at x older
unfolding committed
committed_stays o r older legal x dead =
    ap (λ (t : Bool). t || committed o.at x older)
    (false_from_ne_true (commits x r.xid r.kind)
    (λ h. dead (commits_live o r.start r.end r.xid r.kind older (rule_of o r older legal) x h)))

-- an id that is not live at a position commits no more after it
dead_after :
    (s : Statuses) (more life old : List TransactionRecord) (x : ℕ) → (Live s x (life ++ old) → ⊥)
    → Live s x ((more ++ life) ++ old) → ⊥
dead_after s [] life old x dead l = dead l
dead_after s (r ∷ more) life old x dead l = dead_after s more life old x dead (live_before s x r ((more ++ life) ++ old) l)

pub committed_no_more :
    (o : TransactionOrigin) (more life old : List TransactionRecord) → Legal o ((more ++ life) ++ old) → (x : ℕ)
    → (Live o.at x (life ++ old) → ⊥) → committed o.at x ((more ++ life) ++ old) ≡ committed o.at x (life ++ old)
committed_no_more o [] life old legal x dead = refl
committed_no_more o (r ∷ more) life old legal x dead =
    committed_stays o r ((more ++ life) ++ old) legal x (dead_after o.at more life old x dead)
    ∙ committed_no_more o more life old (legal_rest o r ((more ++ life) ++ old) legal) x dead

-- what had not been assigned with a record had not been before it
pub next_before :
    (s : Statuses) (n : ℕ) (r : TransactionRecord) (older : List TransactionRecord) → IsNext s n (r ∷ older)
    → IsNext s n older
unfolding named greatest_next
next_before s n r older next =
    record {
      normal = next.normal;
      above_seen = λ x h. next.above_seen x (or_right (names x r.xid r.kind) (named x older) h);
      not_below = let h = next.not_below in omega arith;
      none_ended = λ x h. (not_ended_before s x r older (next.none_ended x h)).1;
    }

pub next_above_seen :
    (s : Statuses) (n : ℕ) (r : TransactionRecord) (older : List TransactionRecord) → IsNext s n (r ∷ older)
    → (x : ℕ) → names x r.xid r.kind ≡ true → x < n
unfolding named
next_above_seen s n r older next x h = next.above_seen x (or_left (names x r.xid r.kind) (named x older) h)

pub next_not_below :
    (s : Statuses) (n : ℕ) (r : TransactionRecord) (older : List TransactionRecord) → IsNext s n (r ∷ older)
    → next_in r.kind ≤ n
unfolding greatest_next
next_not_below s n r older next = let h = next.not_below in omega arith
