-- The state of a standby's rules is that of its life.
use Rattle.std.proofs.Common.{◌≡◌, ℕ, ◌-◌, ◌≤◌, max, Bool, true, false, ◌||◌, not, cond, List, [], ◌∷◌, ◌++◌, Option, Some, None, unwrap_or, arith, refl, sym, ap, ◌∙◌, inl, inr, nat_lt, nat_le}
use Rattle.std.proofs.lemmas.Bool.{cond_both, cond-true, or_right, lt-ltb, le-ltb, le-leb, lt-leb, cases_lt}
use Rattle.known_assigned.specs.declared.state.RunningHead.{RunningHead}
use Rattle.known_assigned.specs.declared.state.State.{State}
use Rattle.known_assigned.specs.declared.state.State.TheVariants.{Initialized, Pending, Ready}
use Rattle.known_assigned.specs.Ids.{without, greatest}
use Rattle.known_assigned.specs.Known.{Known, is_initialized, overflows, after_observe, after_end, after_assign, past_oldest, made_anew, running_in, after_running, after_shutdown}
use Rattle.transaction_model.specs.Transactions.{Kind, Commit, Abort, Assignment, Running, Shutdown, Online, Other, TransactionRecord, first_next, settles, is_settled, unsettled, state_of}
use Rattle.transaction_model.specs.LegalTransactions.{TransactionOrigin, RuleOf, Legal}
use Rattle.transaction_model.specs.StandbyStates.{StandbyState, at_start, effect, last_named, replay, shown}
use Rattle.transaction_model.specs.TransactionLaws.{StateAgrees}
use Rattle.transaction_model.proofs.Endings.{rule_of, legal_rest, written}
use Rattle.transaction_model.proofs.RunningKept.{still_live, last_shown}

-- the state after a running record
abbrev mode_after : State → RunningHead → State
mode_after Initialized head = cond (overflows head) (Pending (record { 0 = head.next.0 - 1 })) Ready
mode_after (Pending until) head =
    cond (overflows head) (cond (nat_lt until.0 head.oldest.0) Ready (Pending until))
    (cond (overflows head) (Pending (record { 0 = head.next.0 - 1 })) Ready)
mode_after Ready head = Ready

mode_of_cond : (t : Bool) (a b : Known) → (cond t a b).mode ≡ cond t a.mode b.mode
mode_of_cond true a b = refl
mode_of_cond false a b = refl

running_in_mode :
    (mode : State) (k : Known) (head : RunningHead) (live : List ℕ) (last : ℕ) → k.mode ≡ mode
    → (running_in mode k head live last).mode ≡ mode_after mode head
unfolding made_anew
running_in_mode Initialized k head live last e = refl
running_in_mode Ready k head live last e = e
running_in_mode (Pending until) k head live last e =
    mode_of_cond (overflows head) (record k { mode = cond (nat_lt until.0 head.oldest.0) Ready (Pending until) })
    (made_anew k head live last)

running_mode :
    (k : Known) (head : RunningHead) (live : List ℕ) (last : ℕ) → (after_running k head live last).mode ≡ mode_after k.mode head
unfolding after_running past_oldest
running_mode k head live last = running_in_mode k.mode (past_oldest k head.oldest.0) head live last refl

assign_mode : (k : Known) (top : ℕ) (subs : List ℕ) → (after_assign k top subs).mode ≡ k.mode
unfolding after_assign
assign_mode k top subs =
    cond_both (is_initialized k.mode) k
    (record k { xids = without subs k.xids; overflowed = max k.overflowed (greatest (top ∷ subs)) })
    (λ (m : Known). m.mode ≡ k.mode) (λ e. refl) (λ e. refl)

observe_mode : (k : Known) (x : ℕ) → (after_observe k x).mode ≡ k.mode
unfolding after_observe
observe_mode k x = refl

end_mode : (k : Known) (out : List ℕ) → (after_end k out).mode ≡ k.mode
unfolding after_end
end_mode k out = refl

shutdown_mode : (k : Known) (next : ℕ) → (after_shutdown k next).mode ≡ Ready
unfolding after_shutdown
shutdown_mode k next = refl

-- one running record, where nothing, or a first running record's next id, or all was known
one_first : (b : Bool) (p q : State) → cond b p q ≡ cond ((not b || false) || false) q p
one_first true p q = refl
one_first false p q = refl

one_later :
    (b c d : Bool) (p q r : State) → c ≡ d → cond b (cond c r p) (cond b q r) ≡ cond ((not b || d) || false) r p
one_later true true true p q r e = refl
one_later true false false p q r e = refl
one_later true true false p q r e = cc
one_later true false true p q r e = cc
one_later false c d p q r e = refl

same_reach : (n oldest : ℕ) → 1 ≤ n → nat_lt (n - 1) oldest ≡ nat_le n oldest
same_reach n oldest h =
    elim (cases_lt (n - 1) oldest) [
      | inl e ↦ lt-ltb (n - 1) oldest e ∙ sym (le-leb n oldest (omega arith))
      | inr e ↦ le-ltb (n - 1) oldest e ∙ sym (lt-leb n oldest (omega arith))
    ]

running_state :
    (settled : Bool) (first : Option ℕ) (head : RunningHead) (xids : List ℕ) → ((n : ℕ) → first ≡ Some n → 1 ≤ n)
    → mode_after (cond settled Ready (unsettled first)) head
    ≡ cond (settles first (Running head xids) || settled) Ready (unsettled (Some (unwrap_or first head.next.0)))
running_state true first head xids normal =
    sym
    (cond-true (settles first (Running head xids) || true) Ready (unsettled (Some (unwrap_or first head.next.0)))
    (or_right (settles first (Running head xids)) true refl))
running_state false None head xids normal = one_first (overflows head) (Pending (record { 0 = head.next.0 - 1 })) Ready
running_state false (Some n) head xids normal =
    one_later (overflows head) (nat_lt (n - 1) head.oldest.0) (nat_le n head.oldest.0) (Pending (record { 0 = n - 1 }))
    (Pending (record { 0 = head.next.0 - 1 })) Ready (same_reach n head.oldest.0 (normal n refl))

effect_state :
    (shows : ℕ → Bool) (k : StandbyState) (start end xid : ℕ) (kind : Kind) (life : List TransactionRecord)
    → ((n : ℕ) → first_next life ≡ Some n → 1 ≤ n) → k.known.mode ≡ state_of life
    → (effect shows xid kind k).known.mode ≡ state_of (written start end xid kind life)
unfolding state_of is_settled first_next
effect_state shows k start end xid (Commit subs) life normal e = end_mode k.known (xid ∷ subs) ∙ e
effect_state shows k start end xid (Abort subs) life normal e = end_mode k.known (xid ∷ subs) ∙ e
effect_state shows k start end xid (Assignment top subs) life normal e = assign_mode k.known top subs ∙ e
effect_state shows k start end xid (Running head xids) life normal e =
    running_mode k.known head (still_live shows xids) (last_shown shows xids)
    ∙ ap (λ (m : State). mode_after m head) e
    ∙ running_state (is_settled life) (first_next life) head xids normal
effect_state shows k start end xid (Shutdown next) life normal e = shutdown_mode k.known next
effect_state shows k start end xid (Online redo next) life normal e = e
effect_state shows k start end xid Other life normal e = e

state_after :
    (shows : ℕ → Bool) (k : StandbyState) (start end xid : ℕ) (kind : Kind) (life : List TransactionRecord)
    → ((n : ℕ) → first_next life ≡ Some n → 1 ≤ n) → k.known.mode ≡ state_of life
    → (replay shows xid kind k).known.mode ≡ state_of (written start end xid kind life)
state_after shows k start end xid kind life normal e =
    effect_state shows (record k { known = after_observe k.known (last_named xid kind) }) start end xid kind life normal
    (observe_mode k.known (last_named xid kind) ∙ e)

first_from : (first : Option ℕ) (next n : ℕ) → ((m : ℕ) → first ≡ Some m → 1 ≤ m) → 1 ≤ next
    → Some (unwrap_or first next) ≡ Some n → 1 ≤ n
first_from None next n was normal h = let e : next ≡ n = cc in omega arith
first_from (Some m) next n was normal h = let e : m ≡ n = cc in was n (ap (λ (x : ℕ). Some x) e)

none_is_none : (n : ℕ) → first_next [] ≡ Some n → 1 ≤ n
unfolding first_next
none_is_none n h = absurd (cc)

start_agrees : (k : StandbyState) → k ≡ at_start → k.known.mode ≡ state_of []
unfolding state_of is_settled first_next
start_agrees k e = ap (λ (m : StandbyState). m.known.mode) e

-- the next id of a running record is a normal one
first_is_normal :
    (o : TransactionOrigin) (start end xid : ℕ) (kind : Kind) (life old : List TransactionRecord)
    → RuleOf o xid kind (life ++ old) (written start end xid kind (life ++ old)) → (n : ℕ)
    → ((m : ℕ) → first_next life ≡ Some m → 1 ≤ m) → first_next (written start end xid kind life) ≡ Some n → 1 ≤ n
unfolding first_next
first_is_normal o start end xid (Running head xids) life old rule n was h =
    first_from (first_next life) head.next.0 n was (let normal = rule.is_next.normal in omega arith) h
first_is_normal o start end xid (Commit subs) life old rule n was h = was n h
first_is_normal o start end xid (Abort subs) life old rule n was h = was n h
first_is_normal o start end xid (Assignment top subs) life old rule n was h = was n h
first_is_normal o start end xid (Shutdown next) life old rule n was h = was n h
first_is_normal o start end xid (Online redo next) life old rule n was h = was n h
first_is_normal o start end xid Other life old rule n was h = was n h

first_normal :
    (o : TransactionOrigin) (old life : List TransactionRecord) → Legal o (life ++ old) → (n : ℕ) → first_next life ≡ Some n → 1 ≤ n
first_normal o old [] legal n h = none_is_none n h
first_normal o old (r ∷ life) legal n h =
    first_is_normal o r.start r.end r.xid r.kind life old (rule_of o r (life ++ old) legal) n
    (first_normal o old life (legal_rest o r (life ++ old) legal)) h

pub state_agrees : StateAgrees
state_agrees o first old [] k legal leads = start_agrees k leads
state_agrees o first old (r ∷ life) k legal (was, bound, leads, free, is) =
    let rest = legal_rest o r (life ++ old) legal in
    ap (λ (m : StandbyState). m.known.mode) is
    ∙ state_after (shown first life) was r.start r.end r.xid r.kind life (first_normal o old life rest)
    (state_agrees o first old life was rest leads)
