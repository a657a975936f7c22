-- A running record in each state.
use Rattle.std.proofs.Common.{◌≡◌, ◌≤◌, ℕ, List, true, false, ◌∙◌, ap, sym, nat_lt}
use Rattle.std.proofs.lemmas.Bool.{le-ltb}
use Rattle.pg_types.specs.declared.names.Xid.{Xid}
use Rattle.known_assigned.specs.declared.state.RunningHead.{RunningHead}
use Rattle.known_assigned.specs.declared.state.State.{State}
use Rattle.known_assigned.specs.declared.state.State.TheVariants.{Pending}
use Rattle.known_assigned.specs.Known.{Known, after_running, overflows, past_oldest, running_in}

-- one that leaves ids out again, and does not show that all that waited have ended, leaves the rest
pub running-pending_kept : (k : Known) (head : RunningHead) (live : List ℕ) (ended : ℕ) (until : Xid) → k.mode ≡ Pending until → overflows head ≡ true → head.oldest.0 ≤ until.0
    → past_oldest k head.oldest.0 ≡ after_running k head live ended
unfolding after_running past_oldest
running-pending_kept k head live ended until pending over low =
    let p = past_oldest k head.oldest.0 in
    let not_past : nat_lt until.0 head.oldest.0 ≡ false = le-ltb until.0 head.oldest.0 low in
    let same : record p { mode = Pending until } ≡ p = ap (λ (m : State). record p { mode = m }) (sym pending) in
    sym (ap (λ (m : State). running_in m p head live ended) pending ∙ rw (over, not_past) same)
