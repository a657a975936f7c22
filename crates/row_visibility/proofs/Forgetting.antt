-- What a standby knows of transactions, whichever parents it forgets.
use Rattle.std.proofs.Common.{◌≡◌, ℕ, ◌≤◌, Bool, true, cond, List, [], ◌∷◌, ◌++◌, arith, refl, sym, ap, ◌∙◌, subst}
use Rattle.std.proofs.lemmas.Bool.{le-leb}
use Rattle.typed_records.specs.declared.types.Rec.{Rec}
use Rattle.known_assigned.specs.Ids.{is_among}
use Rattle.known_assigned.specs.Known.{Known}
use Rattle.subtrans.specs.declared.Pair.{Pair}
use Rattle.subtrans.specs.Parents.{from_sub}
use Rattle.standby_snapshot.specs.Snapshot.{xmax_of, xmin_of}
use Rattle.xact_redo.specs.State.{TransactionState, before_records, forgetting, shows_ended, standby_of, state_after}
use Rattle.xact_redo.specs.TransactionsOf.{kind_of}
use Rattle.transaction_model.proofs.IdSets.{Rising, first_is_least, least_below}
use Rattle.transaction_model.proofs.Replayed.{replay_rises}
use Rattle.row_visibility.specs.Sees.{AllKept, IsAlong, IsAlongFrom, NoneBelowXmin, state_along}

-- from the subtransaction 0 on there are all parents
from_zero : (pairs : List Pair) → from_sub pairs 0 ≡ pairs
from_zero [] = refl
from_zero (p ∷ pairs) =
    ap (λ (t : Bool). cond t (p ∷ from_sub pairs 0) (from_sub pairs 0)) (le-leb 0 p.sub (omega arith))
    ∙ ap (λ (rest : List Pair). p ∷ rest) (from_zero pairs)

pub none_forgotten : (s : TransactionState) → s ≡ forgetting 0 s
unfolding forgetting
none_forgotten s = ap (λ (pairs : List Pair). record s { parents = pairs }) (sym (from_zero s.parents))

-- the state that forgets none
pub all_kept_is : AllKept
unfolding state_along
all_kept_is [] = refl
all_kept_is (r ∷ older) =
    (state_along older, 0, all_kept_is older, λ x h. omega arith, none_forgotten (state_after r (state_along older)))

pub all_kept_on :
    (later opened : List Rec) (xmin : ℕ) → IsAlongFrom (state_along opened) xmin later (state_along (later ++ opened))
unfolding state_along
all_kept_on [] opened xmin = refl
all_kept_on (r ∷ later) opened xmin = (
  state_along (later ++ opened),
  0,
  all_kept_on later opened xmin,
  λ x h. omega arith,
  omega arith,
  none_forgotten (state_after r (state_along (later ++ opened))),
)

-- what a log and then further records lead to is what both lead to
pub along_on :
    (later opened : List Rec) (was now : TransactionState) (xmin : ℕ) → IsAlong opened was → IsAlongFrom was xmin later now
    → IsAlong (later ++ opened) now
along_on [] opened was now xmin along is = subst (λ (s : TransactionState). IsAlong opened s) (sym is) along
along_on (r ∷ later) opened was now xmin along (mid, bound, on, free, low, is) =
    (mid, bound, along_on later opened was mid xmin along on, free, is)

-- the known ids rise
rises_after : (rec : Rec) (s : TransactionState) → Rising s.known.xids → Rising (state_after rec s).known.xids
unfolding state_after
rises_after rec s r = replay_rises (shows_ended s.statuses) (standby_of s) rec.head.xid.0 (kind_of rec.head rec.kind) r

rises_along : (log : List Rec) (state : TransactionState) → IsAlong log state → Rising state.known.xids
unfolding before_records forgetting
rises_along [] state is = subst (λ (s : TransactionState). Rising s.known.xids) (sym is) tt
rises_along (r ∷ older) state (was, bound, along, free, is) =
    subst (λ (s : TransactionState). Rising s.known.xids) (sym is) (rises_after r was (rises_along older was along))

-- so none is below the first of them
none_below : (k : Known) → Rising k.xids → (x : ℕ) → is_among x k.xids ≡ true → xmin_of k ≤ x
none_below k r x h =
    let same = first_is_least (xmax_of k) k.xids r in
    let low = least_below (xmax_of k) x k.xids h in
    omega (arith, same, low)

pub none_below_is : NoneBelowXmin
none_below_is log rec state along =
    none_below (state_after rec state).known (rises_after rec state (rises_along log state along))
