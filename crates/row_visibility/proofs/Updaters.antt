-- Along a log the multixacts that a standby keeps are those of the log, and what they say of deleters.
use Rattle.std.proofs.Common.{◌≡◌, ℕ, List, [], ◌∷◌, ap, ◌∙◌}
use Rattle.typed_records.specs.declared.types.Rec.{Rec}
use Rattle.multixact.specs.Made.{Made}
use Rattle.xact_redo.specs.State.{TransactionState, before_records, forgetting, state_after, updaters_after}
use Rattle.row_model.specs.Multixacts.{multixacts}
use Rattle.row_visibility.specs.Sees.{IsAlong}

-- a record adds what it makes, whichever parents are forgotten then
updaters_more :
    (rec : Rec) (bound : ℕ) (was state : TransactionState) → state ≡ forgetting bound (state_after rec was)
    → state.updaters ≡ updaters_after rec.kind was.updaters
unfolding forgetting state_after
updaters_more rec bound was state is = ap (λ (s : TransactionState). s.updaters) is

pub updaters_along : (log : List Rec) (state : TransactionState) → IsAlong log state → state.updaters ≡ multixacts log
unfolding before_records multixacts
updaters_along [] state is = ap (λ (s : TransactionState). s.updaters) is
updaters_along (rec ∷ older) state (was, bound, along, free, is) =
    updaters_more rec bound was state is ∙ ap (λ (made : Made). updaters_after rec.kind made) (updaters_along older was along)
