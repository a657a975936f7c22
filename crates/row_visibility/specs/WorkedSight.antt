-- What a snapshot sees of the worked log's rows: so what the laws ask for can be met.
use Rattle.std.specs.Prelude.{◌≡◌, ℕ, true, false, List, ◌∷◌, Ok}
use Rattle.known_assigned.specs.declared.state.State.TheVariants.{Ready}
use Rattle.transaction_model.specs.LegalTransactions.{Legal}
use Rattle.xact_redo.specs.TransactionsOf.{transactions_of}
use Rattle.row_model.specs.Shows.{Shows}
use Rattle.row_model.specs.Shown.{IsSound}
use Rattle.row_model.specs.WorkedRows.{first_values, second_row, update_by_701, worked_first, worked_log, worked_origin}
use Rattle.xact_redo.specs.Sees.{sees}
use Rattle.row_visibility.specs.Sees.{HasNoStatuses, state_along}

-- the tuple of the first version, once 701 updated it: xmax 701, ctid (0,2), HEAP_HOT_UPDATED (0x4000) beside its two
-- columns, and HEAP_XMAX_INVALID gone
abbrev pub replaced_tuple : List ℕ
replaced_tuple =
    188 ∷ 2 ∷ 0 ∷ 0
    ∷ 189 ∷ 2 ∷ 0 ∷ 0
    ∷ 0 ∷ 0 ∷ 0 ∷ 0
    ∷ 0 ∷ 0 ∷ 0 ∷ 0 ∷ 2 ∷ 0
    ∷ 2 ∷ 64 ∷ 2 ∷ 0 ∷ 24 ∷ 0
    ∷ first_values

pub record IsWorkedSight : Type 0 where
  pub none : HasNoStatuses worked_origin.transactions.at
  pub legal : Legal worked_origin.transactions (transactions_of worked_log)
  pub ready : (state_along worked_log).known.mode ≡ Ready
  pub shows : Shows worked_origin worked_log second_row second_row.tuple
  pub sound : IsSound worked_origin worked_log second_row
  -- after the update, before 701 commits
  pub first_before : sees (state_along (update_by_701 ∷ worked_first)) replaced_tuple ≡ Ok true
  pub second_before : sees (state_along (update_by_701 ∷ worked_first)) second_row.tuple ≡ Ok false
  -- at the log's end
  pub first_after : sees (state_along worked_log) replaced_tuple ≡ Ok false
  pub second_after : sees (state_along worked_log) second_row.tuple ≡ Ok true
