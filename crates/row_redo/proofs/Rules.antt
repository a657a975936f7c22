-- The rules of the legal log for one step of a record, taken together.
use Rattle.std.proofs.Common.{ℕ, List, [], ◌∷◌}
use Rattle.pg_types.specs.declared.names.Locator.{Locator}
use Rattle.typed_records.specs.declared.types.Rec.{Rec}
use Rattle.row_model.specs.Versions.{Version, RowStep, with_step}
use Rattle.row_model.specs.Origins.{LogOrigin}
use Rattle.row_model.specs.LegalSteps.{BirthStep, DeleterStep, EachStep, MultixactStep, RemovalStep}

-- what a step keeps to in its table, under its record's horizon
pub record StepRule (from : LogOrigin) (log : List Rec) (vs : List Version) (step : RowStep) : Type 0 where
  pub table : Locator
  pub horizon : ℕ
  pub births : BirthStep from table log vs step
  pub deleters : DeleterStep from log vs step
  pub removals : RemovalStep from log horizon vs step
  pub multixacts : MultixactStep log vs step

abbrev pub StepsRule : LogOrigin → List Rec → List Version → List RowStep → Type 0
StepsRule from log vs steps = EachStep (StepRule from log) vs steps

-- the steps that keep to each rule
pub rules_of :
    (from : LogOrigin) (table : Locator) (log : List Rec) (horizon : ℕ) (vs : List Version) (steps : List RowStep)
    → EachStep (BirthStep from table log) vs steps → EachStep (DeleterStep from log) vs steps
    → EachStep (RemovalStep from log horizon) vs steps → EachStep (MultixactStep log) vs steps
    → StepsRule from log vs steps
rules_of from table log horizon vs [] births deleters removals multixacts = tt
rules_of from table log horizon vs (step ∷ steps) (birth, births) (deleter, deleters) (removal, removals) (multixact, multixacts) = (
  record {
    table = table;
    horizon = horizon;
    births = birth;
    deleters = deleter;
    removals = removal;
    multixacts = multixact;
  },
  rules_of from table log horizon (with_step vs step) steps births deleters removals multixacts,
)
