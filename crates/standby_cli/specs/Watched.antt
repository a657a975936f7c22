-- What the outside was seen to do, by the counts of its faults.
use Rattle.std.specs.Prelude.{ℕ, ◌⊎◌, List, Option}
use Rattle.outside.specs.Faults.{Rose}
use Rattle.run_model.specs.Leaves.{Outside}

-- the sink's faults, its writes that found no memory, and what it took, before and now
abbrev pub watched : (faults now_faults shorts now_shorts : ℕ) → Type 0 → (before now : Option (List ℕ)) → Outside
watched faults now_faults shorts now_shorts source_rose before now = record {
  sink_rose = Rose faults now_faults;
  source_rose = source_rose;
  trouble = (Rose faults now_faults) ⊎ (Rose shorts now_shorts);
  before = before;
  now = now;
}
