-- What follows where a text is not gathered on.
use Rattle.wal_reader.specs.declared.types.Trouble.{Trouble}
use Rattle.wal_reader.specs.declared.types.Trouble.TheVariants as trouble
use Rattle.wal_reader.specs.Halt.{Halt, Stops, GivesUp}
use Rattle.wal_reader.specs.Calls.{IfHalts}

pub halts-map : {P Q : Halt → Type 0} (e : Trouble) → IfHalts e P → ((halt : Halt) → P halt → Q halt) → IfHalts e Q
halts-map (trouble.Stops why) says f = f (Stops why) says
halts-map (trouble.GivesUp place) says f = f (GivesUp place) says
halts-map trouble.Log says f = tt
halts-map trouble.Memory says f = tt
