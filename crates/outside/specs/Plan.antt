-- A call of an object in memory, by its plan of the calls that are to fail.
use Rattle.std.specs.Prelude.{◌≡◌, ◌≢◌, ◌↔◌, Contains, Result, Err}
use Rattle.pg_types.specs.declared.fail.Fail.{Fail}
use Rattle.pg_types.specs.declared.fail.Fail.TheVariants.{Failed, Memory}
use Rattle.outside.specs.Faults.{counted, next_count}
use Rattle.outside.specs.Memory.{next_call}
use Rattle.outside.specs.declared.faults.FaultPlan.{FaultPlan}

-- the call fails exactly where it is listed, and finds memory always; a fault is counted, and the call is the next one
pub record FollowsPlan {T : Type 0} (old new : FaultPlan) (answer : Result T Fail) : Type 0 where
  pub failed : (answer ≡ Err Failed) ↔ Contains old.fails.items (next_call old.calls)
  pub steady : answer ≢ Err Memory
  pub one : answer ≡ Err Failed → counted new.count.faults ≡ next_count (counted old.count.faults)
  pub listed : new.fails.items ≡ old.fails.items
  pub next : new.calls ≡ next_call old.calls
