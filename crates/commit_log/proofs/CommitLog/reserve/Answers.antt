use Rattle.std.proofs.Common.{arith}
use Rattle.commit_log.specs.Log.{reserved_end}
use Rattle.commit_log.proofs.CommitLog.reserve.Goals as goal

pub returns-clause-reserved : goal.returns-clause-reserved
unfolding reserved_end
returns-clause-reserved c = omega arith
