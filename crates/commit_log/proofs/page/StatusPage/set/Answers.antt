use Rattle.std.proofs.Common.{rules}
use Rattle.commit_log.proofs.Packing.{status-written}
use Rattle.commit_log.proofs.page.StatusPage.set.Goals as goal

pub returns-clause-statuses : goal.returns-clause-statuses
returns-clause-statuses c =
    λ m. rw (← c.deref_mut-bytes.ensures.value) (status-written c.deref_mut-bytes.result.now c.args.n c.with_bits.result c.args.status (search rules) (λ j h. rw (← c.bits_from.ensures) (c.with_bits.ensures j h)) m)
