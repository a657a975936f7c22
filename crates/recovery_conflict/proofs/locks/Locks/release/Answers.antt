use Rattle.std.proofs.Common.{rules, ◌∙◌, ap, filter}
use Rattle.std.proofs.lemmas.Fn.{filter_same}
use Rattle.recovery_conflict.specs.Held.{keeps}
use Rattle.recovery_conflict.specs.Room.{LocksInRoom}
use Rattle.recovery_conflict.proofs.locks.Locks.release.Goals as goal

pub returns-clause-locks : goal.returns-clause-locks
returns-clause-locks c =
    let rec = c.args.rec.now in
    filter_same _ (keeps rec) _ (λ x b f' k. search rules) _ _ c.retain.ensures.filtered
    ∙ ap (λ (l : LocksInRoom). filter (keeps rec) l.locks) c.self.view_is
