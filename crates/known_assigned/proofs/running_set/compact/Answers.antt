use Rattle.std.proofs.Common.{rules}
use Rattle.std.proofs.lemmas.List.Elements.{filter_from_retain}
use Rattle.known_assigned.specs.declared.running_set.Slot.{Slot}
use Rattle.known_assigned.proofs.running_set.compact.Goals as goal

pub returns-clause-items : goal.returns-clause-items
returns-clause-items c = filter_from_retain _ (λ (s : Slot). s.live) (λ p x b q r. search rules) _ _ _ c.retain.ensures.filtered
