use Rattle.std.proofs.Common.{◌≡◌, ◌∙◌, List, ℕ, ap, sym, subst}
use Rattle.std.specs.Prelude.{IsSome}
use Rattle.wal_record.specs.Shapes.{HasShape}
use Rattle.wal_reader.specs.Standing.{Standing, shown_text}
use Rattle.wal_reader.proofs.StepSteps.{given_has}
use Rattle.wal_reader.proofs.reader.Reader.record.Goals as goal

pub lend-requires : goal.lend-requires
lend-requires c =
    let r = c.self.inside in
    let view = c.self.view_is in
    let text : shown_text r.source r.lent ≡ c.text.result.now = ap (λ (s : Standing). s.source.text) view ∙ sym c.text.ensures in
    let some : IsSome r.given = subst (λ (s : Standing). IsSome s.given) (sym view) c.requires in
    subst (λ (t : List ℕ). HasShape t r.shape) text (given_has r.given (shown_text r.source r.lent) r.prev r.shape some c.self.invariant.1)
