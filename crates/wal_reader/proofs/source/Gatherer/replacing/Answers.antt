use Rattle.std.proofs.Common.{◌≡◌, true, false, ap, sym, refl, ◌∙◌}
use Rattle.wal_record.specs.Shapes.{shaped}
use Rattle.wal_reader.specs.Calls.{text_at}
use Rattle.wal_reader.specs.Step.{overwrites}
use Rattle.wal_reader.proofs.StepSteps.{one_record}
use Rattle.wal_reader.proofs.source.Gatherer.replacing.Goals as goal

pub returns-then-overwrites-clause-answer : goal.returns-then-overwrites-clause-answer
returns-then-overwrites-clause-answer c = λ read e.
    let text = text_at c.args.self.now c.args.taken.start c.args.taken.lent in
    let same = one_record _ read (shaped text c.args.taken.shape) e c.requires.whole.is in
    let w : overwrites c.args.begun read ≡ true = ap (overwrites c.args.begun) same ∙ sym c.overwrites.ensures ∙ c.if-overwrites.true in
    (read, e, rw w refl)

pub returns-else-overwrites-clause-answer : goal.returns-else-overwrites-clause-answer
returns-else-overwrites-clause-answer c = λ read e.
    let text = text_at c.args.self.now c.args.taken.start c.args.taken.lent in
    let same = one_record _ read (shaped text c.args.taken.shape) e c.requires.whole.is in
    let w : overwrites c.args.begun read ≡ false = ap (overwrites c.args.begun) same ∙ sym c.overwrites.ensures ∙ c.if-overwrites.false in
    rw w refl
