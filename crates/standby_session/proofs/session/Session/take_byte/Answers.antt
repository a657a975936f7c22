use Rattle.std.proofs.Common.{List, [], ◌∷◌, ℕ, Option, ap, sym, ◌∙◌}
use Rattle.wal_archive.specs.ArchiveLog.{archived_bytes}
use Rattle.standby_core.specs.View.{standby}
use Rattle.session_text.specs.Taking.{given, step}
use Rattle.session_text.specs.Requests.{requests_of}
use Rattle.standby_session.proofs.Lines.{no_lines, one_line}
use Rattle.standby_session.proofs.Talking.{memory_first}
use Rattle.standby_session.proofs.session.Session.take_byte.Goals as goal

pub returns-in-Err-clause-told : goal.returns-in-Err-clause-told
returns-in-Err-clause-told g c =
    memory_first (archived_bytes (g.A.Archive.files c.args.archive.now) (standby c.args.node.now).segsize)
    (requests_of (given (step c.args.self.now.lines c.args.byte).1)) (standby c.args.node.now) (g.O.Sink.written c.args.out.now)

pub returns-in-Ok-None-clause-told : goal.returns-in-Ok-None-clause-told
returns-in-Ok-None-clause-told g c =
    let line = rw c.in-Ok-None.field-0-is at c.in-Ok-None.ensures.line in
    no_lines (archived_bytes (g.A.Archive.files c.args.archive.now) (standby c.args.node.now).segsize)
    (given (step c.args.self.now.lines c.args.byte).1) (standby c.args.node.now) (g.O.Sink.written c.args.out.now) c.args.self.now.troubled
    (ap (λ (o : Option (List ℕ)). given o) (sym line))

pub returns-in-Ok-Some-clause-told : goal.returns-in-Ok-Some-clause-told
returns-in-Ok-Some-clause-told g c =
    let line = rw c.in-Ok-Some.field-0-is at c.in-Ok-Some.ensures.line in
    one_line (archived_bytes (g.A.Archive.files c.args.archive.now) (standby c.args.node.now).segsize) c.as_slice.result.now
    (given (step c.args.self.now.lines c.args.byte).1) (standby c.args.node.now) (standby c.answer.new.node)
    (g.O.Sink.written c.args.out.now) (g.O.Sink.written c.answer.new.out) c.args.self.now.troubled c.answer.new.self.troubled c.answer.result
    (ap (λ (o : Option (List ℕ)). given o) (sym line) ∙ ap (λ (l : List ℕ). l ∷ []) (sym c.as_slice.ensures.value)) c.answer.ensures.told
