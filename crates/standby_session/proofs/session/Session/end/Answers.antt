use Rattle.std.proofs.Common.{ℕ, List, [], ◌∷◌, ap, sym, ◌∙◌}
use Rattle.wal_archive.specs.ArchiveLog.{archived_bytes}
use Rattle.session_text.specs.Taking.{line_at_end}
use Rattle.standby_core.specs.View.{standby}
use Rattle.standby_session.proofs.Lines.{no_lines, one_line_broken, one_line_told}
use Rattle.standby_session.proofs.session.Session.end.Goals as goal

pub returns-in-None-clause-told : goal.returns-in-None-clause-told
returns-in-None-clause-told g c =
    let lines = rw c.replace-lines.ensures.value at c.in-None.ensures in
    no_lines (archived_bytes (g.A.Archive.files c.args.archive.now) (standby c.args.node.now).segsize) (line_at_end c.args.self.now.lines)
    (standby c.args.node.now) (g.O.Sink.written c.args.out.now) c.args.self.now.troubled (sym lines)

pub returns-in-Err-clause-told : goal.returns-in-Err-clause-told
returns-in-Err-clause-told g c =
    let lines = rw c.replace-lines.ensures.value at c.in-Some.ensures in
    one_line_broken (archived_bytes (g.A.Archive.files c.args.archive.now) (standby c.args.node.now).segsize) c.as_slice.result.now
    (line_at_end c.args.self.now.lines) (standby c.args.node.now) (g.O.Sink.written c.args.out.now) (g.O.Sink.written c.answer.new.out) c.in-Err.fault
    (sym lines ∙ ap (λ (l : List ℕ). l ∷ []) (sym c.as_slice.ensures.value)) c.in-Err.ensures.told

pub returns-clause-told : goal.returns-clause-told
returns-clause-told g c =
    let lines = rw c.replace-lines.ensures.value at c.in-Some.ensures in
    one_line_told (archived_bytes (g.A.Archive.files c.args.archive.now) (standby c.args.node.now).segsize) c.as_slice.result.now
    (line_at_end c.args.self.now.lines) (standby c.args.node.now) (standby c.answer.new.node) (g.O.Sink.written c.args.out.now)
    (g.O.Sink.written c.answer.new.out) c.args.self.now.troubled c.answer.new.self.troubled
    (sym lines ∙ ap (λ (l : List ℕ). l ∷ []) (sym c.as_slice.ensures.value)) c.in-Ok.ensures.told
