use Rattle.std.proofs.Common.{[], ◌∷◌, ◌∙◌}
use Rattle.wal_archive.specs.ArchiveLog.{archived_bytes}
use Rattle.session_text.specs.Meaning.{asked}
use Rattle.session_text.specs.Requests.{request_of}
use Rattle.standby_core.specs.View.{standby}
use Rattle.standby_session.proofs.Asking.{read_some}
use Rattle.standby_session.proofs.Lines.{written_nothing, written_prefix, written_whole}
use Rattle.standby_session.proofs.Talking.{archive_first, memory_first}
use Rattle.standby_session.proofs.session.Session.answer.Goals as goal

pub push_answer-requires : goal.push_answer-requires
push_answer-requires g c = read_some (asked c.read_request.result) c.args.line.now c.read_request.ensures

pub returns-in-Err-Archive-clause-told : goal.returns-in-Err-Archive-clause-told
returns-in-Err-Archive-clause-told g c =
    archive_first (archived_bytes (g.A.Archive.files c.args.archive.now) (standby c.args.node.now).segsize) (request_of c.args.line.now ∷ [])
    (standby c.args.node.now) (g.O.Sink.written c.args.out.now)

pub returns-in-Err-Memory-clause-told : goal.returns-in-Err-Memory-clause-told
returns-in-Err-Memory-clause-told g c =
    memory_first (archived_bytes (g.A.Archive.files c.args.archive.now) (standby c.args.node.now).segsize) (request_of c.args.line.now ∷ [])
    (standby c.args.node.now) (g.O.Sink.written c.args.out.now)

pub returns-in-Err-Memory-write-clause-told : goal.returns-in-Err-Memory-write-clause-told
returns-in-Err-Memory-write-clause-told g c =
    written_nothing (archived_bytes (g.A.Archive.files c.args.archive.now) (standby c.args.node.now).segsize) (request_of c.args.line.now ∷ [])
    (standby c.args.node.now) (g.O.Sink.written c.args.out.now) (g.O.Sink.written c.write.new.self)
    (rw c.in-Err-Memory-write.field-0-is at c.in-Err-Memory-write.ensures.told)

pub returns-in-Err-Failed-clause-told : goal.returns-in-Err-Failed-clause-told
returns-in-Err-Failed-clause-told g c =
    let text = c.as_slice.ensures.value ∙ c.note.ensures.text in
    written_prefix (archived_bytes (g.A.Archive.files c.args.archive.now) (standby c.args.node.now).segsize) (asked c.read_request.result)
    (request_of c.args.line.now) (standby c.args.node.now) (standby c.push_answer.new.node) c.clear.new.self.items c.push_answer.new.text.items
    c.in-Ok.troubled (g.O.Sink.written c.args.out.now) (g.O.Sink.written c.write.new.self) c.read_request.ensures c.clear.ensures.items
    c.in-Ok.ensures.told (rw text at (rw c.in-Err-Failed.field-0-is at c.in-Err-Failed.ensures.told))

pub returns-in-Ok-write-clause-told : goal.returns-in-Ok-write-clause-told
returns-in-Ok-write-clause-told g c =
    let text = c.as_slice.ensures.value ∙ c.note.ensures.text in
    written_whole (archived_bytes (g.A.Archive.files c.args.archive.now) (standby c.args.node.now).segsize) (asked c.read_request.result)
    (request_of c.args.line.now) (standby c.args.node.now) (standby c.push_answer.new.node) c.clear.new.self.items c.push_answer.new.text.items
    c.in-Ok.troubled c.args.self.now.troubled c.note.new.self.troubled (g.O.Sink.written c.args.out.now) (g.O.Sink.written c.write.new.self)
    c.read_request.ensures c.clear.ensures.items c.in-Ok.ensures.told (rw text at c.in-Ok-write.ensures.told) c.note.ensures.troubled
