use Rattle.std.proofs.Common.{◌/◌, arith, refl, length}
use Rattle.std.proofs.lemmas.Option.{slice_get_read}
use Rattle.commit_log.proofs.Pages.{status-set_one, changed-set_one, page_within}
use Rattle.commit_log.proofs.CommitLog.set_one.Goals as goal

pub returns-clause-statuses : goal.returns-clause-statuses
returns-clause-statuses c =
    let log = c.args.self.now in
    status-set_one log _ c.args.xid c.index_mut-page.result.now c.set.new.self c.args.status (omega arith) refl (slice_get_read log.pages.items (length log.pages.items) (c.args.xid.0 / 32768) c.index_mut-page.result.now refl (page_within log c.args.xid.0 c.requires) c.index_mut-page.ensures.value) c.set.ensures.statuses

pub returns-clause-changed : goal.returns-clause-changed
returns-clause-changed c =
    let log = c.args.self.now in
    changed-set_one log _ c.args.xid c.index_mut-page.result.now c.set.new.self c.args.at.0 (omega arith) refl (slice_get_read log.pages.items (length log.pages.items) (c.args.xid.0 / 32768) c.index_mut-page.result.now refl (page_within log c.args.xid.0 c.requires) c.index_mut-page.ensures.value) c.set.ensures.changed
