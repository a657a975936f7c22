use Rattle.std.proofs.Common.{arith, ◌∙◌, ap, take}
use Rattle.wal_reader.proofs.WindowSteps.{kept_more_if}
use Rattle.wal_reader.proofs.window.Window.more.Goals as goal

pub returns-clause-told : goal.returns-clause-told
returns-clause-told g c =
    let w = c.self.inside in
    let before = c.in_ok-count.ensures.before in
    let fits = c.in_ok-count.ensures.fits in
    let inv = c.self.invariant in
    let len = c.deref_mut.ensures.len in
    let same = before ∙ ap (take w.have) c.deref_mut.ensures.value in
    let kept = c.read_into.auto.page in
    kept_more_if (g.L.LogBytes.told c.args.log.now) c.args.self.now w.from w.have c.in_ok-count.count w.buffer.len w.buffer.items c.read_into.new.page w.buffer.items
    c.self.view_is (omega arith) (omega arith) same c.in_ok-count.ensures.told
