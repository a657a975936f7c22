use Rattle.std.proofs.Common.{sym, refl}
use Rattle.wal_record.proofs.Shaping.{shape-there}
use Rattle.wal_record.proofs.view.shape_of.Goals as goal

pub returns-in-Ok : goal.returns-in-Ok
returns-in-Ok c =
    shape-there c.args.bytes.now c.args.at.0 c.args.prev c.in-Ok.head c.whole.result (sym c.in-Ok.ensures.exact) c.whole.ensures.header_fits
    (c.whole.ensures.says c.in-Ok.head refl)
