use Rattle.std.proofs.Common.{sym, arith, ◌-◌}
use Rattle.wal_reader.proofs.WindowSteps.{given_told}
use Rattle.wal_reader.proofs.window.read_into.Goals as goal

pub returns-clause-told : goal.returns-clause-told
returns-clause-told g c =
    let a = c.args in
    given_told (g.L.LogBytes.told a.log.now) a.at a.have (a.end - a.have) a.page.now _ c.bytes_at.new.buf c.bytes_at.result
    (omega arith) (sym c.bytes_at.auto.buf) c.bytes_at.ensures.fits c.bytes_at.ensures.bytes
