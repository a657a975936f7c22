use Rattle.wal_archive.specs.Bytes.{archived_bytes_below}
use Rattle.wal_archive.proofs.archived_log_has_bytes.Goals as goal

pub returns : goal.returns
returns g c = λ size. archived_bytes_below (g.A.Archive.files c.args._archive.now) size (g.met.A.Archive.bytes c.args._archive.now)
