use Rattle.wal_record.proofs.Written.{each-new}
use Rattle.wal_record.proofs.encoding.behind.Goals as goal

pub put_headers-requires : goal.put_headers-requires
put_headers-requires c = rw c.as_slice.ensures (each-new 0 c.args.rec.now.blocks c.requires.blocks)
