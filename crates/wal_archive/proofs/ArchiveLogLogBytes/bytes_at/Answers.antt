use Rattle.std.proofs.Common.{◌<◌, ◌%◌, ◌∙◌, arith}
use Rattle.std.proofs.Math.Nat.{mod-lt}
use Rattle.pg_types.specs.SegmentSizes.{size_positive}
use Rattle.wal_archive.proofs.Runs.{answer_bytes, answer_fits}
use Rattle.wal_archive.proofs.ArchiveLogLogBytes.bytes_at.Goals as goal

pub nonzero_rem-offset : goal.nonzero_rem-offset
nonzero_rem-offset g c = omega (arith, c.from-size.ensures, size_positive c.args.self.now.segsize c.args.self.now.allowed)

pub overflow_sub-size : goal.overflow_sub-size
overflow_sub-size g c =
    let positive : 0 < c.from-size.result = omega (arith, c.from-size.ensures, size_positive c.args.self.now.segsize c.args.self.now.allowed) in
    omega (arith, mod-lt c.args.at.0 positive)

pub nonzero_div-at : goal.nonzero_div-at
nonzero_div-at g c = omega (arith, c.from-size.ensures, size_positive c.args.self.now.segsize c.args.self.now.allowed)

pub returns-clause-bytes : goal.returns-clause-bytes
returns-clause-bytes g c =
    let name = c.as_str.ensures ∙ c.new-name.ensures in
    answer_bytes c.args.self.now.segsize c.args.at.0 c.min-room.result c.args.buf.now c.args.self.now.allowed c.if-at-ge-LIMIT.false (rw c.from-size.ensures at c.min-room.ensures) (g.A.Archive.files c.args.self.now.archive.now) c.unwrap_or.result c.fetch.new.buf c.in_ok-found.found c.fetch.auto.buf c.in_ok-found.ensures.fits c.unwrap_or.ensures (rw (name, c.from-size.ensures) at c.in_ok-found.ensures.told)

pub returns-clause-fits : goal.returns-clause-fits
returns-clause-fits g c = answer_fits c.args.self.now.segsize c.args.at.0 c.min-room.result c.args.buf.now c.args.self.now.allowed c.if-at-ge-LIMIT.false (rw c.from-size.ensures at c.min-room.ensures) c.in_ok-found.found c.unwrap_or.result c.in_ok-found.ensures.fits c.unwrap_or.ensures
