-- Each byte, place and two bits were computed.
use Rattle.std.proofs.Common.{arith}
use Rattle.commit_log.proofs.Packing.{read-written}
use Rattle.commit_log.proofs.page.with_bits.Goals as goal

pub returns : goal.returns
returns c = λ m h. read-written c.args.byte c.args.place c.args.bits m (omega arith) (omega arith) (omega arith) h
