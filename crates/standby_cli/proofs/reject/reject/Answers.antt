use Rattle.std.proofs.Common.{◌⊎◌, subst, Err}
use Rattle.pg_types.specs.declared.fail.Fail.{Fail}
use Rattle.outside.specs.Faults.{Rose}
use Rattle.outside.specs.Sink.{Writes}
use Rattle.standby_cli.specs.Meaning.{rejection_meaning}
use Rattle.standby_cli.specs.Watched.{watched}
use Rattle.standby_cli.proofs.Appending.{either_rose}
use Rattle.standby_cli.proofs.Running.{rejection_unwritten}
use Rattle.standby_cli.proofs.reject.reject.Goals as goal

pub returns-in-Err-Memory-clause-leaves : goal.returns-in-Err-Memory-clause-leaves
returns-in-Err-Memory-clause-leaves g c =
    let faults = g.O.Sink.fault_count in
    let shorts = g.O.Sink.short_count in
    let before = g.O.Sink.written c.args.out.now in
    let mid = g.O.Sink.written c.write.new.self in
    let now = g.O.Sink.written c.write_fault-in-Err-Memory.new.out in
    let f = faults c.args.out.now in
    let m = faults c.write.new.self in
    let h = faults c.write_fault-in-Err-Memory.new.out in
    let s = shorts c.args.out.now in
    let t = shorts c.write.new.self in
    let u = shorts c.write_fault-in-Err-Memory.new.out in
    let trouble = Rose m h ⊎ Rose t u in
    rejection_unwritten (rejection_meaning c.args.rejection.now) c.write_fault-in-Err-Memory.result (watched f h s u ⊥ before now) mid trouble
    c.write_fault-in-Err-Memory.ensures.status
    (either_rose f m h s t u c.in-Err-Memory.ensures.cause.grows c.in-Err-Memory.ensures.shortage.grows)
    (subst (λ (w : Fail). Writes {T = Unit {0}} before mid c.as_slice.result.now (Err w)) c.in-Err-Memory.field-0-is c.in-Err-Memory.ensures.told)
    c.write_fault-in-Err-Memory.ensures.written
