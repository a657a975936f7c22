use Rattle.std.proofs.Common.{arith, ◌+◌, length, Ok, ap}
use Rattle.wal_reader.specs.Kept.{AreTold}
use Rattle.wal_reader.proofs.WindowSteps.{none_at_limit, none_behind, covered_told}
use Rattle.wal_reader.proofs.window.Window.cover.Goals as goal

pub returns-then-at-ge-LIMIT-clause-answer : goal.returns-then-at-ge-LIMIT-clause-answer
returns-then-at-ge-LIMIT-clause-answer g c =
    none_at_limit (g.L.LogBytes.told c.args.log.now) (λ byte. AreTold byte c.args.self.now) c.args.n c.args.at
    (g.met.L.LogBytes.ends c.args.log.now) c.if-at-ge-LIMIT.true c.requires.some

pub returns-then-branch-eq0-clause-answer : goal.returns-then-branch-eq0-clause-answer
returns-then-branch-eq0-clause-answer g c =
    let inv = c.loop-self.invariant in
    let test = c.loop-self-test.true in
    let end = c.end.ensures in
    none_behind (g.L.LogBytes.told c.args.log.now) (g.L.LogBytes.told c.loop-self.log) (λ byte. AreTold byte c.args.self.now) c.args.n c.args.at
    (c.loop-self.self.from + length c.loop-self.self.bytes) _
    inv.4.told_stays (omega arith) (omega arith) (ap Ok c.if-branch-eq0.true) c.in_ok-more.ensures.none

pub returns-clause-answer : goal.returns-clause-answer
returns-clause-answer g c =
    let inv = c.loop-self.invariant in
    let test = c.loop-self-test.false in
    let end = c.end.ensures in
    covered_told (g.L.LogBytes.told c.args.log.now) c.args.self.now c.loop-self.self c.args.at c.args.n
    (inv.1, omega arith) inv.5
