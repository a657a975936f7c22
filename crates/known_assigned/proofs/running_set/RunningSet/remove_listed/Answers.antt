use Rattle.std.proofs.Common.{◌≡◌, ◌+◌, ◌∙◌, [], ap, sym, arith, drop, get_or, suc}
use Rattle.std.proofs.lemmas.List.{drop_all}
use Rattle.std.proofs.Math.Seq.{drop-cons}
use Rattle.pg_types.specs.declared.names.Xid.{Xid}
use Rattle.known_assigned.specs.Ids.{numbers, without}
use Rattle.known_assigned.proofs.Ordered.{without-cons, without-none}
use Rattle.known_assigned.proofs.running_set.RunningSet.remove_listed.Goals as goal

pub loop-xid-preserved : goal.loop-xid-preserved
loop-xid-preserved c =
    let xids = c.args.xids.now in
    let i = c.loop-xid.xid-index in
    let none : Xid = record { 0 = 0 } in
    let next : i + 1 ≡ suc i = omega arith in
    let rest = numbers (drop (suc i) xids) in
    record {
      xids =
          ap (λ n. without (numbers (drop n xids)) c.remove.new.self.xids) next
          ∙ ap (without rest) c.remove.ensures.xids
          ∙ sym (without-cons (get_or xids i none).0 rest c.loop-xid.self.xids)
          ∙ sym (ap (λ l. without (numbers l) c.loop-xid.self.xids) (drop-cons xids i none c.loop-xid-test.true))
          ∙ c.loop-xid.invariant.xids;
      spare = c.remove.ensures.spare ∙ c.loop-xid.invariant.spare;
    }

pub returns-clause-xids : goal.returns-clause-xids
returns-clause-xids c =
    let xids = c.args.xids.now in
    let done : drop c.loop-xid.xid-index xids ≡ [] = drop_all c.loop-xid.xid-index xids (omega arith) in
    sym (without-none c.loop-xid.self.xids)
    ∙ sym (ap (λ l. without (numbers l) c.loop-xid.self.xids) done)
    ∙ c.loop-xid.invariant.xids
