use Rattle.std.proofs.Common.{◌≡◌, ◌+◌, ◌∙◌, [], ap, sym, arith, drop, get_or, suc}
use Rattle.std.proofs.lemmas.List.{drop_all}
use Rattle.std.proofs.Math.Seq.{drop-cons}
use Rattle.pg_types.specs.declared.names.Xid.{Xid}
use Rattle.known_assigned.specs.Ids.{numbers}
use Rattle.transaction_model.specs.StandbyStates.{set_parents}
use Rattle.xact_redo.proofs.Assigned.{none_left, one_more}
use Rattle.xact_redo.proofs.records.set_parents.Goals as goal

pub loop-xid-preserved : goal.loop-xid-preserved
loop-xid-preserved c =
    let xids = c.args.xids.now in
    let top = c.args.top.0 in
    let i = c.loop-xid.xid-index in
    let none : Xid = record { 0 = 0 } in
    let next : i + 1 ≡ suc i = omega arith in
    let rest = numbers (drop (suc i) xids) in
    record {
      pairs =
          ap (λ n. set_parents top (numbers (drop n xids)) c.set_parent.new.subs.pairs) next
          ∙ ap (set_parents top rest) c.set_parent.ensures.pairs
          ∙ sym (one_more top (get_or xids i none).0 rest c.loop-xid.subs.pairs)
          ∙ sym (ap (λ l. set_parents top (numbers l) c.loop-xid.subs.pairs) (drop-cons xids i none c.loop-xid-test.true))
          ∙ c.loop-xid.invariant.pairs;
      room = omega (arith, c.set_parent.ensures.spare, c.loop-xid.invariant.room);
    }

pub returns : goal.returns
returns c =
    let xids = c.args.xids.now in
    let done : drop c.loop-xid.xid-index xids ≡ [] = drop_all c.loop-xid.xid-index xids (omega arith) in
    sym (none_left c.args.top.0 c.loop-xid.subs.pairs)
    ∙ sym (ap (λ l. set_parents c.args.top.0 (numbers l) c.loop-xid.subs.pairs) done)
    ∙ c.loop-xid.invariant.pairs
