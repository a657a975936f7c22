use Rattle.std.proofs.Common.{sym, arith}
use Rattle.wal_record.proofs.Laid.{laid_out-none, laid_out-unfilled, laid_out-compressed}
use Rattle.wal_record.proofs.Shaping.{laid-there, payloads-behind}
use Rattle.wal_record.proofs.view.laid_out.Goals as goal
use Rattle.wal_record.proofs.view.laid_out.Goals.{then-payloads-seen-via-then-payloads-seen, then-payloads-seen-via-else-payloads-seen+then-payloads-seen-2}
use Rattle.pg_types.proofs.Bytes.{bytes-are}

pub returns-in_default : goal.returns-in_default
returns-in_default c = λ head. laid_out-none head c.args.text.now (sym (c.in_default.ensures {u = tt}))

pub returns-then-payloads-seen : goal.returns-then-payloads-seen
returns-then-payloads-seen c = λ head.
    elim c.then-payloads-seen.branch [
      | then-payloads-seen-via-then-payloads-seen w ↦ laid_out-unfilled head c.args.text.now c.in-Some.seen c.in-Some.payloads.now (sym c.in-Some.ensures) (λ e. omega arith)
      | then-payloads-seen-via-else-payloads-seen+then-payloads-seen-2 w ↦ laid_out-unfilled head c.args.text.now c.in-Some.seen c.in-Some.payloads.now (sym c.in-Some.ensures) (λ e. omega arith)
    ]

pub returns-then-seen : goal.returns-then-seen
returns-then-seen c = λ head. laid_out-compressed head c.args.text.now c.in-Some.seen c.in-Some.payloads.now (sym c.in-Some.ensures) (omega arith) c.if-seen.true

pub overflow_sub-result : goal.overflow_sub-result
overflow_sub-result c =
    let all = bytes-are c.args.text.now (λ k. (c.type_inv.text k).fits) in
    let there = payloads-behind c.args.text.now c.in-Some.seen c.in-Some.payloads.now all (sym c.in-Some.ensures) c.if-seen.false in
    there.0

pub returns : goal.returns
returns c = λ head.
    let all = bytes-are c.args.text.now (λ k. (c.type_inv.text k).fits) in
    laid-there head c.args.text.now c.in-Some.seen c.in-Some.payloads.now all c.requires (sym c.in-Some.ensures) (omega arith) c.if-seen.false
