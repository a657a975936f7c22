use Rattle.std.proofs.Common.{◌≡◌, ◌-◌, ◌+◌, ◌∙◌, ℕ, suc, length, sym, ap, Some, arith}
use Rattle.wal_record.specs.Record.{block_by_id, Block}
use Rattle.wal_record.specs.Decoded.{blocks_in}
use Rattle.wal_record.specs.Views.{block_of_view}
use Rattle.wal_record.proofs.Walking.{done-closed, done-full, done-false}
use Rattle.wal_record.proofs.Finding.{Here, begins, never-none, ends-done, ends-zero, leads-next, leads-on, is-here}
use Rattle.wal_record.proofs.view.find.Goals as goal
use Rattle.wal_record.proofs.view.find.Goals.{else-loop-test, then-loop-test+then-seen, then-seen-via-then-seen, then-seen-via-else-seen+then-rest-seen}

pub loop-init : goal.loop-init
loop-init c =
    let all : length c.args.text.now - 0 ≡ length c.args.text.now = omega arith in
    record { bounded = omega arith; leads = rw all (begins c.args.text.now c.args.payloads.now c.args.id c.requires) }

pub returns-in_err-next : goal.returns-in_err-next
returns-in_err-next c =
    let k : length c.args.text.now - c.loop.counter ≡ suc (length c.args.text.now - (c.loop.counter + 1)) = omega arith in
    absurd (never-none (length c.args.text.now - (c.loop.counter + 1)) c.loop.invariant.leads k (done-false c.loop.seen c.loop.rest.now c.if-seen.false c.if-rest-seen.false) (sym c.in_err-next.ensures))

pub split_at-requires : goal.split_at-requires
split_at-requires c =
    let k : length c.args.text.now - c.loop.counter ≡ suc (length c.args.text.now - (c.loop.counter + 1)) = omega arith in
    (is-here c.in-Some.header (leads-next (length c.args.text.now - (c.loop.counter + 1)) c.in_ok-next.next c.in_ok-next.behind.now c.loop.invariant.leads k (done-false c.loop.seen c.loop.rest.now c.if-seen.false c.if-rest-seen.false) (sym c.in_ok-next.ensures)) (sym c.in-Some.ensures)).begins

pub block_view-requires : goal.block_view-requires
block_view-requires c =
    let k : length c.args.text.now - c.loop.counter ≡ suc (length c.args.text.now - (c.loop.counter + 1)) = omega arith in
    rw c.split_at.ensures.back (is-here c.in-Some.header (leads-next (length c.args.text.now - (c.loop.counter + 1)) c.in_ok-next.next c.in_ok-next.behind.now c.loop.invariant.leads k (done-false c.loop.seen c.loop.rest.now c.if-seen.false c.if-rest-seen.false) (sym c.in_ok-next.ensures)) (sym c.in-Some.ensures)).fits

pub returns-in-Some : goal.returns-in-Some
returns-in-Some c =
    let k : length c.args.text.now - c.loop.counter ≡ suc (length c.args.text.now - (c.loop.counter + 1)) = omega arith in
    let here : Here c.loop.seen c.in-Some.header c.args.payloads.now c.args.id (block_by_id c.args.id (blocks_in c.args.text.now c.args.payloads.now)) =
    is-here c.in-Some.header (leads-next (length c.args.text.now - (c.loop.counter + 1)) c.in_ok-next.next c.in_ok-next.behind.now c.loop.invariant.leads k (done-false c.loop.seen c.loop.rest.now c.if-seen.false c.if-rest-seen.false) (sym c.in_ok-next.ensures)) (sym c.in-Some.ensures) in
    ap (λ (id : ℕ). Some (block_of_view id c.block_view.result)) (sym here.same_id) ∙ ap (λ (b : Block). Some b) (rw c.split_at.ensures.back at c.block_view.ensures) ∙ sym here.same

pub loop-preserved : goal.loop-preserved
loop-preserved c =
    let k : length c.args.text.now - c.loop.counter ≡ suc (length c.args.text.now - (c.loop.counter + 1)) = omega arith in
    record {
      bounded = omega arith;
      leads = rw c.after-seen.ensures.exact
          (leads-on (leads-next (length c.args.text.now - (c.loop.counter + 1)) c.in_ok-next.next c.in_ok-next.behind.now c.loop.invariant.leads k (done-false c.loop.seen c.loop.rest.now c.if-seen.false c.if-rest-seen.false) (sym c.in_ok-next.ensures)) (sym (c.in_default.ensures {u = tt})));
    }

pub returns : goal.returns
returns c =
    elim c.loop-test.branch [
      | else-loop-test w ↦ sym (ends-zero c.loop.invariant.leads (omega arith))
      | then-loop-test+then-seen w ↦
          elim w.then-seen.branch [
            | then-seen-via-then-seen w' ↦ sym (ends-done c.loop.invariant.leads (done-closed c.loop.seen c.loop.rest.now w'.if-seen.true))
            | then-seen-via-else-seen+then-rest-seen w' ↦ sym (ends-done c.loop.invariant.leads (done-full c.loop.seen c.loop.rest.now w'.if-rest-seen.true))
          ]
    ]
