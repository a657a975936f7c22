use Rattle.std.proofs.Common.{ℕ, ◌+◌, ◌<◌, ◌∙◌, drop, filter, length, set, sym, subst, ap, arith}
use Rattle.std.proofs.lemmas.List.Elements.{All-get_or, All-set}
use Rattle.std.proofs.lemmas.List.{length-set}
use Rattle.standby_core.specs.declared.scans.NodeScan.{NodeScan}
use Rattle.standby_core.specs.Conflicts.{cancelled_one, is_newly_cancelled}
use Rattle.standby_core.proofs.Cancelled.{all_changed, all_counted, at_most_one, cancelled_below, changed_by, counted_by}
use Rattle.standby_core.proofs.Paged.{IsBelow}
use Rattle.standby_core.proofs.scans.Scans.cancel.Goals as goal

pub loop-place-preserved : goal.loop-place-preserved
loop-place-preserved c =
    let rec = c.args.rec.now in
    let tables = c.args.tables.now in
    let items = c.loop-place.self.open.items in
    let place = c.loop-place.place in
    let one = c.index_mut.result.now in
    let new = c.cancel.new.one in
    let count = length tables.tables in
    let below : place < length items = omega arith in
    let was = All-get_or (IsBelow count) items place one below c.loop-place.invariant.described in
    let P : NodeScan → Type 0 = IsBelow count in
    let has = cancelled_below rec tables count one new c.cancel.ensures.scan (subst P (sym c.index_mut.ensures.value) was) in
    record {
      changed =
          changed_by (cancelled_one rec tables) items place one new _ below c.index_mut.ensures.value c.cancel.ensures.scan c.loop-place.invariant.changed;
      counted =
          ap (λ (n : ℕ). c.loop-place.count + n + length (filter (is_newly_cancelled rec tables) (drop (place + 1) (set items place new)))) c.from-count.ensures
          ∙ counted_by (is_newly_cancelled rec tables) items place one new c.loop-place.count _ c.cancel.result below c.index_mut.ensures.value c.cancel.ensures.answer
          c.loop-place.invariant.counted;
      few = omega (arith, at_most_one c.cancel.result, c.from-count.ensures);
      len = length-set _ _ _ ∙ c.loop-place.invariant.len;
      next = c.loop-place.invariant.next;
      described = All-set (IsBelow count) items place new has c.loop-place.invariant.described;
    }

pub returns-clause-open : goal.returns-clause-open
returns-clause-open c =
    all_changed (cancelled_one c.args.rec.now c.args.tables.now) c.loop-place.self.open.items _ c.loop-place.place (omega arith) c.loop-place.invariant.changed

pub returns-clause-count : goal.returns-clause-count
returns-clause-count c =
    all_counted (is_newly_cancelled c.args.rec.now c.args.tables.now) c.loop-place.self.open.items c.loop-place.place c.loop-place.count _ (omega arith)
    c.loop-place.invariant.counted
