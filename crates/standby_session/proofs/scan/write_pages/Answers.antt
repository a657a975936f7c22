use Rattle.std.proofs.Common.{refl, ◌∙◌, arith}
use Rattle.standby_core.specs.View.{standby}
use Rattle.standby_session.proofs.Paging.{pages_cut, pages_end, pages_more, pages_none}
use Rattle.standby_session.proofs.scan.write_pages.Goals as goal

pub pages-init : goal.pages-init
pages-init g c = record {
  wrote = λ byte. pages_none byte c.args.id (standby c.args.node.now) (g.O.Sink.written c.args.out.now);
  sink_faults = refl;
  shortages = omega arith;
}

pub pages-preserved : goal.pages-preserved
pages-preserved g c =
    let inv = c.pages.invariant in
    let is = c.in-Ok-None.ensures in
    let told = rw c.in-Ok-None.field-0-is at is.told in
    record {
      wrote = λ byte. pages_more byte c.args.id (standby c.args.node.now) (standby c.pages.node) (standby c.write_page.new.node) _ _ _ (inv.wrote byte) told;
      sink_faults = is.sink_uncounted (λ e. cc) ∙ inv.sink_faults;
      shortages = omega (arith, inv.shortages, is.shortages);
    }

pub returns-in-Err-clause-told : goal.returns-in-Err-clause-told
returns-in-Err-clause-told g c = λ byte.
    pages_cut byte c.args.id (standby c.args.node.now) (standby c.pages.node) (standby c.write_page.new.node) _ _ _ c.in-Err.fault
    (c.pages.invariant.wrote byte) c.in-Err.ensures.told

pub returns-in-Ok-Some-clause-told : goal.returns-in-Ok-Some-clause-told
returns-in-Ok-Some-clause-told g c = λ byte.
    pages_end byte c.args.id (standby c.args.node.now) (standby c.pages.node) (standby c.write_page.new.node) _ _ _ c.in-Ok-Some.status
    (c.pages.invariant.wrote byte) (rw c.in-Ok-Some.field-0-is at c.in-Ok-Some.ensures.told)
