use Rattle.std.proofs.Common.{arith}
use Rattle.page_store.proofs.Blocks.{pushed_last}
use Rattle.page_store.proofs.table.Table.freshen.Goals as goal

pub returns-then-len-block-clause-ok : goal.returns-then-len-block-clause-ok
returns-then-len-block-clause-ok c = record {
  page = c.new.result;
  pages = pushed_last c.args.self.now.pages.items c.push.new.self.items c.args.block c.new.result (omega (arith, c.args.self.now.pages.ok.0, c.len.ensures, c.if-len-block.true)) c.in_ok-push.ensures.items;
  initial = record { page = c.new.ensures.page; items = c.new.ensures.items; lsn = c.new.ensures.lsn };
}
