use Rattle.std.proofs.Common.{arith, refl}
use Rattle.std.specs.Vec.{with_item}
use Rattle.page_store.specs.declared.pool.Pool.{Pool}
use Rattle.page_store.specs.Lending.{Holds}
use Rattle.page_store.specs.Content.{table_count, content}
use Rattle.page_store.proofs.Blocks.{table-found, content-same, content-freshens, fresh-found, fresh-long, found-within, on_err, Freshens}
use Rattle.page_store.proofs.pool.Pool.freshen.Goals as goal

pub returns-in_err-freshen-clause-err : goal.returns-in_err-freshen-clause-err
unfolding table_count
returns-in_err-freshen-clause-err c =
    let pool = c.args.self.now in
    let table = c.index_mut.result.now in
    let here = table-found pool c.args.tag.table table c.requires.table c.index_mut.ensures.value in
    let new : Pool = record { tables = with_item pool.tables c.args.tag.table c.freshen.new.self } in
    on_err {P = Holds pool new (content pool)} c.from_residual.result (record {
      blocks = content-same pool new c.args.tag.table table c.freshen.new.self refl here c.in_err-freshen.ensures.err (omega (arith, pool.tables.ok.0));
      tables = refl;
    })

pub returns-clause-ok : goal.returns-clause-ok
unfolding table_count
returns-clause-ok c =
    let pool = c.args.self.now in
    let tag = c.args.tag in
    let table = c.index_mut.result.now in
    let here = table-found pool tag.table table c.requires.table c.index_mut.ensures.value in
    let done = c.in_ok-freshen.ensures.ok in
    let new : Pool = record { tables = with_item pool.tables tag.table c.freshen.new.self } in
    let fresh : Freshens pool new tag table c.freshen.new.self done.page = record {
      tables = refl;
      here = here;
      pages = done.pages;
      in_tables = omega (arith, pool.tables.ok.0);
      below = c.requires.block;
    } in
    record {
      page = done.page;
      has = record {
        in_tables = c.requires.table;
        in_table = found-within new tag c.freshen.new.self (fresh-found pool new tag table c.freshen.new.self done.page fresh) (fresh-long pool new tag table c.freshen.new.self done.page fresh);
        below = c.requires.block;
      };
      blocks = content-freshens pool new tag table c.freshen.new.self done.page fresh;
      tables = refl;
      initial = done.initial;
    }
