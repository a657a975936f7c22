use Rattle.std.proofs.Common.{arith, ap, sym, List, ℕ, Option, IfSome, subst}
use Rattle.heap_page.specs.Page.{IsPage}
use Rattle.page_store.specs.Content.{table_count, page_answer}
use Rattle.page_store.proofs.Blocks.{table-found, page-found, missing-last, missing-past, there, within-found}
use Rattle.page_store.proofs.pool.Pool.check_page.Goals as goal
use Rattle.page_store.proofs.pool.Pool.check_page.Goals.{then-tag-eq4294967295-via-then-tag-eq4294967295, then-tag-eq4294967295-via-else-tag-eq4294967295+then-len-block}

pub returns-then-tag-eq4294967295-clause-err : goal.returns-then-tag-eq4294967295-clause-err
unfolding table_count page_answer
returns-then-tag-eq4294967295-clause-err c =
    let pool = c.args.self.now in
    let tag = c.args.tag in
    elim c.then-tag-eq4294967295.branch [
      | then-tag-eq4294967295-via-then-tag-eq4294967295 w ↦ ap page_answer (missing-last pool tag.table tag.block (omega arith))
      | then-tag-eq4294967295-via-else-tag-eq4294967295+then-len-block w ↦ ap page_answer
          (missing-past pool tag.table tag.block c.index-table.result.now
          (table-found pool tag.table c.index-table.result.now c.requires c.index-table.ensures) (omega arith))
    ]

pub returns-clause-has : goal.returns-clause-has
unfolding table_count
returns-clause-has c =
    let pool = c.args.self.now in
    let here = table-found pool c.args.tag.table c.index-table.result.now c.requires c.index-table.ensures in
    record {
      in_tables = c.requires;
      in_table = λ other found. within-found pool c.args.tag c.index-table.result.now other here (omega arith) found;
      below = omega arith;
    }

pub returns-clause-page : goal.returns-clause-page
unfolding table_count
returns-clause-page c =
    let pool = c.args.self.now in
    let tag = c.args.tag in
    let table = c.index-table.result.now in
    let here = table-found pool tag.table table c.requires c.index-table.ensures in
    let bytes = c.index.result.now in
    let page = page-found table tag.block bytes (omega arith) c.index.ensures in
    let P : Option (List ℕ) → Type 0 = λ block. IfSome block IsPage in
    subst P (sym (there pool tag.table tag.block table bytes here (omega arith) page)) c.keeps_rule.ensures
