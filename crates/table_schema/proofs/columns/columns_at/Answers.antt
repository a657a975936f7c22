use Rattle.std.proofs.Common.{sym, ◌∙◌}
use Rattle.toml.specs.View.{table_view}
use Rattle.table_schema.proofs.Steps.{columns_counted, columns_miscounted}
use Rattle.table_schema.proofs.columns.columns_at.Goals as goal

pub returns-then-not-is_column_count : goal.returns-then-not-is_column_count
returns-then-not-is_column_count c =
    columns_miscounted c.args.table (table_view c.args.members.now) c.as_slice-values.result.now (rw c.as_slice-values.ensures.value c.in-Some.ensures)
    (sym c.is_column_count.ensures ∙ c.if-not-is_column_count.true)

pub returns : goal.returns
returns c =
    rw (columns_counted c.args.table (table_view c.args.members.now) c.as_slice-values.result.now (rw c.as_slice-values.ensures.value c.in-Some.ensures)
    (sym c.is_column_count.ensures ∙ c.if-not-is_column_count.false)) c.columns_of.ensures
