use Rattle.std.proofs.Common.{sym, refl, ◌∙◌}
use Rattle.table_schema.proofs.Steps.{too_many_tables, tables_counted, says_along, says_onward}
use Rattle.table_schema.proofs.description.description_in.Goals as goal

pub returns-then-not-is_table_count : goal.returns-then-not-is_table_count
returns-then-not-is_table_count c =
    too_many_tables _ c.in_ok-database.database c.as_slice-values.result.now (sym c.in_ok-database.ensures) (rw c.as_slice-values.ensures.value c.in-Some.ensures) (sym c.is_table_count.ensures ∙ c.if-not-is_table_count.true)

pub returns-in-Err : goal.returns-in-Err
returns-in-Err c =
    says_along c.in-Err.fault _ _
    (sym (tables_counted _ c.in_ok-database.database c.as_slice-values.result.now (sym c.in_ok-database.ensures) (rw c.as_slice-values.ensures.value c.in-Some.ensures) (sym c.is_table_count.ensures ∙ c.if-not-is_table_count.false)))
    (says_onward c.in-Err.fault _ _ c.in-Err.ensures)

pub returns-then-has_other : goal.returns-then-has_other
returns-then-has_other c =
    tables_counted _ c.in_ok-database.database c.as_slice-values.result.now (sym c.in_ok-database.ensures) (rw c.as_slice-values.ensures.value c.in-Some.ensures) (sym c.is_table_count.ensures ∙ c.if-not-is_table_count.false)
    ∙ rw (c.in-Ok.ensures, sym c.has_other.ensures ∙ c.if-has_other.true) refl

pub returns : goal.returns
returns c =
    tables_counted _ c.in_ok-database.database c.as_slice-values.result.now (sym c.in_ok-database.ensures) (rw c.as_slice-values.ensures.value c.in-Some.ensures) (sym c.is_table_count.ensures ∙ c.if-not-is_table_count.false)
    ∙ rw (c.in-Ok.ensures, sym c.has_other.ensures ∙ c.if-has_other.false) refl
