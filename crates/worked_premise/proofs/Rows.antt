-- The rows of t at the end of the log: the one that was committed.
use Rattle.std.proofs.Common.{◌≡◌, ℕ, Bool, false, nat_lt, List, [], ◌∷◌, refl, sym, ap, subst, ◌∙◌}
use Rattle.std.proofs.lemmas.List.Sorted.{IsPermutation-refl}
use Rattle.std.specs.Prelude.{filter}
use Rattle.std.specs.List.Sorted.{IsPermutation}
use Rattle.pg_types.specs.Numbers.{number_at}
use Rattle.heap_tuple.specs.Tuple.{is_lock_only, max_of}
use Rattle.heap_tuple.specs.Values.{cell_of, cells_from, column_value, has_value, row_of, span_of, varlena_at}
use Rattle.heap_redo.specs.After.{tuple_of}
use Rattle.heap_redo.specs.TupleHeads.{head_bytes}
use Rattle.seq_scan.specs.BlockRows.{BlockRows}
use Rattle.transaction_model.specs.Transactions.{committed}
use Rattle.xact_redo.specs.TransactionsOf.{transaction_of}
use Rattle.row_model.specs.Versions.{Version, with_step, with_steps}
use Rattle.row_model.specs.Multixacts.{multixacts}
use Rattle.row_model.specs.Origins.{committed_in}
use Rattle.row_model.specs.Rows.{OneRows, is_row}
use Rattle.row_model.specs.RowSteps.{births, births_written, block_count, count_with, own_steps, steps_in, versions, whole_steps}
use Rattle.row_pages.specs.Pages.{is_in_block, rows_of_versions}
use Rattle.table_schema.specs.Tables.{columns_of, file_of}
use Rattle.legal_session.specs.AbstractStandby.{GivesRows, log_origin}
use Rattle.worked_archive.specs.WorkedArchive.{IsWorkedArchive, log}
use Rattle.worked_premise.specs.WorkedSchema.{tables}
use Rattle.worked_premise.specs.Premise.{AreRows, FilesTellRows, inserted, page, scan, world}
use Rattle.worked_premise.proofs.Least.{least}
use Rattle.worked_premise.proofs.Told.{is_log}

versions_are : versions (log_origin world) (file_of tables 0) log ≡ inserted ∷ []
unfolding versions block_count steps_in count_with own_steps births births_written whole_steps tuple_of head_bytes with_steps with_step max_of is_lock_only number_at
versions_are = refl

one_block : block_count (log_origin world) (file_of tables 0) log ≡ 1
unfolding block_count count_with
one_block = refl

kept : filter (is_row (multixacts log) (committed_in (log_origin world) log)) (inserted ∷ []) ≡ inserted ∷ []
unfolding committed transaction_of
kept = refl

are_rows : AreRows (inserted ∷ [])
are_rows =
    record {
      same =
          subst (λ (l : List Version). IsPermutation l (inserted ∷ []))
          (sym (ap (filter (is_row (multixacts log) (committed_in (log_origin world) log))) versions_are ∙ kept))
          (IsPermutation-refl (inserted ∷ []));
      in_order = (tt, tt);
    }

only_rows : OneRows → (rows : List Version) → AreRows rows → rows ≡ inserted ∷ []
only_rows one rows are =
    one (multixacts log) (committed_in (log_origin world) log) (versions (log_origin world) (file_of tables 0) log) rows (inserted ∷ []) are are_rows

-- what is given first of such rows
abbrev page_of : List Version → BlockRows
page_of rows = rows_of_versions (columns_of tables 0) (filter (is_in_block 0) rows)

page_is : page_of (inserted ∷ []) ≡ page
unfolding rows_of_versions row_of cells_from column_value has_value span_of varlena_at cell_of number_at
page_is = refl

no_more : nat_lt 1 (block_count (log_origin world) (file_of tables 0) log) ≡ false
no_more = ap (λ (count : ℕ). nat_lt 1 count) one_block

pub gives : GivesRows world scan page false
gives = record { rows = inserted ∷ []; are_rows = are_rows; gives = sym page_is; further = sym no_more }

only_gives : OneRows → (other : BlockRows) (more : Bool) → GivesRows world scan other more → (other ≡ page) × (more ≡ false)
only_gives one other more is =
    (is.gives ∙ ap page_of (only_rows one is.rows is.are_rows) ∙ page_is, is.further ∙ no_more)

pub files_tell_rows : IsWorkedArchive → OneRows → FilesTellRows
files_tell_rows worked one =
    record {
      is_log = is_log worked;
      are_rows = are_rows;
      only_rows = only_rows one;
      least = least;
      gives = gives;
      only_gives = only_gives one;
    }
