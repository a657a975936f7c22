-- The worked log's tuples are seen as worked by hand.
use Rattle.std.proofs.Common.{refl, arith}
use Rattle.std.proofs.lemmas.Bool.{false≢true}
use Rattle.pg_types.specs.Numbers.{number_at}
use Rattle.heap_tuple.specs.Tuple.{is_lock_only, max_of}
use Rattle.known_assigned.specs.Known.{after_end, after_observe, after_running, made_anew, past_oldest, unobserved}
use Rattle.standby_snapshot.specs.Snapshot.{in_progress, take_of}
use Rattle.tuple_visibility.specs.Visible.{deleter_of, inserter_counts, visible_of}
use Rattle.xact_redo.specs.State.{before_records, state_after}
use Rattle.row_model.specs.Shows.{Shows}
use Rattle.row_model.specs.WorkedRows.{IsWorkedRows, second_row, worked_log, worked_origin}
use Rattle.row_visibility.specs.Sees.{state_along}
use Rattle.row_visibility.specs.WorkedSight.{IsWorkedSight}

second_shown : Shows worked_origin worked_log second_row second_row.tuple
unfolding number_at max_of is_lock_only
second_shown =
    record {
      row = record { columns = refl; nulls = refl; bytes = refl };
      inserter = refl;
      frozen = refl;
      deleter = refl;
      marks =
          record {
            inserter_committed = λ x e h. absurd (omega arith);
            inserter_failed = λ x e h. absurd (omega arith);
            deleter_committed = λ x e h. absurd (cc);
            deleter_failed = λ x e h. absurd (cc);
          };
    }

pub worked_sight_is : IsWorkedRows → IsWorkedSight
unfolding state_along state_after before_records after_observe after_end after_running past_oldest made_anew unobserved take_of in_progress visible_of inserter_counts deleter_of max_of is_lock_only number_at
worked_sight_is rows =
    record {
      none = λ x. (refl, refl);
      legal = rows.legal.transactions;
      ready = refl;
      shows = second_shown;
      sound = record { made = tt; frozen = λ h. absurd (false≢true h) };
      first_before = refl;
      second_before = refl;
      first_after = refl;
      second_after = refl;
    }
