-- The log of the reader, with its records in typed form, is the log that the files tell.
use Rattle.std.proofs.Common.{◌≡◌, ℕ, List, [], ◌∷◌, Result, Ok, Err, refl, sym, ap, ◌∙◌}
use Rattle.wal_record.specs.declared.types.PrevRule.{PrevRule}
use Rattle.wal_record.specs.declared.types.PrevRule.TheVariants.{Below, Is}
use Rattle.wal_reader.specs.declared.types.EndWhy.TheVariants.{Zero}
use Rattle.wal_reader.specs.declared.types.NoRecord.{NoRecord}
use Rattle.wal_reader.specs.declared.types.NoRecord.TheVariants.{End}
use Rattle.wal_reader.specs.Log as reader
use Rattle.wal_reader.specs.Step.{Entry, step}
use Rattle.wal_reader.specs.Told.{Told}
use Rattle.pg_types.specs.declared.names.Lsn.{Lsn}
use Rattle.typed_records.specs.declared.types.Rec.{Rec}
use Rattle.standby_core.specs.Standby.{described_in}
use Rattle.standby_model.specs.Archived.{told_by}
use Rattle.wal_bodies.specs.Ends.{end_of}
use Rattle.standby_model.specs.Log.{IsLog, Stands, Ended, link_after, next_of, record_at, typed_of, unless_refused}
use Rattle.run_model.specs.Origin.{origin}
use Rattle.worked_premise.specs.WorkedSchema.{tables}
use Rattle.worked_archive.specs.WorkedArchive.{AreTyped, IsWorkedArchive, entries, files, log}

-- each record in typed form has the place of its entry
abbrev AreThere : List Entry → List Rec → Type 0
AreThere [] [] = Unit {0}
AreThere [] (rec ∷ recs) = ⊥
AreThere (entry ∷ others) [] = ⊥
AreThere (entry ∷ others) (rec ∷ recs) =
    (rec.start ≡ record { 0 = entry.start }) × (rec.end.0 ≡ entry.end) × AreThere others recs

-- where the next record is looked for
record Meets (told : Told) (from : ℕ) (recs : List Rec) (at : ℕ) (prev : PrevRule) : Type 0 where
  stands : Stands told (described_in tables) from recs
  end : end_of from recs ≡ at
  link : link_after recs ≡ prev

moved :
    (told : Told) (from here : ℕ) (link : PrevRule) (recs : List Rec) (found : Result Entry NoRecord)
    → end_of from recs ≡ here → link_after recs ≡ link → step told here link ≡ found
    → next_of told (described_in tables) from recs ≡ typed_of (described_in tables) found
moved told from here link recs found e l is =
    ap (λ (at : ℕ). record_at told (described_in tables) at (link_after recs)) e
    ∙ ap (λ (p : PrevRule). record_at told (described_in tables) here p) l
    ∙ ap (typed_of (described_in tables)) is

meets :
    (told : Told) (from : ℕ) (others : List Entry) (recs : List Rec) (at : ℕ) (prev : PrevRule)
    → reader.Stands told from Below others at prev → AreTyped others recs → AreThere others recs
    → Meets told from recs at prev
meets told from [] [] at prev (a, p) typed there = record { stands = tt; end = sym a; link = sym p }
meets told from [] (rec ∷ recs) at prev s typed there = absurd typed
meets told from (entry ∷ others) [] at prev s typed there = absurd typed
meets told from (entry ∷ others) (rec ∷ recs) at prev (here, link, s, found, a, p) (form, typed) (start, end, there) =
    let older = meets told from others recs here link s typed there in
    record {
      stands = (
        moved told from here link recs (Ok entry) older.end older.link found ∙ ap unless_refused form,
        older.stands,
      );
      end = end ∙ sym a;
      link = ap (λ (l : Lsn). Is l) start ∙ sym p;
    }

are_there : AreThere entries log
are_there = (refl, refl, (refl, refl, (refl, refl, (refl, refl, (refl, refl, tt)))))

pub is_log : IsWorkedArchive → IsLog (told_by files) (described_in tables) origin.redo.0 log (Ended Zero)
is_log worked =
    let whole = worked.is_log in
    let met = meets (told_by files) 0x2000028 entries log 0x2000168 whole.prev whole.stands worked.are_typed are_there in
    record {
      stands = met.stands;
      stops = moved (told_by files) 0x2000028 0x2000168 whole.prev log (Err (End Zero)) met.end met.link whole.stops;
    }
