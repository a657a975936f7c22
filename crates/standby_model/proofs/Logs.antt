-- Two logs of one length that stand are one, and none that stands is longer than a whole one; and a log that stands rises.
use Rattle.std.proofs.Common.{◌≡◌, ℕ, ◌<◌, List, [], ◌∷◌, length, Result, Ok, Err, arith, refl, sym, ap, subst, inl, inr}
use Rattle.std.proofs.lemmas.Bool.{cases_order, cases_eq}
use Rattle.pg_types.specs.declared.names.Lsn.{Lsn}
use Rattle.wal_record.specs.declared.types.PrevRule.{PrevRule}
use Rattle.wal_reader.specs.declared.types.NoRecord.{NoRecord}
use Rattle.wal_reader.specs.Log.{StepsOn}
use Rattle.wal_reader.specs.Step.{Entry, step}
use Rattle.wal_reader.specs.Told.{Told}
use Rattle.typed_records.specs.declared.types.Rec.{Rec}
use Rattle.wal_record.specs.declared.types.RecordHead.{RecordHead}
use Rattle.wal_bodies.specs.Typed.{formed, read_as, typed}
use Rattle.wal_bodies.specs.Ends.{end_of}
use Rattle.standby_model.specs.Log.{Described, IsLog, Stands, Stop, link_after, next_of, record_at, typed_of, unless_refused}
use Rattle.standby_model.specs.Laws.{LogRises, OneLog}
use Rattle.wal_reader.proofs.OneResult.{not_both, one_err, one_ok}

module _ (told : Told) (described : Described) (from : ℕ) where
  next_moved : (log other : List Rec) (found : Result Rec Stop) → log ≡ other → next_of told described from other ≡ found → next_of told described from log ≡ found
  next_moved log other found e f = subst (λ (l : List Rec). next_of told described from l ≡ found) (sym e) f

  pub stands_once : (log other : List Rec) → length log ≡ length other → Stands told described from log
      → Stands told described from other → log ≡ other
  stands_once [] [] e p q = refl
  stands_once [] (y ∷ other) e p q = absurd (omega arith)
  stands_once (x ∷ log) [] e p q = absurd (omega arith)
  stands_once (x ∷ log) (y ∷ other) e (p, s) (q, t) =
      let rest = stands_once log other (omega arith) s t in
      let first = one_ok (next_of told described from log) x y p (next_moved log other (Ok y) rest q) in
      cc

  -- behind a shorter log that stands, a longer one goes on
  pub goes_on : (log other : List Rec) → length log < length other → Stands told described from log
      → Stands told described from other → (rec : Rec) × (next_of told described from log ≡ Ok rec)
  goes_on log [] less s t = absurd (omega arith)
  goes_on log (y ∷ other) less s (q, t) =
      elim (cases_eq (length log) (length other)) [
        | inl e ↦ (y, next_moved log other (Ok y) (stands_once log other e s t) q)
        | inr ne ↦ goes_on log other (omega arith) s t
      ]

  no_longer : (log other : List Rec) (stop : Stop) → length log < length other → IsLog told described from log stop
      → Stands told described from other → ⊥
  no_longer log other stop less is t =
      let (rec, goes) = goes_on log other less is.stands t in
      not_both (next_of told described from log) rec stop goes is.stops

pub one_log_holds : OneLog
one_log_holds told described from log other stop why a b =
    elim (cases_order (length log) (length other)) [
      | inl e ↦
          let same = stands_once told described from log other e a.stands b.stands in
          (same, one_err (next_of told described from log) stop why a.stops (next_moved told described from log other (Err why) same b.stops))
      | inr (inl less) ↦ absurd (no_longer told described from log other stop less a b.stands)
      | inr (inr more) ↦ absurd (no_longer told described from other log why more b a.stands)
    ]

-- a typed form ends where its record does
formed_end :
    (head : RecordHead) (start end : Lsn) (read : _) (rec : Rec)
    → unless_refused (formed head start end read) ≡ Ok rec → rec.end ≡ end
formed_end head start end (Ok x) rec e =
    let same : ◌≡◌ {A = Rec} (record { head = head; start = start; end = end; kind = x.0; blocks = x.1 }) rec = cc in
    ap (λ (r : Rec). r.end) (sym same)
formed_end head start end (Err refusal) rec e = cc

typed_end :
    (described : Described) (found : Result Entry NoRecord) (rec : Rec) → typed_of described found ≡ Ok rec
    → (entry : Entry) × (found ≡ Ok entry) × (rec.end.0 ≡ entry.end)
unfolding typed
typed_end described (Ok entry) rec e = (
  entry,
  refl,
  ap (λ (l : Lsn). l.0) (formed_end entry.record_.head (record { 0 = entry.start }) (record { 0 = entry.end })
      (read_as entry.record_ described.database described.files) rec e),
)
typed_end described (Err why) rec e = cc

record_rises :
    StepsOn → (told : Told) (described : Described) (at : ℕ) (prev : PrevRule) (rec : Rec) → 0 < told.segsize
    → record_at told described at prev ≡ Ok rec → at < rec.end.0
record_rises steps told described at prev rec some e =
    let (entry, stands, ends) = typed_end described (step told at prev) rec e in
    let on = steps told at prev entry some stands in
    omega (arith, ends)

pub log_rises_holds : StepsOn → LogRises
log_rises_holds steps told described from [] some stands = tt
log_rises_holds steps told described from (rec ∷ older) some (next, stands) = (
  record_rises steps told described (end_of from older) (link_after older) rec some next,
  log_rises_holds steps told described from older some stands,
)
