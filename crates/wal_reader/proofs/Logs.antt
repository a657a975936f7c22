-- Two logs of one length that stand are one, and none that is longer than a whole log stands.
use Rattle.std.proofs.Common.{◌≡◌, ℕ, ◌<◌, List, [], ◌∷◌, length, Err, arith, refl, sym, ap, ◌∙◌, inl, inr}
use Rattle.std.proofs.lemmas.Bool.{cases_order, cases_eq}
use Rattle.pg_types.specs.declared.names.Lsn.{Lsn}
use Rattle.wal_record.specs.declared.types.PrevRule.{PrevRule}
use Rattle.wal_record.specs.declared.types.PrevRule.TheVariants.{Is}
use Rattle.wal_reader.specs.declared.types.NoRecord.{NoRecord}
use Rattle.wal_reader.specs.Told.{Told}
use Rattle.wal_reader.specs.Step.{Entry, step}
use Rattle.wal_reader.specs.Log.{Stands, OneLog}
use Rattle.wal_reader.proofs.OneResult.{not_both, one_err, one_ok}

module _ (told : Told) (from : ℕ) (before : PrevRule) where
  -- the step at one place is one
  step_once : (here there : ℕ) (prev link : PrevRule) → here ≡ there → prev ≡ link → step told here prev ≡ step told there link
  step_once here there prev link a b = rw (a, b) refl

  pub stands_once : (log other : List Entry) (at at' : ℕ) (prev link : PrevRule) → length log ≡ length other
      → Stands told from before log at prev → Stands told from before other at' link → (log ≡ other) × (at ≡ at') × (prev ≡ link)
  stands_once [] [] at at' prev link e (a, b) (c, d) = (refl, a ∙ sym c, b ∙ sym d)
  stands_once [] (y ∷ other) at at' prev link e s t = absurd (omega arith)
  stands_once (x ∷ log) [] at at' prev link e s t = absurd (omega arith)
  stands_once (x ∷ log) (y ∷ other) at at' prev link e (p, l, s, r, i, j) (q, m, t, u, v, w) =
      let h = stands_once log other p q l m (omega arith) s t in
      let again = step_once p q l m h.1 h.2 ∙ u in
      let same : x ≡ y = one_ok (step told p l) x y r again in
      let rests = h.0 in
      let place : at ≡ at' = i ∙ ap (λ (z : Entry). z.end) same ∙ sym v in
      let rule : prev ≡ link = j ∙ ap (λ (z : Entry). let n : Lsn = record { 0 = z.start } in Is n) same ∙ sym w in
      (ap (λ (z : Entry). z ∷ log) same ∙ ap (λ (zs : List Entry). y ∷ zs) rests, place, rule)

  -- no log that stands is longer than a whole one
  pub no_longer : (log other : List Entry) (at at' : ℕ) (prev link : PrevRule) (stop : NoRecord)
      → length log < length other → Stands told from before log at prev → step told at prev ≡ Err stop
      → Stands told from before other at' link → ⊥
  no_longer log [] at at' prev link stop less s w t = omega arith
  no_longer log (y ∷ other) at at' prev link stop less s w (q, m, t, u, v, j) =
      elim (cases_eq (length log) (length other)) [
        | inl e ↦
            let h = stands_once log other at q prev m e s t in
            not_both (step told q m) y stop u (sym (step_once at q prev m h.1 h.2) ∙ w)
        | inr ne ↦ no_longer log other at q prev m stop (omega arith) s w t
      ]

pub one_log_lem : OneLog
one_log_lem told from before log other end end' stop stop' a b =
    elim (cases_order (length log) (length other)) [
      | inl e ↦
          let h = stands_once told from before log other end end' a.prev b.prev e a.stands b.stands in
          (h.0, h.1, one_err (step told end a.prev) stop stop' a.stops (step_once told from before end end' a.prev b.prev h.1 h.2 ∙ b.stops))
      | inr (inl less) ↦ absurd (no_longer told from before log other end end' a.prev b.prev stop less a.stands a.stops b.stands)
      | inr (inr more) ↦ absurd (no_longer told from before other log end' end b.prev a.prev stop' more b.stands b.stops a.stands)
    ]
