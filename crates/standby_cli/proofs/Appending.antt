-- A line behind a text that was written, and counts of faults that rose.
use Rattle.std.proofs.Common.{◌≡◌, ℕ, ◌+◌, ◌≤◌, ◌⊎◌, inl, inr, List, ◌++◌, Option, Result, Err, refl, arith}
use Rattle.outside.specs.Faults.{Rose}
use Rattle.outside.specs.Sink.{Appends}
use Rattle.run_model.specs.Leaves.{AppendsUnless}
use Rattle.standby_session.specs.declared.fault.SessionFault.{SessionFault}
use Rattle.standby_session.specs.declared.fault.SessionFault.TheVariants.{Archive, Source, Sink, Memory}
use Rattle.standby_session.proofs.Appending.{appends_both, appends_prefix}

-- a text that was written, and then a line, or a prefix of it
pub line_after :
    (trouble worse : Type 0) (before between now : Option (List ℕ)) (x fault_line : List ℕ) → (trouble → worse)
    → Appends before between x → AppendsUnless trouble between now fault_line → AppendsUnless worse before now (x ++ fault_line)
line_after trouble worse before between now x fault_line f p (inl q) = inl (appends_both before between now x fault_line p q)
line_after trouble worse before between now x fault_line f p (inr (t, q)) =
    inr (f t, appends_prefix before between now x fault_line p q)

-- a count that rose over a part of a run rose over the run
pub rose_over : (before between now : ℕ) → before ≤ between → Rose between now → Rose before now
rose_over before between now le (inl lt) = inl (omega arith)
rose_over before between now le (inr last) = inr last

-- so it is with either of two counts
pub either_rose :
    (f g h s t u : ℕ) → f ≤ g → s ≤ t → (Rose g h) ⊎ (Rose t u) → (Rose f h) ⊎ (Rose s u)
either_rose f g h s t u le less (inl r) = inl (rose_over f g h le r)
either_rose f g h s t u le less (inr r) = inr (rose_over s t u less r)

-- where a fault of the sink alone changes its count of faults before the run's end, trouble at the end is trouble of the run
pub worse_by :
    (why : SessionFault) (f g h s t u : ℕ) → ((why ≡ Sink → ⊥) → g ≡ f) → (why ≡ Sink → Rose f h) → s ≤ t
    → (Rose g h) ⊎ (Rose t u) → (Rose f h) ⊎ (Rose s u)
worse_by Sink f g h s t u same rose less either = inl (rose refl)
worse_by Archive f g h s t u same rose less either = let e = same (λ e. cc) in either_rose f g h s t u (omega (arith, e)) less either
worse_by Source f g h s t u same rose less either = let e = same (λ e. cc) in either_rose f g h s t u (omega (arith, e)) less either
worse_by Memory f g h s t u same rose less either = let e = same (λ e. cc) in either_rose f g h s t u (omega (arith, e)) less either

pub one_err : {T : Type 0} (a b : SessionFault) → ◌≡◌ {A = Result T SessionFault} (Err a) (Err b) → a ≡ b
one_err a b e = cc
