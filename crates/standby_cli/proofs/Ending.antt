-- What a run leaves, by what ended it.
use Rattle.std.proofs.Common.{◌≡◌, ◌⊎◌, ℕ, ◌<◌, inl, inr, List, [], ◌++◌, Option, Result, Ok, Err, arith, lit<, refl, sym, subst, codes}
use Rattle.outside.specs.Sink.{AppendsPrefix}
use Rattle.session_model.specs.Answers.{Steps}
use Rattle.session_model.specs.Scans.{IsFrontOfScan, IsScan}
use Rattle.session_model.specs.Sessions.{IsFrontOfSession}
use Rattle.session_model.specs.Texts.{line}
use Rattle.standby_session.specs.declared.fault.SessionFault.{SessionFault}
use Rattle.standby_session.specs.declared.fault.SessionFault.TheVariants as fault
use Rattle.standby_session.specs.Held.{Leaves}
use Rattle.standby_session.specs.Scanned.{ScanLeft}
use Rattle.run_model.specs.Leaves.{AppendsUnless, IsAnswered, Outside, ScanLeaves, SessionLeaves, WroteFault}
use Rattle.standby_cli.specs.Endings.{EndsBy, status_of}
use Rattle.standby_cli.proofs.Appending.{line_after}

-- the status of an answer is 5 at most
answer_is : (status : ℕ) → IsAnswered status → status < 6
answer_is status (inl e) = omega (arith, e)
answer_is status (inr (inl e)) = omega (arith, e)
answer_is status (inr (inr (inl e))) = omega (arith, e)
answer_is status (inr (inr (inr (inl e)))) = omega (arith, e)
answer_is status (inr (inr (inr (inr (inl e))))) = omega (arith, e)
answer_is status (inr (inr (inr (inr (inr e))))) = omega (arith, e)

-- so it is not that of a fault
pub no_fault : (status fault : ℕ) → IsAnswered status → 5 < fault → status ≡ fault → ⊥
no_fault status fault is less e = let small = answer_is status is in omega (arith, small, less, e)

pub other : (a b : ℕ) → a < b → a ≡ b → ⊥
other a b less e = omega (arith, less, e)

pub other_than : (a b : ℕ) → b < a → a ≡ b → ⊥
other_than a b less e = omega (arith, less, e)

module _ {S : Type 0} (step : Steps S) (s : S) (o : Outside) where
  pub session_done :
      (source : List ℕ) (status : ℕ) → IsAnswered status → Leaves step s source o.before o.now (Ok status)
      → SessionLeaves step s source status o
  session_done source status is held = record {
    done = λ _. (held.text, held.is_session, held.writes);
    archive = λ e. absurd (no_fault status 7 is (lit< tt) e);
    memory = λ e. absurd (no_fault status 12 is (lit< tt) e);
    stream = λ e. absurd (no_fault status 9 is (lit< tt) e);
  }

  pub session_ended :
      (source : List ℕ) (mid : Option (List ℕ)) (trouble : Type 0) (why : SessionFault) → (trouble → o.trouble)
      → (why ≡ fault.Sink → o.sink_rose) → (why ≡ fault.Source → o.source_rose)
      → Leaves step s source o.before mid (Err why) → EndsBy why trouble mid o.now → SessionLeaves step s source (status_of why) o
  session_ended source mid trouble fault.Archive worse sink rose held ends = record {
    done = λ is. absurd (no_fault 7 7 is (lit< tt) refl);
    archive = λ _. (held.text, held.is_front, line_after trouble o.trouble o.before mid o.now held.text (line (codes "fault archive")) worse held.writes ends);
    memory = λ e. absurd (other 7 12 (lit< tt) e);
    stream = λ e. absurd (other 7 9 (lit< tt) e);
  }
  session_ended source mid trouble fault.Memory worse sink rose held ends = record {
    done = λ is. absurd (no_fault 12 12 is (lit< tt) refl);
    archive = λ e. absurd (other_than 12 7 (lit< tt) e);
    memory = λ _. (held.text, held.is_front, line_after trouble o.trouble o.before mid o.now held.text (line (codes "fault memory")) worse held.writes ends);
    stream = λ e. absurd (other_than 12 9 (lit< tt) e);
  }
  session_ended source mid trouble fault.Sink worse sink rose held ends = record {
    done = λ is. absurd (no_fault 9 9 is (lit< tt) refl);
    archive = λ e. absurd (other_than 9 7 (lit< tt) e);
    memory = λ e. absurd (other 9 12 (lit< tt) e);
    stream = λ _. inl (sink refl, (held.text, held.is_front, subst (λ (n : Option (List ℕ)). AppendsPrefix o.before n held.text) (sym ends) held.writes));
  }
  session_ended source mid trouble fault.Source worse sink rose held ends = record {
    done = λ is. absurd (no_fault 9 9 is (lit< tt) refl);
    archive = λ e. absurd (other_than 9 7 (lit< tt) e);
    memory = λ e. absurd (other 9 12 (lit< tt) e);
    stream = λ _. inr (
      rose refl,
      (held.text, (held.taken, held.rest, held.parts, held.is_taken), line_after trouble o.trouble o.before mid o.now held.text (line (codes "fault source")) worse held.writes ends),
    );
  }

  pub scan_done :
      (name : List ℕ) (status : ℕ) → IsAnswered status → ScanLeft step s name o.before o.now (Ok status) → ScanLeaves step s name status o
  scan_done name status is (text, scan, writes) = record {
    done = λ _. (text, scan, writes);
    archive = λ e. absurd (no_fault status 7 is (lit< tt) e);
    memory = λ e. absurd (no_fault status 12 is (lit< tt) e);
    sink = λ e. absurd (no_fault status 9 is (lit< tt) e);
  }

  pub scan_ended :
      (name : List ℕ) (mid : Option (List ℕ)) (trouble : Type 0) (why : SessionFault) → (trouble → o.trouble)
      → (why ≡ fault.Sink → o.sink_rose) → ScanLeft step s name o.before mid (Err why) → EndsBy why trouble mid o.now
      → ScanLeaves step s name (status_of why) o
  scan_ended name mid trouble fault.Archive worse sink held ends = record {
    done = λ is. absurd (no_fault 7 7 is (lit< tt) refl);
    archive = λ _. ([], refl, line_after trouble o.trouble o.before mid o.now [] (line (codes "fault archive")) worse held ends);
    memory = λ e. absurd (other 7 12 (lit< tt) e);
    sink = λ e. absurd (other 7 9 (lit< tt) e);
  }
  scan_ended name mid trouble fault.Memory worse sink (text, front, writes) ends = record {
    done = λ is. absurd (no_fault 12 12 is (lit< tt) refl);
    archive = λ e. absurd (other_than 12 7 (lit< tt) e);
    memory = λ _. (text, front, line_after trouble o.trouble o.before mid o.now text (line (codes "fault memory")) worse writes ends);
    sink = λ e. absurd (other_than 12 9 (lit< tt) e);
  }
  scan_ended name mid trouble fault.Sink worse sink (text, front, writes) ends = record {
    done = λ is. absurd (no_fault 9 9 is (lit< tt) refl);
    archive = λ e. absurd (other_than 9 7 (lit< tt) e);
    memory = λ e. absurd (other 9 12 (lit< tt) e);
    sink = λ _. (sink refl, (text, front, subst (λ (n : Option (List ℕ)). AppendsPrefix o.before n text) (sym ends) writes));
  }
  scan_ended name mid trouble fault.Source worse sink held ends = absurd held
