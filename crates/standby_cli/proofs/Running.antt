-- What a scan and a session leave over a node whose life begins.
use Rattle.std.proofs.Common.{◌≡◌, ◌⊎◌, ℕ, lit<, inl, inr, List, [], Option, None, Some, IfSome, Ok, Err, refl, sym, subst, codes}
use Rattle.outside.specs.Sink.{AppendsNothing}
use Rattle.table_schema.specs.Description.{Description}
use Rattle.session_text.specs.Requests.{requests_read}
use Rattle.standby_core.specs.Standby.{Standby}
use Rattle.session_model.specs.Answers.{Talks}
use Rattle.session_model.specs.NodeSteps.{NodeStep, bare}
use Rattle.session_model.specs.Sessions.{IsFrontOfSession}
use Rattle.session_model.specs.Texts.{line}
use Rattle.standby_session.specs.declared.fault.SessionFault.{SessionFault}
use Rattle.standby_session.specs.declared.fault.SessionFault.TheVariants as fault
use Rattle.standby_session.specs.Held.{Leaves, LeavesTold}
use Rattle.standby_session.specs.Scanned.{ScanLeft, ScanLeftTold}
use Rattle.run_model.specs.Leaves.{AppendsUnless, IsAnswered, Outside, RejectionLeaves, ScanLeaves, SessionLeaves}
use Rattle.run_model.specs.Origin.{start}
use Rattle.run_model.specs.Starts.{Rejection}
use Rattle.standby_cli.specs.Endings.{EndsBy, status_of}
use Rattle.standby_cli.proofs.Appending.{line_after}
use Rattle.standby_cli.proofs.Beginning.{is_bare, keeps_nothing}
use Rattle.standby_cli.proofs.Ending.{no_fault, other_than, scan_done, scan_ended, session_done, session_ended}
use Rattle.standby_session.proofs.Appending.{nothing_appended, nothing_more}

-- no request is finished yet
none_finished : (byte : ℕ → Option ℕ) (tables : Description) (source : List ℕ) → IsFrontOfSession (NodeStep byte) (start tables) source []
unfolding Talks
none_finished byte tables source =
    record { now = start tables; finished = []; others = requests_read source; asks = refl; answers = []; talks = refl; says = refl }

-- a fault that may come before a run begins
abbrev pub IsEarly : SessionFault → Type 0
IsEarly fault.Archive = Unit {0}
IsEarly fault.Memory = Unit {0}
IsEarly fault.Sink = ⊥
IsEarly fault.Source = ⊥

no_sink : (why : SessionFault) → IsEarly why → why ≡ fault.Sink → ⊥
no_sink fault.Archive early e = cc
no_sink fault.Memory early e = cc
no_sink fault.Sink early e = early
no_sink fault.Source early e = early

no_source : (why : SessionFault) → IsEarly why → why ≡ fault.Source → ⊥
no_source fault.Archive early e = cc
no_source fault.Memory early e = cc
no_source fault.Sink early e = early
no_source fault.Source early e = early

module _ (tables : Description) (o : Outside) where
  abbrev LeavesSession : Option (ℕ → Option ℕ) → Option (List ℕ) → ℕ → Type 0
  LeavesSession bytes source status =
      IfSome bytes (λ byte. IfSome source (λ lines. SessionLeaves (NodeStep byte) (start tables) lines status o))

  abbrev LeavesScan : Option (ℕ → Option ℕ) → List ℕ → ℕ → Type 0
  LeavesScan bytes name status = IfSome bytes (λ byte. ScanLeaves (NodeStep byte) (start tables) name status o)

  session_at : (byte : ℕ → Option ℕ) (source : List ℕ) (status : ℕ) (why : SessionFault) (mid : Option (List ℕ)) (trouble : Type 0)
      → status ≡ status_of why → (trouble → o.trouble) → (why ≡ fault.Sink → o.sink_rose) → (why ≡ fault.Source → o.source_rose)
      → Leaves (NodeStep byte) (start tables) source o.before mid (Err why) → EndsBy why trouble mid o.now
      → SessionLeaves (NodeStep byte) (start tables) source status o
  session_at byte source status why mid trouble e worse sink rose held ends =
      subst (λ (n : ℕ). SessionLeaves (NodeStep byte) (start tables) source n o) (sym e)
      (session_ended (NodeStep byte) (start tables) o source mid trouble why worse sink rose held ends)

  held_early : (byte : ℕ → Option ℕ) (source : List ℕ) (why : SessionFault) → IsEarly why
      → Leaves (NodeStep byte) (start tables) source o.before o.before (Err why)
  held_early byte source fault.Archive early =
      record { text = []; is_front = none_finished byte tables source; writes = nothing_appended o.before }
  held_early byte source fault.Memory early =
      record { text = []; is_front = none_finished byte tables source; writes = nothing_appended o.before }
  held_early byte source fault.Sink early = absurd early
  held_early byte source fault.Source early = absurd early

  -- a fault came before the node was made
  pub session_early :
      (bytes : Option (ℕ → Option ℕ)) (source : Option (List ℕ)) (status : ℕ) (why : SessionFault) → IsEarly why
      → status ≡ status_of why → EndsBy why o.trouble o.before o.now → LeavesSession bytes source status
  session_early None source status why early e ends = tt
  session_early (Some byte) None status why early e ends = tt
  session_early (Some byte) (Some lines) status why early e ends =
      session_at byte lines status why o.before o.trouble e (λ t. t) (λ sink. absurd (no_sink why early sink))
      (λ source. absurd (no_source why early source)) (held_early byte lines why early) ends

  pub session_unbegun :
      (bytes : Option (ℕ → Option ℕ)) (source : Option (List ℕ)) (status : ℕ) → status ≡ 12
      → AppendsUnless o.trouble o.before o.now (line (codes "fault memory")) → LeavesSession bytes source status
  session_unbegun bytes source status e ends = session_early bytes source status fault.Memory tt e ends

  moved :
      (byte : ℕ → Option ℕ) (source : List ℕ) (node : Standby) (now : Option (List ℕ)) (why : SessionFault) → node ≡ start tables
      → Leaves (NodeStep byte) (bare node) source o.before now (Err why) → Leaves (NodeStep byte) (start tables) source o.before now (Err why)
  moved byte source node now why e held =
      subst (λ (n : Standby). Leaves (NodeStep byte) n source o.before now (Err why)) (is_bare tables node e) held

  pub session_held :
      (bytes : Option (ℕ → Option ℕ)) (source : Option (List ℕ)) (node : Standby) (status : ℕ) → node ≡ start tables
      → (status ≡ 0) ⊎ (status ≡ 5) → LeavesTold bytes source node o.before o.now (Ok status) → LeavesSession bytes source status
  session_held None source node status e is held = tt
  session_held (Some byte) None node status e is held = tt
  session_held (Some byte) (Some lines) node status e is held =
      session_done (NodeStep byte) (start tables) o lines status (answered status is)
      (subst (λ (n : Standby). Leaves (NodeStep byte) n lines o.before o.now (Ok status)) (is_bare tables node e)
      (held (keeps_nothing tables byte node e)))
    where
      answered : (status : ℕ) → (status ≡ 0) ⊎ (status ≡ 5) → IsAnswered status
      answered status (inl e) = inl e
      answered status (inr e) = inr (inr (inl e))

  pub session_cut :
      (bytes : Option (ℕ → Option ℕ)) (source : Option (List ℕ)) (node : Standby) (status : ℕ) (why : SessionFault)
      (mid : Option (List ℕ)) (trouble : Type 0) → node ≡ start tables → status ≡ status_of why → (trouble → o.trouble)
      → (why ≡ fault.Sink → o.sink_rose) → (why ≡ fault.Source → o.source_rose)
      → LeavesTold bytes source node o.before mid (Err why) → EndsBy why trouble mid o.now → LeavesSession bytes source status
  session_cut None source node status why mid trouble e s worse sink rose held ends = tt
  session_cut (Some byte) None node status why mid trouble e s worse sink rose held ends = tt
  session_cut (Some byte) (Some lines) node status why mid trouble e s worse sink rose held ends =
      session_at byte lines status why mid trouble s worse sink rose
      (moved byte lines node mid why e (held (keeps_nothing tables byte node e))) ends

  scan_at :
      (byte : ℕ → Option ℕ) (name : List ℕ) (status : ℕ) (why : SessionFault) (mid : Option (List ℕ)) (trouble : Type 0)
      → status ≡ status_of why → (trouble → o.trouble) → (why ≡ fault.Sink → o.sink_rose)
      → ScanLeft (NodeStep byte) (start tables) name o.before mid (Err why) → EndsBy why trouble mid o.now
      → ScanLeaves (NodeStep byte) (start tables) name status o
  scan_at byte name status why mid trouble e worse sink held ends =
      subst (λ (n : ℕ). ScanLeaves (NodeStep byte) (start tables) name n o) (sym e)
      (scan_ended (NodeStep byte) (start tables) o name mid trouble why worse sink held ends)

  left_early : (byte : ℕ → Option ℕ) (name : List ℕ) (why : SessionFault) → IsEarly why
      → ScanLeft (NodeStep byte) (start tables) name o.before o.before (Err why)
  left_early byte name fault.Archive early = nothing_appended o.before
  left_early byte name fault.Memory early = ([], inl refl, nothing_appended o.before)
  left_early byte name fault.Sink early = absurd early
  left_early byte name fault.Source early = absurd early

  pub scan_early :
      (bytes : Option (ℕ → Option ℕ)) (name : List ℕ) (status : ℕ) (why : SessionFault) → IsEarly why → status ≡ status_of why
      → EndsBy why o.trouble o.before o.now → LeavesScan bytes name status
  scan_early None name status why early e ends = tt
  scan_early (Some byte) name status why early e ends =
      scan_at byte name status why o.before o.trouble e (λ t. t) (λ sink. absurd (no_sink why early sink))
      (left_early byte name why early) ends

  pub scan_unbegun :
      (bytes : Option (ℕ → Option ℕ)) (name : List ℕ) (status : ℕ) → status ≡ 12
      → AppendsUnless o.trouble o.before o.now (line (codes "fault memory")) → LeavesScan bytes name status
  scan_unbegun bytes name status e ends = scan_early bytes name status fault.Memory tt e ends

  pub scan_given :
      (bytes : Option (ℕ → Option ℕ)) (name : List ℕ) (node : Standby) (status : ℕ) → node ≡ start tables
      → (status ≡ 0) ⊎ ((status ≡ 1) ⊎ (status ≡ 5)) → ScanLeftTold bytes name node o.before o.now (Ok status)
      → LeavesScan bytes name status
  scan_given None name node status e is held = tt
  scan_given (Some byte) name node status e is held =
      scan_done (NodeStep byte) (start tables) o name status (answered status is)
      (subst (λ (n : Standby). ScanLeft (NodeStep byte) n name o.before o.now (Ok status)) (is_bare tables node e)
      (held (keeps_nothing tables byte node e)))
    where
      answered : (status : ℕ) → (status ≡ 0) ⊎ ((status ≡ 1) ⊎ (status ≡ 5)) → IsAnswered status
      answered status (inl e) = inl e
      answered status (inr (inl e)) = inr (inl e)
      answered status (inr (inr e)) = inr (inr (inl e))

  pub scan_cut :
      (bytes : Option (ℕ → Option ℕ)) (name : List ℕ) (node : Standby) (status : ℕ) (why : SessionFault)
      (mid : Option (List ℕ)) (trouble : Type 0) → node ≡ start tables → status ≡ status_of why → (trouble → o.trouble)
      → (why ≡ fault.Sink → o.sink_rose) → ScanLeftTold bytes name node o.before mid (Err why)
      → EndsBy why trouble mid o.now → LeavesScan bytes name status
  scan_cut None name node status why mid trouble e s worse sink held ends = tt
  scan_cut (Some byte) name node status why mid trouble e s worse sink held ends =
      scan_at byte name status why mid trouble s worse sink
      (subst (λ (n : Standby). ScanLeft (NodeStep byte) n name o.before mid (Err why)) (is_bare tables node e)
      (held (keeps_nothing tables byte node e))) ends

-- memory ran out as a rejection was written
pub rejection_unwritten :
    (rejection : Rejection) (status : ℕ) (o : Outside) (mid : Option (List ℕ)) (trouble : Type 0) → status ≡ 12
    → (trouble → o.trouble) → AppendsNothing o.before mid → AppendsUnless trouble mid o.now (line (codes "fault memory"))
    → RejectionLeaves rejection status o
rejection_unwritten rejection status o mid trouble e worse none ends =
    subst (λ (n : ℕ). RejectionLeaves rejection n o) (sym e)
    (record {
      statuses = inr (inr (inr refl));
      done = λ is. absurd (no_fault 12 12 is (lit< tt) refl);
      archive = λ e. absurd (other_than 12 7 (lit< tt) e);
      memory = λ _. ([], refl, line_after trouble o.trouble o.before mid o.now [] (line (codes "fault memory")) worse (nothing_more o.before mid none) ends);
      sink = λ e. absurd (other_than 12 9 (lit< tt) e);
    })
