-- A session that goes on, and how it ends.
use Rattle.std.proofs.Common.{◌≡◌, ℕ, ◌<◌, Bool, false, List, [], ◌++◌, Option, Some, None, IfSome, Result, Ok, Err, length, take, refl, ap, sym, ◌∙◌, subst, append_assoc, append-nil, if◌then◌else◌}
use Rattle.outside.specs.Source.{Gives}
use Rattle.session_text.specs.Laws.{AsksAllRead, AsksAllTaken}
use Rattle.session_text.specs.Requests.{Request, requests_of, requests_read, requests_taken}
use Rattle.session_text.specs.Taking.{Taking, Kept, line_at_end, lines_given, taken_behind}
use Rattle.standby_core.specs.Standby.{Standby}
use Rattle.session_model.specs.Answers.{Steps, Talks}
use Rattle.session_model.specs.NodeSteps.{NodeStep, bare}
use Rattle.session_model.specs.Sessions.{talk_text}
use Rattle.standby_session.specs.Answered.{Answered, AnsweredTold, AnswersAll, Broken, BrokenTold}
use Rattle.standby_session.specs.Held.{IsHeld, Leaves, LeavesTold}
use Rattle.standby_session.specs.declared.fault.SessionFault.{SessionFault}
use Rattle.standby_session.specs.declared.fault.SessionFault.TheVariants as fault
use Rattle.standby_session.proofs.Given.{asked_on, requests_on, taken_on}
use Rattle.standby_session.proofs.Talking.{told_none, told_on}

module _ {S : Type 0} (step : Steps S) where
  -- the first of a source's requests are answered
  pub broken_leaves :
      (s : S) (source : List ℕ) (requests more : List Request) (before now : Option (List ℕ)) (f : SessionFault)
      → requests_read source ≡ requests ++ more → Broken step s requests before now f → Leaves step s source before now (Err f)
  broken_leaves s source requests more before now fault.Archive e p = record {
    text = talk_text p.answers;
    is_front = record {
      now = p.node;
      finished = p.finished;
      others = p.others ++ more;
      asks = e ∙ ap (λ (rs : List Request). rs ++ more) p.asks ∙ append_assoc p.finished p.others more;
      answers = p.answers;
      talks = p.talks;
      says = refl;
    };
    writes = p.writes;
  }
  broken_leaves s source requests more before now fault.Memory e p = record {
    text = talk_text p.answers;
    is_front = record {
      now = p.node;
      finished = p.finished;
      others = p.others ++ more;
      asks = e ∙ ap (λ (rs : List Request). rs ++ more) p.asks ∙ append_assoc p.finished p.others more;
      answers = p.answers;
      talks = p.talks;
      says = refl;
    };
    writes = p.writes;
  }
  broken_leaves s source requests more before now fault.Sink e p = record {
    text = talk_text p.answers;
    is_front = record {
      now = p.node;
      finished = p.finished;
      others = p.others ++ more;
      asks = e ∙ ap (λ (rs : List Request). rs ++ more) p.asks ∙ append_assoc p.finished p.others more;
      answers = p.answers;
      talks = p.talks;
      says = refl;
    };
    writes = p.writes;
  }
  broken_leaves s source requests more before now fault.Source e p = absurd p

  -- all of them are
  pub answered_leaves :
      (s node : S) (source : List ℕ) (requests : List Request) (before now : Option (List ℕ)) (is : Bool) (status : ℕ)
      → requests ≡ requests_read source → status ≡ (if is then 5 else 0) → Answered step s requests before now false is node
      → Leaves step s source before now (Ok status)
  answered_leaves s node source requests before now is status e ends p = record {
    text = talk_text p.answers;
    is_session = record {
      now = node;
      answers = p.answers;
      talks = subst (λ (rs : List Request). Talks step rs s p.answers node) e p.talks;
      says = refl;
      ends = ends ∙ ap (λ (b : Bool). if b then 5 else 0) p.trouble;
    };
    writes = p.writes;
  }

  -- all of what was taken
  pub taken_leaves :
      (s node : S) (taken rest source : List ℕ) (requests : List Request) (before now : Option (List ℕ)) (was is : Bool)
      → requests ≡ requests_taken taken → source ≡ taken ++ rest → Answered step s requests before now was is node
      → Leaves step s source before now (Err fault.Source)
  taken_leaves s node taken rest source requests before now was is e parts p = record {
    taken = taken;
    rest = rest;
    parts = parts;
    text = talk_text p.answers;
    is_taken = record {
      now = node;
      answers = p.answers;
      talks = subst (λ (rs : List Request). Talks step rs s p.answers node) e p.talks;
      says = refl;
    };
    writes = p.writes;
  }

  pub front_leaves :
      (s node : S) (source : List ℕ) (requests more : List Request) (before now : Option (List ℕ)) (was is : Bool)
      → requests_read source ≡ requests ++ more → Answered step s requests before now was is node
      → Leaves step s source before now (Err fault.Memory)
  front_leaves s node source requests more before now was is e p = record {
    text = talk_text p.answers;
    is_front = record {
      now = node;
      finished = requests;
      others = more;
      asks = e;
      answers = p.answers;
      talks = p.talks;
      says = refl;
    };
    writes = p.writes;
  }

-- what is asked behind some bytes of a source
abbrev asked_behind : List ℕ → List ℕ → List Request
asked_behind taken later =
    requests_of (lines_given (taken_behind (Kept []) taken) later) ++ requests_of (line_at_end (taken_behind (Kept []) (taken ++ later)))

read_in_parts :
    AsksAllRead → (taken later : List ℕ)
    → requests_read (taken ++ later) ≡ requests_of (lines_given (Kept []) taken) ++ asked_behind taken later
read_in_parts law taken later =
    sym (law (taken ++ later))
    ∙ requests_on (lines_given (Kept []) (taken ++ later)) (line_at_end (taken_behind (Kept []) (taken ++ later)))
    ∙ ap (λ (rs : List Request). rs ++ requests_of (line_at_end (taken_behind (Kept []) (taken ++ later)))) (asked_on (Kept []) taken later)
    ∙ append_assoc (requests_of (lines_given (Kept []) taken)) (requests_of (lines_given (taken_behind (Kept []) taken) later))
    (requests_of (line_at_end (taken_behind (Kept []) (taken ++ later))))

source_in_parts :
    AsksAllRead → (source taken later : List ℕ) → source ≡ taken ++ later
    → requests_read source ≡ requests_of (lines_given (Kept []) taken) ++ asked_behind taken later
source_in_parts law source taken later e = ap requests_read e ∙ read_in_parts law taken later

-- before the first byte
pub held_first :
    (bytes : Option (ℕ → Option ℕ)) (node : Standby) (source before : Option (List ℕ)) (lines : Taking) (troubled : Bool)
    → lines ≡ Kept [] → troubled ≡ false → IsHeld bytes node node source source before before lines troubled
unfolding requests_of
held_first bytes node source before lines troubled e quiet = record {
  taken = [];
  is_taken = e;
  parts = by source;
  answered = subst (λ (b : Bool). AnsweredTold bytes [] node node before before false b) (sym quiet) (told_none bytes node before false);
}
  where
    by : (o : Option (List ℕ)) → IfSome o (λ all. (later : List ℕ) × (o ≡ Some later) × (all ≡ [] ++ later))
    by None = tt
    by (Some all) = (all, refl, refl)

-- the parts of a source once more of it was taken
parts_on :
    (source rest further : Option (List ℕ)) (taken buffer : List ℕ) (count : ℕ)
    → IfSome source (λ all. (later : List ℕ) × (rest ≡ Some later) × (all ≡ taken ++ later)) → Gives rest further buffer (Ok count)
    → IfSome source (λ all. (later : List ℕ) × (further ≡ Some later) × (all ≡ (taken ++ take count buffer) ++ later))
parts_on None rest further taken buffer count p q = tt
parts_on (Some all) rest further taken buffer count (later, e, is) q =
    let gives = subst (λ (o : Option (List ℕ)). Gives o further buffer (Ok count)) e q in (
      gives.rest,
      gives.told,
      is ∙ ap (λ (xs : List ℕ). taken ++ xs) gives.front ∙ sym (append_assoc taken (take count buffer) gives.rest),
    )

-- a part more was taken, and its lines are answered
pub held_on :
    (bytes later : Option (ℕ → Option ℕ)) (begin node new : Standby) (source rest further before between now : Option (List ℕ))
    (lines lines_now : Taking) (troubled is : Bool) (buffer : List ℕ) (count : ℕ) → later ≡ bytes
    → IsHeld bytes begin node source rest before between lines troubled → Gives rest further buffer (Ok count)
    → lines_now ≡ taken_behind lines (take count buffer)
    → AnsweredTold later (requests_of (lines_given lines (take count buffer))) node new between now troubled is
    → IsHeld bytes begin new source further before now lines_now is
held_on bytes later begin node new source rest further before between now lines lines_now troubled is buffer count e held gives taken answered =
    let chunk = take count buffer in
    let done : Result (Unit {0}) SessionFault = Ok tt in
    record {
      taken = held.taken ++ chunk;
      is_taken = taken ∙ ap (λ (t : Taking). taken_behind t chunk) held.is_taken ∙ sym (taken_on (Kept []) held.taken chunk);
      parts = parts_on source rest further held.taken buffer count held.parts gives;
      answered =
          subst (λ (rs : List Request). AnsweredTold bytes rs begin new before now false is)
          (ap (λ (t : Taking). requests_of (lines_given (Kept []) held.taken) ++ requests_of (lines_given t chunk)) held.is_taken
          ∙ sym (asked_on (Kept []) held.taken chunk))
          (told_on bytes later (requests_of (lines_given (Kept []) held.taken)) (requests_of (lines_given lines chunk)) begin node new
          before between now false troubled is done e held.answered answered);
    }

-- the requests of a part more, behind those of the parts before
asked_of_both :
    (taken chunk : List ℕ) (lines : Taking) → lines ≡ taken_behind (Kept []) taken
    → requests_of (lines_given (Kept []) taken) ++ requests_of (lines_given lines chunk) ≡ requests_of (lines_given (Kept []) (taken ++ chunk))
asked_of_both taken chunk lines e =
    ap (λ (t : Taking). requests_of (lines_given (Kept []) taken) ++ requests_of (lines_given t chunk)) e
    ∙ sym (asked_on (Kept []) taken chunk)

-- a fault came among the lines of a part
pub broken_in_part :
    AsksAllRead → (bytes later : Option (ℕ → Option ℕ)) (begin node : Standby) (source rest further before between now : Option (List ℕ))
    (lines : Taking) (troubled is : Bool) (buffer : List ℕ) (count : ℕ) (new : Standby) (f : SessionFault) → later ≡ bytes
    → IsHeld bytes begin node source rest before between lines troubled → Gives rest further buffer (Ok count)
    → BrokenTold later (requests_of (lines_given lines (take count buffer))) node between now f
    → LeavesTold bytes source begin before now (Err f)
broken_in_part law bytes later begin node source rest further before between now lines troubled is buffer count new f e held gives broken =
    let chunk = take count buffer in
    let failed : Result (Unit {0}) SessionFault = Err f in
    by bytes source (parts_on source rest further held.taken buffer count held.parts gives)
    (subst (λ (rs : List Request). BrokenTold bytes rs begin before now f) (asked_of_both held.taken chunk lines held.is_taken)
    (told_on bytes later (requests_of (lines_given (Kept []) held.taken)) (requests_of (lines_given lines chunk)) begin node new
    before between now false troubled is failed e held.answered broken))
  where
    by : (b : Option (ℕ → Option ℕ)) (o : Option (List ℕ))
        → IfSome o (λ all. (rest_ : List ℕ) × (further ≡ Some rest_) × (all ≡ (held.taken ++ take count buffer) ++ rest_))
        → BrokenTold b (requests_of (lines_given (Kept []) (held.taken ++ take count buffer))) begin before now f
        → LeavesTold b o begin before now (Err f)
    by None o parts p = tt
    by (Some byte) None parts p = tt
    by (Some byte) (Some all) (rest_, told, is_) p = λ kept.
        let part = held.taken ++ take count buffer in
        broken_leaves (NodeStep byte) (bare begin) all (requests_of (lines_given (Kept []) part)) (asked_behind part rest_) before now f
        (source_in_parts law all part rest_ is_) (p kept)

-- the source failed
pub source_failed :
    AsksAllTaken → (bytes : Option (ℕ → Option ℕ)) (begin node : Standby) (source rest before now : Option (List ℕ)) (lines : Taking)
    (troubled : Bool) → IsHeld bytes begin node source rest before now lines troubled
    → LeavesTold bytes source begin before now (Err fault.Source)
source_failed law bytes begin node source rest before now lines troubled held = by bytes source held.parts held.answered
  where
    by : (b : Option (ℕ → Option ℕ)) (o : Option (List ℕ)) → IfSome o (λ all. (later : List ℕ) × (rest ≡ Some later) × (all ≡ held.taken ++ later))
        → AnsweredTold b (requests_of (lines_given (Kept []) held.taken)) begin node before now false troubled
        → LeavesTold b o begin before now (Err fault.Source)
    by None o parts p = tt
    by (Some byte) None parts p = tt
    by (Some byte) (Some all) (later, told, is) p = λ kept.
        taken_leaves (NodeStep byte) (bare begin) (bare node) held.taken later all (requests_of (lines_given (Kept []) held.taken)) before now
        false troubled (law held.taken) is (p kept).1

-- or it found no memory
pub source_short :
    AsksAllRead → (bytes : Option (ℕ → Option ℕ)) (begin node : Standby) (source rest before now : Option (List ℕ)) (lines : Taking)
    (troubled : Bool) → IsHeld bytes begin node source rest before now lines troubled
    → LeavesTold bytes source begin before now (Err fault.Memory)
source_short law bytes begin node source rest before now lines troubled held = by bytes source held.parts held.answered
  where
    by : (b : Option (ℕ → Option ℕ)) (o : Option (List ℕ)) → IfSome o (λ all. (later : List ℕ) × (rest ≡ Some later) × (all ≡ held.taken ++ later))
        → AnsweredTold b (requests_of (lines_given (Kept []) held.taken)) begin node before now false troubled
        → LeavesTold b o begin before now (Err fault.Memory)
    by None o parts p = tt
    by (Some byte) None parts p = tt
    by (Some byte) (Some all) (later, told, is) p = λ kept.
        front_leaves (NodeStep byte) (bare begin) (bare node) all (requests_of (lines_given (Kept []) held.taken)) (asked_behind held.taken later)
        before now false troubled (source_in_parts law all held.taken later is) (p kept).1

-- nothing is left of a source that gives none
all_taken :
    (source rest further : Option (List ℕ)) (taken buffer : List ℕ) → 0 < length buffer
    → IfSome source (λ all. (later : List ℕ) × (rest ≡ Some later) × (all ≡ taken ++ later)) → Gives rest further buffer (Ok 0)
    → IfSome source (λ all. all ≡ taken)
all_taken None rest further taken buffer room p q = tt
all_taken (Some all) rest further taken buffer room (later, e, is) q =
    let gives = subst (λ (o : Option (List ℕ)). Gives o further buffer (Ok 0)) e q in
    is ∙ ap (λ (xs : List ℕ). taken ++ xs) (gives.none room refl) ∙ append-nil taken

all_asked :
    AsksAllRead → (taken source : List ℕ) (lines : Taking) → lines ≡ taken_behind (Kept []) taken → source ≡ taken
    → requests_of (lines_given (Kept []) taken) ++ requests_of (line_at_end lines) ≡ requests_read source
all_asked law taken source lines e is =
    ap (λ (t : Taking). requests_of (lines_given (Kept []) taken) ++ requests_of (line_at_end t)) e
    ∙ sym (requests_on (lines_given (Kept []) taken) (line_at_end (taken_behind (Kept []) taken)))
    ∙ law taken ∙ ap requests_read (sym is)

-- the source was read to its end, and the last line is answered, or a fault came then
pub held_to_end :
    AsksAllRead → (bytes later : Option (ℕ → Option ℕ)) (begin node new : Standby) (source rest further before between now : Option (List ℕ))
    (lines : Taking) (troubled is : Bool) (buffer : List ℕ) (result : Result ℕ SessionFault) → later ≡ bytes → 0 < length buffer
    → IsHeld bytes begin node source rest before between lines troubled → Gives rest further buffer (Ok 0)
    → AnswersAll later (requests_of (line_at_end lines)) node new between now troubled is result
    → ((status : ℕ) → result ≡ Ok status → status ≡ (if is then 5 else 0))
    → LeavesTold bytes source begin before now result
held_to_end law bytes later begin node new source rest further before between now lines troubled is buffer result e room held gives answers status =
    by bytes source result (all_taken source rest further held.taken buffer room held.parts gives)
    (told_on bytes later (requests_of (lines_given (Kept []) held.taken)) (requests_of (line_at_end lines)) begin node new
    before between now false troubled is result e held.answered answers) status
  where
    by : (b : Option (ℕ → Option ℕ)) (o : Option (List ℕ)) (r : Result ℕ SessionFault) → IfSome o (λ all. all ≡ held.taken)
        → AnswersAll b (requests_of (lines_given (Kept []) held.taken) ++ requests_of (line_at_end lines)) begin new before now false is r → ((s : ℕ) → r ≡ Ok s → s ≡ (if is then 5 else 0))
        → LeavesTold b o begin before now r
    by None o r whole p s = tt
    by (Some byte) None r whole p s = tt
    by (Some byte) (Some all) (Ok st) whole p s = λ kept.
        let asked : List Request = requests_of (lines_given (Kept []) held.taken) ++ requests_of (line_at_end lines) in
        answered_leaves (NodeStep byte) (bare begin) (bare new) all asked before now is st (all_asked law held.taken all lines held.is_taken whole)
        (s st refl) (p kept).1
    by (Some byte) (Some all) (Err f) whole p s = λ kept.
        let asked : List Request = requests_of (lines_given (Kept []) held.taken) ++ requests_of (line_at_end lines) in
        broken_leaves (NodeStep byte) (bare begin) all asked [] before now f
        (sym (all_asked law held.taken all lines held.is_taken whole) ∙ sym (append-nil asked)) (p kept)
