-- The lines that bytes give, answered one after the other.
use Rattle.std.proofs.Common.{◌≡◌, ℕ, ◌+◌, ◌<◌, Bool, ◌||◌, List, [], ◌∷◌, ◌++◌, Option, Some, None, Result, Ok, Err, length, get_or, take, drop, ap, sym, ◌∙◌, subst}
use Rattle.std.proofs.lemmas.List.{take-append-drop}
use Rattle.outside.specs.Sink.{Appends, AppendsNothing, AppendsPrefix}
use Rattle.session_text.specs.Requests.{Request, request_of, requests_of}
use Rattle.session_text.specs.Taking.{Taking, given, lines_given, step, taken_behind}
use Rattle.standby_core.specs.Standby.{Standby}
use Rattle.session_model.specs.NodeSteps.{NodeStep, bare}
use Rattle.session_model.specs.Texts.{answer_text}
use Rattle.standby_session.specs.Answered.{AnsweredTold, AnswersAll, BrokenTold}
use Rattle.standby_session.specs.Answering.{AnswersTold}
use Rattle.standby_session.specs.declared.fault.SessionFault.{SessionFault}
use Rattle.standby_session.specs.declared.fault.SessionFault.TheVariants as fault
use Rattle.standby_session.proofs.Appending.{nothing_more}
use Rattle.standby_session.proofs.Given.{asked_more, asked_on}
use Rattle.standby_session.proofs.Talking.{answered_one, prefix_of_one, told_further, told_none, told_nothing, told_on}

-- no line
pub no_lines :
    (bytes : Option (ℕ → Option ℕ)) (lines : List (List ℕ)) (node : Standby) (now : Option (List ℕ)) (is : Bool) → lines ≡ []
    → AnsweredTold bytes (requests_of lines) node node now now is is
unfolding requests_of
no_lines bytes lines node now is e =
    subst (λ (ls : List (List ℕ)). AnsweredTold bytes (requests_of ls) node node now now is is) (sym e) (told_none bytes node now is)

-- one line
pub one_line :
    {T : Type 0} (bytes : Option (ℕ → Option ℕ)) (line : List ℕ) (lines : List (List ℕ)) (old new : Standby)
    (before now : Option (List ℕ)) (was is : Bool) (result : Result T SessionFault) → lines ≡ line ∷ []
    → AnswersAll bytes (request_of line ∷ []) old new before now was is result
    → AnswersAll bytes (requests_of lines) old new before now was is result
unfolding requests_of
one_line bytes line lines old new before now was is result e p =
    subst (λ (ls : List (List ℕ)). AnswersAll bytes (requests_of ls) old new before now was is result) (sym e) p

pub one_line_told :
    (bytes : Option (ℕ → Option ℕ)) (line : List ℕ) (lines : List (List ℕ)) (old new : Standby)
    (before now : Option (List ℕ)) (was is : Bool) → lines ≡ line ∷ [] → AnsweredTold bytes (request_of line ∷ []) old new before now was is
    → AnsweredTold bytes (requests_of lines) old new before now was is
unfolding requests_of
one_line_told bytes line lines old new before now was is e p =
    subst (λ (ls : List (List ℕ)). AnsweredTold bytes (requests_of ls) old new before now was is) (sym e) p

pub one_line_broken :
    (bytes : Option (ℕ → Option ℕ)) (line : List ℕ) (lines : List (List ℕ)) (old : Standby)
    (before now : Option (List ℕ)) (f : SessionFault) → lines ≡ line ∷ [] → BrokenTold bytes (request_of line ∷ []) old before now f
    → BrokenTold bytes (requests_of lines) old before now f
unfolding requests_of
one_line_broken bytes line lines old before now f e p =
    subst (λ (ls : List (List ℕ)). BrokenTold bytes (requests_of ls) old before now f) (sym e) p

-- the lines of one byte more
pub lines_more :
    {T : Type 0} (bytes later : Option (ℕ → Option ℕ)) (lines between_lines : Taking) (text : List ℕ) (i : ℕ) (old mid new : Standby)
    (before between now : Option (List ℕ)) (was so is : Bool) (result : Result T SessionFault) → later ≡ bytes → i < length text
    → between_lines ≡ taken_behind lines (take i text)
    → AnsweredTold bytes (requests_of (lines_given lines (take i text))) old mid before between was so
    → AnswersAll later (requests_of (given (step between_lines (get_or text i 0)).1)) mid new between now so is result
    → AnswersAll bytes (requests_of (lines_given lines (take (i + 1) text))) old new before now was is result
lines_more bytes later lines between_lines text i old mid new before between now was so is result e lt taken p q =
    let asked = requests_of (given (step between_lines (get_or text i 0)).1) in
    subst (λ (rs : List Request). AnswersAll bytes rs old new before now was is result)
    (ap (λ (t : Taking). requests_of (lines_given lines (take i text)) ++ requests_of (given (step t (get_or text i 0)).1)) taken
    ∙ sym (asked_more lines text i lt))
    (told_on bytes later (requests_of (lines_given lines (take i text))) asked old mid new before between now was so is result e p q)

pub lines_told :
    (bytes later : Option (ℕ → Option ℕ)) (lines between_lines : Taking) (text : List ℕ) (i : ℕ) (old mid new : Standby)
    (before between now : Option (List ℕ)) (was so is : Bool) → later ≡ bytes → i < length text
    → between_lines ≡ taken_behind lines (take i text)
    → AnsweredTold bytes (requests_of (lines_given lines (take i text))) old mid before between was so
    → AnsweredTold later (requests_of (given (step between_lines (get_or text i 0)).1)) mid new between now so is
    → AnsweredTold bytes (requests_of (lines_given lines (take (i + 1) text))) old new before now was is
lines_told bytes later lines between_lines text i old mid new before between now was so is e lt taken p q =
    let done : Result (Unit {0}) SessionFault = Ok tt in
    lines_more bytes later lines between_lines text i old mid new before between now was so is done e lt taken p q

pub lines_broken :
    (bytes later : Option (ℕ → Option ℕ)) (lines between_lines : Taking) (text : List ℕ) (i : ℕ) (old mid : Standby)
    (before between now : Option (List ℕ)) (was so : Bool) (f : SessionFault) → later ≡ bytes → i < length text
    → between_lines ≡ taken_behind lines (take i text)
    → AnsweredTold bytes (requests_of (lines_given lines (take i text))) old mid before between was so
    → BrokenTold later (requests_of (given (step between_lines (get_or text i 0)).1)) mid between now f
    → BrokenTold bytes (requests_of (lines_given lines (take (i + 1) text))) old before now f
lines_broken bytes later lines between_lines text i old mid before between now was so f e lt taken p q =
    let failed : Result (Unit {0}) SessionFault = Err f in
    lines_more bytes later lines between_lines text i old mid mid before between now was so so failed e lt taken p q

-- a fault came among the lines of some of the bytes
pub broken_in_front :
    (bytes : Option (ℕ → Option ℕ)) (lines : Taking) (text : List ℕ) (n : ℕ) (old : Standby) (before now : Option (List ℕ)) (f : SessionFault)
    → BrokenTold bytes (requests_of (lines_given lines (take n text))) old before now f
    → BrokenTold bytes (requests_of (lines_given lines text)) old before now f
broken_in_front bytes lines text n old before now f p =
    let more = requests_of (lines_given (taken_behind lines (take n text)) (drop n text)) in
    subst (λ (rs : List Request). BrokenTold bytes rs old before now f)
    (sym (asked_on lines (take n text) (drop n text)) ∙ ap (λ (xs : List ℕ). requests_of (lines_given lines xs)) (take-append-drop n text))
    (told_further bytes (requests_of (lines_given lines (take n text))) more old before now f p)

-- an answer was written whole
pub written_whole :
    (bytes : Option (ℕ → Option ℕ)) (asked request : Request) (old new : Standby) (room text : List ℕ) (troubled was is : Bool)
    (before now : Option (List ℕ)) → asked ≡ request → room ≡ [] → AnswersTold bytes asked old new room text (Ok troubled)
    → Appends before now text → is ≡ (was || troubled) → AnsweredTold bytes (request ∷ []) old new before now was is
written_whole None asked request old new room text troubled was is before now same empty p w e = tt
written_whole (Some byte) asked request old new room text troubled was is before now same empty p w e =
    subst (λ (r : Request). AnsweredTold (Some byte) (r ∷ []) old new before now was is) same
    (λ kept.
    let (later, told) = p kept in
    let says : text ≡ answer_text told.answer = told.says ∙ ap (λ (t : List ℕ). t ++ answer_text told.answer) empty in (
      later,
      answered_one (NodeStep byte) asked told.answer (bare old) (bare new) before now was is told.answers
          (subst (λ (t : List ℕ). Appends before now t) says w) (e ∙ ap (λ (b : Bool). was || b) told.trouble),
    ))

-- or a prefix of it
pub written_prefix :
    (bytes : Option (ℕ → Option ℕ)) (asked request : Request) (old new : Standby) (room text : List ℕ) (troubled : Bool)
    (before now : Option (List ℕ)) → asked ≡ request → room ≡ [] → AnswersTold bytes asked old new room text (Ok troubled)
    → AppendsPrefix before now text → BrokenTold bytes (request ∷ []) old before now fault.Sink
written_prefix None asked request old new room text troubled before now same empty p w = tt
written_prefix (Some byte) asked request old new room text troubled before now same empty p w =
    subst (λ (r : Request). BrokenTold (Some byte) (r ∷ []) old before now fault.Sink) same
    (λ kept.
    let (later, told) = p kept in
    let says : text ≡ answer_text told.answer = told.says ∙ ap (λ (t : List ℕ). t ++ answer_text told.answer) empty in
    prefix_of_one (NodeStep byte) asked told.answer (bare old) (bare new) before now told.answers
    (subst (λ (t : List ℕ). AppendsPrefix before now t) says w))

-- or nothing
pub written_nothing :
    (bytes : Option (ℕ → Option ℕ)) (requests : List Request) (old : Standby) (before now : Option (List ℕ))
    → AppendsNothing before now → BrokenTold bytes requests old before now fault.Memory
written_nothing bytes requests old before now p = told_nothing bytes requests old before now (nothing_more before now p)
