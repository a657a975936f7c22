-- The lines that are taken byte for byte ask what the lines of the whole text ask.
use Rattle.std.proofs.Common.{◌≡◌, ℕ, ◌≤◌, ◌<◌, ◌==◌, Bool, true, false, nat_lt, List, [], ◌∷◌, ◌++◌, length, refl, sym, ap, ◌∙◌, subst, arith, if◌then◌else◌, length-append}
use Rattle.std.proofs.lemmas.Bool.{lt-ltb, le-ltb, ltb-true, ltb-false}
use Rattle.std.proofs.lemmas.List.{append-nil, append_assoc}
use Rattle.session_text.specs.Lines.{before_first, last_line, line_too_long, lines_by, lines_read, lines_taken, longest, pieces}
use Rattle.session_text.specs.Requests.{Request, Unreadable, request_of, requests_of, requests_read, requests_taken}
use Rattle.session_text.specs.Taking.{Taking, Kept, Passing, given, kept_if, line_at_end, lines_given, step_at, taken_behind}
use Rattle.session_text.proofs.Pieces.{some_first}
use Rattle.session_text.proofs.Words.{too_long}

-- what was taken before, and the pieces of what follows
abbrev joined : List ℕ → List (List ℕ) → List (List ℕ)
joined p [] = p ∷ []
joined p (first ∷ others) = (p ++ first) ∷ others

abbrev rest_of : List (List ℕ) → List (List ℕ)
rest_of [] = []
rest_of (first ∷ others) = others

-- a line that is given asks first
asks_first : (line : List ℕ) (r : Request) (lines : List (List ℕ)) (rs : List Request) → r ≡ request_of line → requests_of lines ≡ rs → requests_of (line ∷ lines) ≡ r ∷ rs
unfolding requests_of
asks_first line r lines rs is more = rw (is, more) refl

module _ (L : List ℕ → List (List ℕ)) (E : Taking → List (List ℕ))
    (at_end : (p : List ℕ) → length p ≤ longest → E (Kept p) ≡ L p)
    (passed : E Passing ≡ [])
    (at_long : (p : List ℕ) → longest < length p → L p ≡ p ∷ []) where
  abbrev all : Taking → List ℕ → List (List ℕ)
  all s bytes = lines_given s bytes ++ E (taken_behind s bytes)

  -- a piece that is too long is a line, wherever it stands
  long_first : (x : List ℕ) (others : List (List ℕ)) → longest < length x → lines_by L (x ∷ others) ≡ x ∷ lines_by L others
  unfolding lines_by
  long_first x [] long = at_long x long
  long_first x (next ∷ more) long = refl

  ended_first : (x first : List ℕ) (others : List (List ℕ)) → lines_by L (x ∷ first ∷ others) ≡ x ∷ lines_by L (first ∷ others)
  unfolding lines_by
  ended_first x first others = refl

  abbrev KeptAsks : List ℕ → List (List ℕ) → Type 0
  KeptAsks bytes parts = (p : List ℕ) → length p ≤ longest → requests_of (all (Kept p) bytes) ≡ requests_of (lines_by L (joined p parts))

  abbrev PassingAsks : List ℕ → List (List ℕ) → Type 0
  PassingAsks bytes parts = requests_of (all Passing bytes) ≡ requests_of (lines_by L (rest_of parts))

  -- a byte that does not end the line makes it longer than it may be, or not
  kept_longer : (b : ℕ) (rest first : List ℕ) (others : List (List ℕ)) (p longer : List ℕ) (long : Bool)
      → nat_lt longest (length longer) ≡ long → longer ≡ p ++ b ∷ []
      → KeptAsks rest (first ∷ others) → PassingAsks rest (first ∷ others)
      → requests_of ((given (kept_if long longer).1 ++ lines_given (kept_if long longer).0 rest) ++ E (taken_behind (kept_if long longer).0 rest))
      ≡ requests_of (lines_by L ((p ++ b ∷ first) ∷ others))
  kept_longer b rest first others p longer true is grown kept passing =
      let whole : longest < length (p ++ b ∷ first) = omega (arith, ltb-true longest (length longer) is, ap length grown, length-append p (b ∷ first), length-append p (b ∷ [])) in
      asks_first longer Unreadable (all Passing rest) (requests_of (lines_by L others)) (too_long longer (ltb-true longest (length longer) is)) passing
      ∙ sym (ap requests_of (long_first (p ++ b ∷ first) others whole)
      ∙ asks_first (p ++ b ∷ first) Unreadable (lines_by L others) (requests_of (lines_by L others)) (too_long (p ++ b ∷ first) whole) refl)
  kept_longer b rest first others p longer false is grown kept passing =
      kept longer (ltb-false longest (length longer) is)
      ∙ ap (λ (x : List ℕ). requests_of (lines_by L (x ∷ others))) (ap (λ (x : List ℕ). x ++ first) grown ∙ append_assoc p (b ∷ []) first)

  kept_step : (b : ℕ) (rest first : List ℕ) (others : List (List ℕ)) (end : Bool)
      → KeptAsks rest (first ∷ others) → PassingAsks rest (first ∷ others)
      → (p : List ℕ) → length p ≤ longest
      → requests_of ((given (step_at end (Kept p) b).1 ++ lines_given (step_at end (Kept p) b).0 rest) ++ E (taken_behind (step_at end (Kept p) b).0 rest))
      ≡ requests_of (lines_by L (joined p (if end then [] ∷ first ∷ others else before_first b (first ∷ others))))
  kept_step b rest first others true kept passing p short =
      asks_first p (request_of p) (all (Kept []) rest) (requests_of (lines_by L (first ∷ others))) refl (kept [] (omega arith))
      ∙ sym (ap requests_of (ended_first (p ++ []) first others)
      ∙ asks_first (p ++ []) (request_of p) (lines_by L (first ∷ others)) (requests_of (lines_by L (first ∷ others))) (ap request_of (sym (append-nil p))) refl)
  kept_step b rest first others false kept passing p short =
      kept_longer b rest first others p (p ++ b ∷ []) (nat_lt longest (length (p ++ b ∷ []))) refl refl kept passing

  passing_step : (b : ℕ) (rest first : List ℕ) (others : List (List ℕ)) (end : Bool)
      → KeptAsks rest (first ∷ others) → PassingAsks rest (first ∷ others)
      → requests_of ((given (step_at end Passing b).1 ++ lines_given (step_at end Passing b).0 rest) ++ E (taken_behind (step_at end Passing b).0 rest))
      ≡ requests_of (lines_by L (rest_of (if end then [] ∷ first ∷ others else before_first b (first ∷ others))))
  passing_step b rest first others true kept passing = kept [] (omega arith)
  passing_step b rest first others false kept passing = passing

  pub asks : (bytes : List ℕ) → KeptAsks bytes (pieces 10 bytes) × PassingAsks bytes (pieces 10 bytes)
  unfolding pieces lines_by
  asks [] = ((λ p short. ap requests_of (at_end p short ∙ ap L (sym (append-nil p)))), ap requests_of passed)
  asks (b ∷ rest) =
      let parts = some_first 10 rest in
      let behind = asks rest in
      let kept : KeptAsks rest (parts.0 ∷ parts.1) = subst (KeptAsks rest) parts.2 behind.0 in
      let passing : PassingAsks rest (parts.0 ∷ parts.1) = subst (PassingAsks rest) parts.2 behind.1 in (
        subst (λ ps. KeptAsks (b ∷ rest) (if b == 10 then [] ∷ ps else before_first b ps)) (sym parts.2) (kept_step b rest parts.0 parts.1 (b == 10) kept passing),
        subst (λ ps. PassingAsks (b ∷ rest) (if b == 10 then [] ∷ ps else before_first b ps)) (sym parts.2) (passing_step b rest parts.0 parts.1 (b == 10) kept passing),
      )

-- nothing was taken before
joined_none : (bytes : List ℕ) → joined [] (pieces 10 bytes) ≡ pieces 10 bytes
joined_none bytes = let parts = some_first 10 bytes in
    subst (λ ps. joined [] ps ≡ ps) (sym parts.2) refl

read_at_end : (p : List ℕ) → length p ≤ longest → line_at_end (Kept p) ≡ last_line p
read_at_end [] short = refl
read_at_end (b ∷ p) short = refl

read_long : (p : List ℕ) → longest < length p → last_line p ≡ p ∷ []
read_long [] long = absurd (omega (arith, long))
read_long (b ∷ p) long = refl

pub asks_read : (bytes : List ℕ) → requests_of (lines_given (Kept []) bytes ++ line_at_end (taken_behind (Kept []) bytes)) ≡ requests_read bytes
unfolding lines_read
asks_read bytes = (asks last_line line_at_end read_at_end refl read_long bytes).0 [] (omega arith) ∙ ap (λ parts. requests_of (lines_by last_line parts)) (joined_none bytes)

taken_at_end : (p : List ℕ) → length p ≤ longest → [] ≡ line_too_long p
taken_at_end p short = sym (ap (λ (long : Bool). if long then p ∷ [] else []) (le-ltb longest (length p) short))

taken_long : (p : List ℕ) → longest < length p → line_too_long p ≡ p ∷ []
taken_long p long = ap (λ (long : Bool). if long then p ∷ [] else []) (lt-ltb longest (length p) long)

pub asks_taken : (bytes : List ℕ) → requests_of (lines_given (Kept []) bytes) ≡ requests_taken bytes
unfolding lines_taken
asks_taken bytes = ap requests_of (sym (append-nil (lines_given (Kept []) bytes)))
    ∙ ((asks line_too_long (λ s. []) taken_at_end refl taken_long bytes).0 [] (omega arith) ∙ ap (λ parts. requests_of (lines_by line_too_long parts)) (joined_none bytes))
