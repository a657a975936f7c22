-- What a line asks, by the words that it is cut into.
use Rattle.std.proofs.Common.{◌≡◌, ℕ, ◌<◌, ◌≤◌, Bool, true, false, List, [], ◌∷◌, length, nat_lt, refl, sym, ap, ◌∙◌, if◌then◌else◌}
use Rattle.std.proofs.lemmas.Bool.{false≢true, lt-ltb, le-ltb}
use Rattle.session_text.specs.Lines.{longest, pieces}
use Rattle.session_text.specs.Requests.{Request, Unreadable, asked_by, asked_of, asked_without_return, has_return, request_of}
use Rattle.session_text.proofs.Pieces.{some_first}

long_is : (long : Bool) (r : Request) → long ≡ true → Unreadable ≡ (if long then Unreadable else r)
long_is true r is = refl
long_is false r is = absurd (false≢true is)

short_is : (long : Bool) (r : Request) → long ≡ false → r ≡ (if long then Unreadable else r)
short_is true r is = absurd (false≢true (sym is))
short_is false r is = refl

pub too_long : (line : List ℕ) → 4096 < length line → Unreadable ≡ request_of line
unfolding request_of
too_long line long = long_is (nat_lt longest (length line)) (asked_without_return line) (lt-ltb longest (length line) long)

held : (long has : Bool) (r : Request) → has ≡ true → Unreadable ≡ (if long then Unreadable else (if has then Unreadable else r))
held true has r is = refl
held false has r is = long_is has r is

pub with_return : (line : List ℕ) → has_return line ≡ true → Unreadable ≡ request_of line
unfolding request_of
with_return line has = held (nat_lt longest (length line)) (has_return line) (asked_by (pieces 32 line)) has

pub without_return : (line : List ℕ) (r : Request) → length line ≤ 4096 → has_return line ≡ false → r ≡ asked_by (pieces 32 line) → r ≡ request_of line
unfolding request_of
without_return line r short none is = is ∙ (short_is (has_return line) (asked_by (pieces 32 line)) none
    ∙ short_is (nat_lt longest (length line)) (asked_without_return line) (le-ltb longest (length line) short))

pub one_word : (line : List ℕ) (r : Request) → pieces 32 line ≡ line ∷ [] → r ≡ asked_by (line ∷ []) → r ≡ asked_by (pieces 32 line)
one_word line r alone is = is ∙ sym (ap asked_by alone)

pub two_words : (line command word : List ℕ) (r : Request) → pieces 32 line ≡ command ∷ pieces 32 word → pieces 32 word ≡ word ∷ []
    → r ≡ asked_of command word → r ≡ asked_by (pieces 32 line)
two_words line command word r first second is = is ∙ sym (ap asked_by (first ∙ ap (λ words. command ∷ words) second))

three : (command word : List ℕ) (words : List (List ℕ)) (first : List ℕ) (others : List (List ℕ)) → words ≡ first ∷ others → Unreadable ≡ asked_by (command ∷ word ∷ words)
three command word words first others is = rw is refl

pub more_words : (line command word rest further : List ℕ) → pieces 32 line ≡ command ∷ pieces 32 rest
    → pieces 32 rest ≡ word ∷ pieces 32 further → Unreadable ≡ asked_by (pieces 32 line)
more_words line command word rest further first second = let behind = some_first 32 further in
    three command word (pieces 32 further) behind.0 behind.1 behind.2
    ∙ sym (ap asked_by (first ∙ ap (λ words. command ∷ words) second))
