-- A replay that is asked for is of one record at least.
use Rattle.std.proofs.Common.{◌≡◌, ℕ, ◌-◌, ◌^◌, Bool, true, false, ◌&&◌, List, [], ◌∷◌, Option, None, Some, nat_le, nat_lt, length, refl, subst, sym, if◌then◌else◌}
use Rattle.std.specs.Prelude.{codes}
use Rattle.std.specs.Str.{is_utf8}
use Rattle.std.proofs.lemmas.Bool.{and_parts, leb-true}
use Rattle.session_text.specs.Lines.{longest, pieces}
use Rattle.session_text.specs.Requests.{Request, AsksStatus, Replays, Opens, Reads, Closes, Unreadable, asked_by, asked_of, asked_without_return, has_return, is, number_of, opening, request_of, within}
use Rattle.standby_session.specs.Answering.{AsksSome}

chosen : (b : Bool) (r other : Request) → (b ≡ true → AsksSome r) → AsksSome other → AsksSome (if b then r else other)
chosen true r other p q = p refl
chosen false r other p q = q

replays_some : (n : Option ℕ) → AsksSome (within 1 (2 ^ 32 - 1) Replays n)
replays_some None = tt
replays_some (Some n) =
    chosen (nat_le 1 n && nat_le n (2 ^ 32 - 1)) (Replays n) Unreadable
    (λ e. leb-true 1 n (and_parts (nat_le 1 n) (nat_le n (2 ^ 32 - 1)) e).0) tt

reads_some : (n : Option ℕ) → AsksSome (within 0 (2 ^ 64 - 1) Reads n)
reads_some None = tt
reads_some (Some n) = chosen (nat_le 0 n && nat_le n (2 ^ 64 - 1)) (Reads n) Unreadable (λ e. tt) tt

closes_some : (n : Option ℕ) → AsksSome (within 0 (2 ^ 64 - 1) Closes n)
closes_some None = tt
closes_some (Some n) = chosen (nat_le 0 n && nat_le n (2 ^ 64 - 1)) (Closes n) Unreadable (λ e. tt) tt

opens_some : (name : List ℕ) → AsksSome (opening name)
opens_some [] = tt
opens_some (b ∷ name) = chosen (is_utf8 (b ∷ name)) (Opens (b ∷ name)) Unreadable (λ e. tt) tt

words_some : (command word : List ℕ) → AsksSome (asked_of command word)
words_some command word =
    chosen (is command (codes "replay")) (within 1 (2 ^ 32 - 1) Replays (number_of word)) _ (λ e. replays_some (number_of word))
    (chosen (is command (codes "open")) (opening word) _ (λ e. opens_some word)
    (chosen (is command (codes "next")) (within 0 (2 ^ 64 - 1) Reads (number_of word)) _ (λ e. reads_some (number_of word))
    (chosen (is command (codes "close")) (within 0 (2 ^ 64 - 1) Closes (number_of word)) Unreadable (λ e. closes_some (number_of word)) tt)))

parts_some : (parts : List (List ℕ)) → AsksSome (asked_by parts)
parts_some [] = tt
parts_some (command ∷ []) = chosen (is command (codes "status")) AsksStatus Unreadable (λ e. tt) tt
parts_some (command ∷ word ∷ []) = words_some command word
parts_some (command ∷ word ∷ further ∷ words) = tt

pub request_some : (line : List ℕ) → AsksSome (request_of line)
unfolding request_of
request_some line =
    chosen (nat_lt longest (length line)) Unreadable (asked_without_return line) (λ e. tt)
    (chosen (has_return line) Unreadable (asked_by (pieces 32 line)) (λ e. tt) (parts_some (pieces 32 line)))

pub read_some : (asked : Request) (line : List ℕ) → asked ≡ request_of line → AsksSome asked
read_some asked line e = subst AsksSome (sym e) (request_some line)
