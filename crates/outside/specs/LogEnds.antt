-- A text in memory tells nothing at or past the last position.
use Rattle.std.proofs.Common.{◌≡◌, ℕ, ◌-◌, ◌≤◌, List, Bool, true, false, None, refl, ap, ◌∙◌, cond, ◌||◌, ltb}
use Rattle.std.specs.List.{slice_get}
use borrow.Author.Tests.{le-leb}
use Rattle.outside.specs.Log.{log_limit, text_from}

pub text_from_ends : (start : ℕ) (text : List ℕ) (at : ℕ) → log_limit ≤ at → text_from start text at ≡ None
text_from_ends start text at past =
    ap (λ (b : Bool). cond (ltb at start || b) None (slice_get text (at - start))) (le-leb log_limit at past) ∙ by (ltb at start)
  where
    by : (b : Bool) → cond (b || true) None (slice_get text (at - start)) ≡ None
    by true = refl
    by false = refl
