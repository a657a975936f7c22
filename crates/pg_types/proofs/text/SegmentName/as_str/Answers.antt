use Rattle.std.proofs.Common.{Result, Ok, Err, refl}
use Rattle.std.specs.Result.{IsOk, MatchResult}
use Rattle.std.proofs.lemmas.Str.{IsUtf8-from_ascii}
use Rattle.pg_types.proofs.text.SegmentName.as_str.Goals as goal

-- an answer that cannot be an error is Ok
ok_only : {T E : Type 0} (r : Result T E) (P : T → Type 0) (Q : E → Type 0) → MatchResult r P Q → ((e : E) → Q e → ⊥) → IsOk r
ok_only (Ok x) P Q cases none = refl
ok_only (Err e) P Q cases none = absurd (none e cases)

pub unwrap-requires : goal.unwrap-requires
unwrap-requires c = ok_only c.from_utf8.result _ _ c.from_utf8.ensures.cases (λ e h. h.0 (IsUtf8-from_ascii _ c.self.invariant))
