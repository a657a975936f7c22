-- The files contain bytes.
use Rattle.std.proofs.Common.{◌≡◌, ℕ, ◌<◌, Bool, true, false, nat_lt, List, [], ◌∷◌, Some, None, IfSome, refl}
use Rattle.std.specs.Prelude.{codes, nat_eq, if◌then◌else◌}
use Rattle.std.specs.Cmp.Lexicographic.{pointwise}
use Rattle.std.specs.List.{list_all}
use Rattle.std.proofs.lemmas.Bool.{and_parts, ltb-true}
use Rattle.std.proofs.lemmas.List.Elements.{All-cons, All-nil}
use Rattle.pg_types.specs.Bytes.{AreBytes}
use Rattle.outside.specs.Archive.{HaveBytes}
use Rattle.worked_archive.specs.WorkedArchive.{contents, files}

are_bytes : (xs : List ℕ) → list_all (λ (byte : ℕ). nat_lt byte 256) xs ≡ true → AreBytes xs
are_bytes [] h = All-nil (λ (byte : ℕ). byte < 256)
are_bytes (x ∷ xs) h =
    let (first, rest) = and_parts (nat_lt x 256) (list_all (λ (byte : ℕ). nat_lt byte 256) xs) h in
    All-cons (λ (byte : ℕ). byte < 256) x xs (ltb-true x 256 first) (are_bytes xs rest)

contents_are : list_all (λ (byte : ℕ). nat_lt byte 256) contents ≡ true
unfolding contents
contents_are = refl

where_named : (is : Bool) → IfSome (if is then Some contents else None) AreBytes
where_named true = are_bytes contents contents_are
where_named false = tt

pub have_bytes : HaveBytes (Some files)
have_bytes name = where_named (pointwise nat_eq name (codes "000000010000000000000002"))
