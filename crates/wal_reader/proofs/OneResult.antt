-- A result is one answer.
use Rattle.std.proofs.Common.{◌≡◌, Result, Ok, Err}

pub one_ok : {A E : Type 0} (r : Result A E) (a b : A) → r ≡ Ok a → r ≡ Ok b → a ≡ b
one_ok r a b e f = cc

pub one_err : {A E : Type 0} (r : Result A E) (a b : E) → r ≡ Err a → r ≡ Err b → a ≡ b
one_err r a b e f = cc

pub not_both : {A E : Type 0} (r : Result A E) (a : A) (e : E) → r ≡ Ok a → r ≡ Err e → ⊥
not_both r a e p q = cc
