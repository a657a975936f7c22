-- Texts written one after another.
use Rattle.std.proofs.Common.{ℕ, ◌+◌, List, [], ◌++◌, Option, Some, None, length, take, ap, sym, ◌∙◌, subst, append_assoc, append-nil}
use Rattle.std.proofs.Math.Seq.{take-append-add}
use Rattle.outside.specs.Sink.{Appends, AppendsNothing, AppendsPrefix}

-- one text after another
pub appends_both :
    (before between now : Option (List ℕ)) (x y : List ℕ) → Appends before between x → Appends between now y
    → Appends before now (x ++ y)
appends_both None between now x y p q = tt
appends_both (Some a) between now x y p q =
    let r = subst (λ (o : Option (List ℕ)). Appends o now y) p q in
    r ∙ ap (λ (t : List ℕ). Some t) (append_assoc a x y)

-- a text, and then a prefix of another
pub appends_prefix :
    (before between now : Option (List ℕ)) (x y : List ℕ) → Appends before between x → AppendsPrefix between now y
    → AppendsPrefix before now (x ++ y)
appends_prefix None between now x y p q = tt
appends_prefix (Some a) between now x y p q =
    let (n, e) = subst (λ (o : Option (List ℕ)). AppendsPrefix o now y) p q in
    (length x + n, e ∙ ap (λ (t : List ℕ). Some t) (append_assoc a x (take n y)) ∙ ap (λ (t : List ℕ). Some (a ++ t)) (sym (take-append-add x y n)))

-- nothing was written
pub nothing_appended : (now : Option (List ℕ)) → Appends now now []
nothing_appended None = tt
nothing_appended (Some a) = ap (λ (t : List ℕ). Some t) (sym (append-nil a))

pub nothing_more : (before now : Option (List ℕ)) → AppendsNothing before now → Appends before now []
nothing_more None now p = tt
nothing_more (Some a) now p = p ∙ ap (λ (t : List ℕ). Some t) (sym (append-nil a))
