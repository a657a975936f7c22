-- Words that are appended one after the other.
use Rattle.std.proofs.Common.{◌≡◌, ℕ, List, [], ◌∷◌, ◌++◌, refl, ap, ◌∙◌, append_assoc}

pub standing :
    (old a b c first word min rest : List ℕ) → a ≡ old ++ first → b ≡ a ++ (word ++ min) → c ≡ b ++ rest
    → c ≡ old ++ (first ++ word ++ min ++ rest)
standing old a b c first word min rest p q r = r ∙ (ap (λ x. x ++ rest) (q ∙ ap (λ x. x ++ (word ++ min)) p)
    ∙ simp append_assoc refl)

pub status :
    (old a b c d first w x y z word printed scans last : List ℕ) → printed ≡ scans → a ≡ old ++ (first ++ (w ++ x ++ y ++ z))
    → b ≡ a ++ (word ++ printed) → c ≡ b ++ last → d ≡ c ++ 10 ∷ []
    → d ≡ old ++ (first ++ w ++ x ++ y ++ z ++ word ++ scans ++ last ++ 10 ∷ [])
status old a b c d first w x y z word printed scans last same p q r s =
    s ∙ (ap (λ t. t ++ 10 ∷ []) (r ∙ ap (λ t. t ++ last) (q ∙ (ap (λ t. t ++ (word ++ printed)) p
    ∙ ap (λ t. old ++ (first ++ (w ++ x ++ y ++ z)) ++ (word ++ t)) same))) ∙ simp append_assoc refl)
