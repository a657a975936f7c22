-- A page from an image that leaves out a hole.
use Rattle.std.proofs.Common.{◌≡◌, ◌≢◌, inl, inr, ℕ, zero, suc, ◌+◌, ◌-◌, ◌<◌, ◌≤◌, true, false, List, ◌++◌, length, take, drop, get_or, replicate, refl, sym, ap, ◌∙◌, arith}
use Rattle.std.proofs.lemmas.Bool.{cases_lt, and_left, ne_eqb}
use Rattle.std.proofs.lemmas.List.{length-append, length-replicate, length-take, length-drop, get_or_append_left, get_or-append_right, get_or-replicate}
use Rattle.std.proofs.lemmas.Grind.{same_number_lists}
use Rattle.std.proofs.lemmas.Bool.Decides.{nat_tests}
use Rattle.heap_page.specs.Page.{is_page, is_zeros, IsPage}
use Rattle.heap_page.proofs.Header.{page-size}
use Rattle.heap_page.specs.Write.{written}
use Rattle.heap_page.specs.Put.{restored}
use Rattle.heap_page.proofs.Written.{length-written, get_or-written_before, get_or-written_in}

pub assembled : (old a b c first rest : List ℕ) → length old ≡ 8192 → length first + length rest ≤ 8192 → a ≡ written old 0 first → b ≡ written a (length first) (replicate (8192 - length rest - length first) 0) → c ≡ written b (8192 - length rest) rest → c ≡ first ++ replicate (8192 - (length first + length rest)) 0 ++ rest
assembled old a b c first rest size room ea eb ec =
    let gap : ℕ = 8192 - (length first + length rest) in
    let hole : ℕ = 8192 - length rest - length first in
    let mid : List ℕ = replicate gap 0 in
    let zeros : List ℕ = replicate hole 0 in
    let lz : length zeros ≡ hole = length-replicate hole 0 in
    let lm : length mid ≡ gap = length-replicate gap 0 in
    let lf : length (first ++ mid) ≡ length first + length mid = length-append first mid in
    let lw : length (first ++ mid ++ rest) ≡ length (first ++ mid) + length rest = length-append (first ++ mid) rest in
    let fa : 0 + length first ≤ length old = omega arith in
    let sa : length a ≡ 8192 = ap length ea ∙ length-written old 0 first fa ∙ size in
    let fb : length first + length zeros ≤ length a = omega arith in
    let sb : length b ≡ 8192 = ap length eb ∙ length-written a (length first) zeros fb ∙ sa in
    let fc : 8192 - length rest + length rest ≤ length b = omega arith in
    let sc : length c ≡ 8192 = ap length ec ∙ length-written b (8192 - length rest) rest fc ∙ sb in
    let at_a : (i : ℕ) → get_or a i 0 ≡ get_or (written old 0 first) i 0 = λ i. ap (λ x. get_or x i 0) ea in
    let at_b : (i : ℕ) → get_or b i 0 ≡ get_or (written a (length first) zeros) i 0 = λ i. ap (λ x. get_or x i 0) eb in
    let at_c : (i : ℕ) → get_or c i 0 ≡ get_or (written b (8192 - length rest) rest) i 0 = λ i. ap (λ x. get_or x i 0) ec in
    same_number_lists c (first ++ mid ++ rest) (omega arith)
    (λ i l. elim (cases_lt i (8192 - length rest)) [
      | inl low ↦
          at_c i ∙ get_or-written_before b (8192 - length rest) rest i low fc ∙ at_b i
          ∙ elim (cases_lt i (length first)) [
            | inl begin ↦
                get_or-written_before a (length first) zeros i begin fb ∙ at_a i
                ∙ get_or-written_in old 0 first i (omega arith) (omega arith) fa ∙ ap (λ n. get_or first n 0) (let z : i - 0 ≡ i = omega arith in z)
                ∙ sym (get_or_append_left (first ++ mid) rest 0 i (omega arith) ∙ get_or_append_left first mid 0 i begin)
            | inr behind ↦
                get_or-written_in a (length first) zeros i behind (omega arith) fb
                ∙ get_or-replicate hole (i - length first) 0 0 (omega arith)
                ∙ sym (get_or_append_left (first ++ mid) rest 0 i (omega arith)
                ∙ get_or-append_right first mid (length first) i 0 refl behind
                ∙ get_or-replicate gap (i - length first) 0 0 (omega arith))
          ]
      | inr high ↦
          at_c i ∙ get_or-written_in b (8192 - length rest) rest i high (omega arith) fc
          ∙ sym (get_or-append_right (first ++ mid) rest (8192 - length rest) i 0 (omega arith) high)
    ])

not-page : (page : List ℕ) → (length page ≢ 8192) → is_page page ≡ false
unfolding is_page
not-page page h = and_left _ _ (ne_eqb (length page) 8192 h)

length-restored : (hole : ℕ) (bytes : List ℕ) → 8192 < length bytes → 8192 < length (restored hole bytes)
unfolding restored
length-restored hole bytes long =
    let gap : List ℕ = replicate (8192 - length bytes) 0 in
    let outer = length-append (take hole bytes ++ gap) (drop hole bytes) in
    let inner = length-append (take hole bytes) gap in
    omega (arith, outer, inner, length-take hole bytes, length-drop hole bytes)

pub all-zeros : (n : ℕ) → is_zeros (replicate n 0) ≡ true
all-zeros zero = refl
all-zeros (suc n) = all-zeros n

pub long-refused : (hole : ℕ) (bytes : List ℕ) → 8192 < length bytes → false ≡ is_page (restored hole bytes)
long-refused hole bytes long =
    sym (not-page (restored hole bytes) (λ e. omega (arith, e, length-restored hole bytes long)))

pub short-image : (hole : ℕ) (bytes : List ℕ) → IsPage (restored hole bytes) → length bytes ≤ 8192
short-image hole bytes rule =
    elim (cases_lt 8192 (length bytes)) [
      | inl long ↦ absurd (omega (arith, page-size (restored hole bytes) rule, length-restored hole bytes long))
      | inr short ↦ short
    ]

-- a block of zeros is a page
pub zeros-page : (n : ℕ) → n ≡ 8192 → IsPage (replicate n 0)
unfolding is_page
zeros-page n e =
    let size : length {A = ℕ} (replicate n 0) ≡ 8192 = length-replicate n 0 ∙ e in
    let zeros : is_zeros (replicate n 0) ≡ true = all-zeros n in
    grind (arith, nat_tests, size, zeros)
