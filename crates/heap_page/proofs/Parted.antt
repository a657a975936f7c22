-- What is read of a block in two parts.
use Rattle.std.proofs.Common.{◌≡◌, ℕ, zero, suc, ◌+◌, ◌-◌, ◌≤◌, ◌<◌, min, Bool, true, false, ◌&&◌, ◌||◌, ◌==◌, List, [], ◌∷◌, ◌++◌, length, get_or, take, drop, replicate, refl, sym, ap, ◌∙◌, arith}
use Rattle.std.proofs.lemmas.Bool.{eq-eqb}
use Rattle.std.proofs.lemmas.List.{append-nil, drop_min, get_or-append_right, get_or-drop, get_or-replicate, get_or-take, get_or_append_left, length-append, length-drop, length-replicate, length-take, length-take-le, take_min}
use Rattle.std.proofs.lemmas.List.Folds.{list_all-append}
use Rattle.std.proofs.lemmas.Grind.{same_number_lists}
use Rattle.pg_types.specs.Numbers.{number_at}
use Rattle.heap_page.specs.Joined.{joined}
use Rattle.heap_page.specs.Page.{is_laid, is_page, is_zeros}
use Rattle.heap_page.specs.Put.{restored}
use Rattle.heap_page.proofs.Written.{number_at-moved}
use Rattle.std.proofs.Math.Bool.{and-true}
use Rattle.heap_page.proofs.Restored.{all-zeros}

pub parted_page : (page : List ℕ) (r : Bool) → length page ≡ 8192 → r ≡ (is_zeros page || is_laid page) → r ≡ is_page page
unfolding is_page
parted_page page r size is = rw (eq-eqb (length page) 8192 size) is

-- a block that has no second part
pub joined_whole : (page : List ℕ) → length page ≡ 8192 → joined page [] ≡ page
unfolding joined
joined_whole page size =
    let none : 8192 - (length page + 0) ≡ 0 = omega (arith, size) in
    ap (λ (n : ℕ). page ++ replicate n 0 ++ []) none ∙ (append-nil (page ++ []) ∙ append-nil page)

pub joined_image : (hole at : ℕ) (bytes first rest : List ℕ) → at ≡ min hole (length bytes) → first ≡ take at bytes → rest ≡ drop at bytes → joined first rest ≡ restored hole bytes
unfolding joined restored
joined_image hole at bytes first rest is front back =
    let f : first ≡ take hole bytes = front ∙ ap (λ n. take n bytes) is ∙ take_min hole bytes in
    let r : rest ≡ drop hole bytes = back ∙ ap (λ n. drop n bytes) is ∙ drop_min hole bytes in
    let n : length first + length rest ≡ length bytes = omega (arith, ap length f, ap length r, length-take hole bytes, length-drop hole bytes) in
    ap (λ k. first ++ replicate (8192 - k) 0 ++ rest) n
    ∙ ap (λ xs. xs ++ replicate (8192 - length bytes) 0 ++ rest) f
    ∙ ap (λ xs. take hole bytes ++ replicate (8192 - length bytes) 0 ++ xs) r

part-moved : (n at to : ℕ) (xs ys : List ℕ) → at + n ≤ length xs → to + n ≤ length ys → ((i : ℕ) → i < n → get_or xs (at + i) 0 ≡ get_or ys (to + i) 0) → take n (drop at xs) ≡ take n (drop to ys)
part-moved n at to xs ys h k each =
    same_number_lists _ _ (length-take-le n (drop at xs) (omega (arith, h, length-drop at xs)) ∙ sym (length-take-le n (drop to ys) (omega (arith, k, length-drop to ys))))
    (λ i b. let inside : i < n = omega (arith, b, length-take-le n (drop at xs) (omega (arith, h, length-drop at xs))) in
    get_or-take n (drop at xs) i 0 inside ∙ (get_or-drop at xs i 0 ∙ (each i inside ∙ sym (get_or-take n (drop to ys) i 0 inside ∙ get_or-drop to ys i 0))))

module _ (first rest : List ℕ) (room : length first + length rest ≤ 8192) where
  abbrev zeros : List ℕ
  zeros = replicate (8192 - (length first + length rest)) 0

  front_size : length (first ++ zeros) ≡ 8192 - length rest
  front_size = omega (arith, room, length-append first zeros, length-replicate {A = ℕ} (8192 - (length first + length rest)) 0)

  pub size : length (joined first rest) ≡ 8192
  unfolding joined
  size = omega (arith, room, front_size, length-append (first ++ zeros) rest)

  pub front-at : (i : ℕ) → i < length first → get_or first i 0 ≡ get_or (joined first rest) i 0
  unfolding joined
  front-at i inside = sym (get_or_append_left (first ++ zeros) rest 0 i (omega (arith, inside, front_size, room)) ∙ get_or_append_left first zeros 0 i inside)

  pub rest-at : (i : ℕ) → 8192 - length rest ≤ i → get_or rest (i - (8192 - length rest)) 0 ≡ get_or (joined first rest) i 0
  unfolding joined
  rest-at i high = sym (get_or-append_right (first ++ zeros) rest (8192 - length rest) i 0 front_size high)

  pub hole-at : (i : ℕ) → length first ≤ i → i < 8192 - length rest → 0 ≡ get_or (joined first rest) i 0
  unfolding joined
  hole-at i low high = sym (get_or_append_left (first ++ zeros) rest 0 i (omega (arith, high, front_size))
      ∙ (get_or-append_right first zeros (length first) i 0 refl low ∙ get_or-replicate (8192 - (length first + length rest)) (i - length first) 0 0 (omega (arith, low, high, room))))

  pub front-number : (n at : ℕ) → at + n ≤ length first → number_at n first at ≡ number_at n (joined first rest) at
  front-number n at inside = number_at-moved n at at first (joined first rest) (λ i b. front-at (at + i) (omega (arith, b, inside)))

  moved : (at i : ℕ) → 8192 - length rest ≤ at → get_or rest (at - (8192 - length rest) + i) 0 ≡ get_or (joined first rest) (at + i) 0
  moved at i high =
      let place : at - (8192 - length rest) + i ≡ at + i - (8192 - length rest) = omega (arith, high) in
      ap (λ (k : ℕ). get_or rest k 0) place ∙ rest-at (at + i) (omega (arith, high))

  pub rest-number : (n at : ℕ) → 8192 - length rest ≤ at → number_at n rest (at - (8192 - length rest)) ≡ number_at n (joined first rest) at
  rest-number n at high = number_at-moved n (at - (8192 - length rest)) at rest (joined first rest) (λ i b. moved at i high)

  pub front-part : (n at : ℕ) → at + n ≤ length first → take n (drop at first) ≡ take n (drop at (joined first rest))
  front-part n at inside = part-moved n at at first (joined first rest) inside (omega (arith, inside, size, room)) (λ i b. front-at (at + i) (omega (arith, b, inside)))

  pub rest-part : (n at : ℕ) → 8192 - length rest ≤ at → at + n ≤ 8192 → take n (drop (at - (8192 - length rest)) rest) ≡ take n (drop at (joined first rest))
  rest-part n at high inside = part-moved n (at - (8192 - length rest)) at rest (joined first rest) (omega (arith, high, inside, room)) (omega (arith, inside, size)) (λ i b. moved at i high)

  pub are_zeros : is_zeros (joined first rest) ≡ (is_zeros first && is_zeros rest)
  unfolding joined
  are_zeros =
      list_all-append (λ byte. byte == 0) (first ++ zeros) rest
      ∙ ap (λ (b : Bool). b && is_zeros rest) (list_all-append (λ byte. byte == 0) first zeros ∙ (ap (λ (b : Bool). is_zeros first && b) (all-zeros (8192 - (length first + length rest))) ∙ and-true (is_zeros first)))

pub two_bytes : (page : List ℕ) (at a b : ℕ) → a ≡ get_or page at 0 → b ≡ get_or page (at + 1) 0 → number_at 2 (a ∷ b ∷ []) 0 ≡ number_at 2 page at
two_bytes page at a b ea eb = number_at-moved 2 0 at (a ∷ b ∷ []) page each
  where
    each : (i : ℕ) → i < 2 → get_or (a ∷ b ∷ []) (0 + i) 0 ≡ get_or page (at + i) 0
    each zero inside = ea ∙ ap (λ (k : ℕ). get_or page k 0) (let e : at ≡ at + 0 = omega arith in e)
    each (suc zero) inside = eb
    each (suc (suc i)) inside = absurd (omega (arith, inside))

pub four_bytes : (page : List ℕ) (at a b c d : ℕ) → a ≡ get_or page at 0 → b ≡ get_or page (at + 1) 0 → c ≡ get_or page (at + 2) 0 → d ≡ get_or page (at + 3) 0
    → number_at 4 (a ∷ b ∷ c ∷ d ∷ []) 0 ≡ number_at 4 page at
four_bytes page at a b c d ea eb ec ed = number_at-moved 4 0 at (a ∷ b ∷ c ∷ d ∷ []) page each
  where
    each : (i : ℕ) → i < 4 → get_or (a ∷ b ∷ c ∷ d ∷ []) (0 + i) 0 ≡ get_or page (at + i) 0
    each zero inside = ea ∙ ap (λ (k : ℕ). get_or page k 0) (let e : at ≡ at + 0 = omega arith in e)
    each (suc zero) inside = eb
    each (suc (suc zero)) inside = ec
    each (suc (suc (suc zero))) inside = ed
    each (suc (suc (suc (suc i)))) inside = absurd (omega (arith, inside))

-- each byte of a block of zeros is zero, and so is what is read past it
pub zeros_at : (n i : ℕ) → get_or {A = ℕ} (replicate n 0) i 0 ≡ 0
zeros_at zero i = refl
zeros_at (suc n) zero = refl
zeros_at (suc n) (suc i) = zeros_at n i
