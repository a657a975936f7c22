-- Steps of the writers of hex digits.
use Rattle.std.proofs.Common.{◌≡◌, ℕ, zero, suc, ◌+◌, ◌-◌, ◌*◌, ◌/◌, ◌%◌, ◌^◌, ◌<◌, ◌≤◌, List, [], ◌∷◌, ◌++◌, Bool, true, false, cond, eqb, ltb, length, take, drop, refl, sym, ap, ◌∙◌, arith, append_assoc, length-append, take-append-drop, ◌⊎◌, inl, inr}
use Rattle.std.proofs.Math.ListN.{set}
use Rattle.std.proofs.lemmas.List.{append-nil, drop-set, length-drop, take_at, take_all}
use Rattle.std.proofs.Math.Nat.{pow-suc, div-lt_iff_lt-mul}
use Rattle.std.specs.Fmt.{digits, digits_onto, digit_glyph}
use borrow.Author.Tests.{eq-eqb, ne_eqb}
use Rattle.std.specs.Str.{IsAscii}
use Rattle.std.proofs.lemmas.Str.{IsAscii-append}
use Rattle.std.proofs.lemmas.Str.Ascii.{IsAscii-nil}
use Rattle.pg_types.specs.Names.{fixed_hex, segment_name_text}

-- a digit is written at the place in front of `start + places`
written : (start places y : ℕ) (xs : List ℕ) → 0 < places → start + places ≤ length xs → drop (start + (places - 1)) (set xs (start + (places - 1)) y) ≡ y ∷ drop (start + places) xs
written start places y xs some room =
    drop-set xs (start + (places - 1)) y (omega arith) ∙ ap (λ (k : ℕ). y ∷ drop k xs) {x = start + (places - 1) + 1} {y = start + places} (omega arith)

split : (count n : ℕ) (rest : List ℕ) → 0 < count → fixed_hex count n ++ rest ≡ fixed_hex (count - 1) (n / 16) ++ (digit_glyph true (n % 16) ∷ rest)
unfolding fixed_hex
split zero n rest h = absurd (omega arith)
split (suc count) n rest h = append_assoc (fixed_hex count (n / 16)) (digit_glyph true (n % 16) ∷ []) rest ∙ ap (λ (k : ℕ). fixed_hex k (n / 16) ++ (digit_glyph true (n % 16) ∷ rest)) {x = count} {y = suc count - 1} (omega arith)

pub fixed_hex_step : (start places n y : ℕ) (xs all : List ℕ) → 0 < places → start + places ≤ length xs → y ≡ digit_glyph true (n % 16) → fixed_hex places n ++ drop (start + places) xs ≡ all → fixed_hex (places - 1) (n / 16) ++ drop (start + (places - 1)) (set xs (start + (places - 1)) y) ≡ all
fixed_hex_step start places n y xs all some room is all_is =
    ap (λ (rest : List ℕ). fixed_hex (places - 1) (n / 16) ++ rest) (written start places y xs some room) ∙ (ap (λ (d : ℕ). fixed_hex (places - 1) (n / 16) ++ (d ∷ drop (start + places) xs)) is ∙ (sym (split places n (drop (start + places) xs) some) ∙ all_is))

-- one more digit of those without leading zeros, and the last one
step : (count n : ℕ) (b : Bool) (acc : List ℕ) → 0 < count → eqb (n / 16) 0 ≡ b → digits_onto count 16 true n acc ≡ cond b (digit_glyph true (n % 16) ∷ acc) (digits_onto (count - 1) 16 true (n / 16) (digit_glyph true (n % 16) ∷ acc))
step zero n b acc some is = absurd (omega arith)
step (suc count) n b acc some is =
    ap (λ (v : Bool). cond v (digit_glyph true (n % 16) ∷ acc) (digits_onto count 16 true (n / 16) (digit_glyph true (n % 16) ∷ acc))) is
    ∙ ap (λ (k : ℕ). cond b (digit_glyph true (n % 16) ∷ acc) (digits_onto k 16 true (n / 16) (digit_glyph true (n % 16) ∷ acc))) {x = count} {y = suc count - 1} (omega arith)

pub hex_step : (start places n y : ℕ) (xs all : List ℕ) → 0 < places → start + places ≤ length xs → y ≡ digit_glyph true (n % 16) → (n / 16 ≡ 0 → ⊥) → digits_onto (56 + places) 16 true n (drop (start + places) xs) ≡ all → digits_onto (56 + (places - 1)) 16 true (n / 16) (drop (start + (places - 1)) (set xs (start + (places - 1)) y)) ≡ all
hex_step start places n y xs all some room is more all_is =
    ap (λ (rest : List ℕ). digits_onto (56 + (places - 1)) 16 true (n / 16) rest) (written start places y xs some room)
    ∙ (ap (λ (d : ℕ). digits_onto (56 + (places - 1)) 16 true (n / 16) (d ∷ drop (start + places) xs)) is
    ∙ (ap (λ (k : ℕ). digits_onto k 16 true (n / 16) (digit_glyph true (n % 16) ∷ drop (start + places) xs)) {x = 56 + (places - 1)} {y = 56 + places - 1} (omega arith)
    ∙ (sym (step (56 + places) n false (drop (start + places) xs) (omega arith) (ne_eqb _ 0 more)) ∙ all_is)))

pub hex_last : (start places n y : ℕ) (xs all : List ℕ) → 0 < places → start + places ≤ length xs → y ≡ digit_glyph true (n % 16) → n / 16 ≡ 0 → digits_onto (56 + places) 16 true n (drop (start + places) xs) ≡ all → drop (start + (places - 1)) (set xs (start + (places - 1)) y) ≡ all
hex_last start places n y xs all some room is last all_is =
    written start places y xs some room
    ∙ (ap (λ (d : ℕ). d ∷ drop (start + places) xs) is
    ∙ (sym (step (56 + places) n true (drop (start + places) xs) (omega arith) (eq-eqb _ 0 last)) ∙ all_is))

-- digits with an end that follows them
onto_append : (count n : ℕ) (acc more : List ℕ) → digits_onto count 16 true n (acc ++ more) ≡ digits_onto count 16 true n acc ++ more
onto_append zero n acc more = refl
onto_append (suc count) n acc more = by (eqb (n / 16) 0) (onto_append count (n / 16) (digit_glyph true (n % 16) ∷ acc) more)
  where
    by : (b : Bool) → digits_onto count 16 true (n / 16) (digit_glyph true (n % 16) ∷ (acc ++ more)) ≡ digits_onto count 16 true (n / 16) (digit_glyph true (n % 16) ∷ acc) ++ more → cond b (digit_glyph true (n % 16) ∷ (acc ++ more)) (digits_onto count 16 true (n / 16) (digit_glyph true (n % 16) ∷ (acc ++ more))) ≡ cond b (digit_glyph true (n % 16) ∷ acc) (digits_onto count 16 true (n / 16) (digit_glyph true (n % 16) ∷ acc)) ++ more
    by true later = refl
    by false later = later

pub digits_before : (n : ℕ) (more : List ℕ) → digits_onto 64 16 true n more ≡ digits 16 true n ++ more
unfolding digits
digits_before n more = onto_append 64 n [] more

pub fixed_hex_all : (start places n : ℕ) (xs front rest : List ℕ) → places ≤ 0 → take start xs ≡ front → fixed_hex places n ++ drop (start + places) xs ≡ rest → xs ≡ front ++ rest
unfolding fixed_hex
fixed_hex_all start zero n xs front rest none front_is rest_is =
    sym (take-append-drop start xs) ∙ (ap (λ (ys : List ℕ). ys ++ drop start xs) front_is ∙ (ap (λ (k : ℕ). front ++ drop k xs) {x = start} {y = start + 0} (omega arith) ∙ ap (λ (ys : List ℕ). front ++ ys) rest_is))
fixed_hex_all start (suc places) n xs front rest none front_is rest_is = absurd (omega arith)

pub length-fixed_hex : (count n : ℕ) → length (fixed_hex count n) ≡ count
unfolding fixed_hex
length-fixed_hex zero n = refl
length-fixed_hex (suc count) n = length-append (fixed_hex count (n / 16)) (digit_glyph true (n % 16) ∷ []) ∙ omega (arith, length-fixed_hex count (n / 16))

-- the room that is left falls with each digit, and does not end before the digits
pub room_falls : (places n : ℕ) → 0 < places → n < 16 ^ places → n / 16 < 16 ^ (places - 1)
room_falls zero n some small = absurd (omega arith)
room_falls (suc places) n some small =
    let less : n < 16 ^ places * 16 = rw (← pow-suc 16 places) small in
    let here : n / 16 < 16 ^ places = (div-lt_iff_lt-mul {k = 16} {x = n} {y = 16 ^ places} (omega arith)).1 less in
    let e : suc places - 1 ≡ places = omega arith in rw e here

pub room_left : (places n : ℕ) → places ≤ 0 → n < 16 ^ places → (0 < places) ⊎ (0 < n) → ⊥
room_left zero n none small some = elim some [ inl h ↦ omega arith | inr h ↦ omega arith ]
room_left (suc places) n none small some = absurd (omega arith)

-- three times eight digits, each written behind those before it
pub three_written : (a b c t1 t2 t3 d1 d2 d3 : List ℕ) → length a ≡ 8 → length b ≡ 8 → length c ≡ 8 → length t3 ≡ 24 → t1 ≡ a ++ d1 → t2 ≡ take 8 t1 ++ b ++ d2 → t3 ≡ take 16 t2 ++ c ++ d3 → t3 ≡ a ++ b ++ c
three_written a b c t1 t2 t3 d1 d2 d3 la lb lc lt e1 e2 e3 =
    let front1 : take 8 t1 ≡ a = ap (take 8) e1 ∙ take_at a d1 8 la in
    let second : t2 ≡ (a ++ b) ++ d2 = e2 ∙ ap (λ (xs : List ℕ). xs ++ b ++ d2) front1 in
    let both : length (a ++ b) ≡ 16 = length-append a b ∙ omega arith in
    let front2 : take 16 t2 ≡ a ++ b = ap (take 16) second ∙ take_at (a ++ b) d2 16 both in
    let third : t3 ≡ (a ++ b ++ c) ++ d3 = e3 ∙ ap (λ (xs : List ℕ). xs ++ c ++ d3) front2 in
    let all : length (a ++ b ++ c) ≡ 24 = length-append (a ++ b) c ∙ omega arith in
    sym (take_all 24 t3 (omega arith)) ∙ (ap (take 24) third ∙ take_at (a ++ b ++ c) d3 24 all)

-- the digits of both halves around the slash
pub both_written : (low high : ℕ) (t1 t2 hi lo : List ℕ) → 9 ≤ low → low < 17 → length t1 ≡ 17 → length t2 ≡ 17 → drop low t1 ≡ lo ++ [] → drop high t2 ≡ hi ++ drop (low - 9 + 8) (set t1 (low - 1) 47) → take (17 - high) (drop high t2) ≡ hi ++ 47 ∷ lo
both_written low high t1 t2 hi lo above below long1 long2 low_is high_is =
    let slash : drop (low - 9 + 8) (set t1 (low - 1) 47) ≡ 47 ∷ lo =
    ap (λ (k : ℕ). drop k (set t1 (low - 1) 47)) {x = low - 9 + 8} {y = low - 1} (omega arith)
    ∙ (drop-set t1 (low - 1) 47 (omega arith)
    ∙ (ap (λ (k : ℕ). 47 ∷ drop k t1) {x = low - 1 + 1} {y = low} (omega arith)
    ∙ ap (λ (xs : List ℕ). 47 ∷ xs) (low_is ∙ append-nil lo)))
    in
    take_all (17 - high) (drop high t2) (omega (arith, length-drop high t2)) ∙ (high_is ∙ ap (λ (xs : List ℕ). hi ++ xs) slash)

-- the digits are ASCII
glyph_IsAscii : (d : ℕ) → d < 16 → IsAscii (digit_glyph true d ∷ [])
glyph_IsAscii d small zero = by (ltb d 10)
  where
    by : (b : Bool) → cond b (48 + d) (55 + d) < 128
    by true = omega arith
    by false = omega arith
glyph_IsAscii d small (suc i) = omega arith

fixed_hex_IsAscii : (count n : ℕ) → IsAscii (fixed_hex count n)
unfolding fixed_hex
fixed_hex_IsAscii zero n = IsAscii-nil
fixed_hex_IsAscii (suc count) n = IsAscii-append (fixed_hex count (n / 16)) (digit_glyph true (n % 16) ∷ []) (fixed_hex_IsAscii count (n / 16)) (glyph_IsAscii (n % 16) (omega arith))

pub segment_name_IsAscii : (tli segment size : ℕ) → IsAscii (segment_name_text tli segment size)
unfolding segment_name_text
segment_name_IsAscii tli segment size =
    let per = 2 ^ 32 / size in
    IsAscii-append (fixed_hex 8 tli ++ fixed_hex 8 (segment / per)) (fixed_hex 8 (segment % per)) (IsAscii-append (fixed_hex 8 tli) (fixed_hex 8 (segment / per)) (fixed_hex_IsAscii 8 tli) (fixed_hex_IsAscii 8 (segment / per))) (fixed_hex_IsAscii 8 (segment % per))
