-- What a word of a case writes.
use Rattle.std.specs.Prelude.{◌≡◌, ◌⊎◌, ◌∷◌, ℕ, List}
use Rattle.std.specs.Str.Parse.{IsNumeral, digits_value, without_leading_plus}

-- a numeral in the radix, before which a plus may stand, of the number n
abbrev pub WritesIn : ℕ → List ℕ → ℕ → Type 0
WritesIn radix text n = IsNumeral radix (without_leading_plus text) × (n ≡ digits_value radix (without_leading_plus text))

-- a decimal numeral, or a hexadecimal one behind the two characters 0x
abbrev pub Writes : List ℕ → ℕ → Type 0
Writes text n = WritesIn 10 text n ⊎ ((digits : List ℕ) × (text ≡ 48 ∷ 120 ∷ digits) × WritesIn 16 digits n)
