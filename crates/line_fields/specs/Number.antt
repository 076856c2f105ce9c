-- Trusted: document 01, refusal 1: a number field, "digits within 64 bits". Leading zeros are digits.
use Rattle.std.specs.Prelude.{ℕ, ◌+◌, ◌-◌, ◌*◌, ◌^◌, Bool, true, false, ◌&&◌, List, [], ◌∷◌, ltb, leb, eqb, length, get_or}
use Rattle.words.specs.Text.{Bytes}

abbrev pub is_digit : ℕ → Bool
is_digit c = leb 48 c && leb c 57

unfoldable pub all_digits : Bytes → Bool
all_digits [] = true
all_digits (c ∷ s) = is_digit c && all_digits s

-- the number that digits stand for, after those that made `acc`
unfoldable pub value_from : ℕ → Bytes → ℕ
value_from acc [] = acc
value_from acc (c ∷ s) = value_from (acc * 10 + (c - 48)) s

abbrev pub value_of : Bytes → ℕ
value_of f = value_from 0 f

abbrev pub has_byte : Bytes → Bool
has_byte [] = false
has_byte (c ∷ s) = true

unfoldable pub is_number : Bytes → Bool
is_number f = has_byte f && all_digits f && ltb (value_of f) (2 ^ 64)

-- ---- all fields of a line but its name

unfoldable pub all_numbers : List Bytes → Bool
all_numbers [] = true
all_numbers (f ∷ fs) = is_number f && all_numbers fs

-- so many fields, each a number
abbrev pub numbers : ℕ → List Bytes → Bool
numbers k fs = eqb (length fs) k && all_numbers fs

-- the number of the i-th
abbrev pub number_at : List Bytes → ℕ → ℕ
number_at fs i = value_of (get_or fs i [])
