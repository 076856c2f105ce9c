-- Trusted: a sum that tells two lists of numbers apart: of the text in which each number stands in decimal behind a
-- comma. The text's bytes, each and one more, are digits to the base 257, and the sum is that number modulo a prime.
use Rattle.std.specs.Prelude.{ℕ, ◌+◌, ◌*◌, ◌%◌, List, [], ◌∷◌}
use Rattle.decimal.specs.Digits.{decimal}

abbrev pub plus_byte : ℕ → ℕ → ℕ
plus_byte sum byte = (sum * 257 + byte + 1) % 4294967291

unfoldable pub plus_bytes : ℕ → List ℕ → ℕ
plus_bytes sum [] = sum
plus_bytes sum (b ∷ bs) = plus_bytes (plus_byte sum b) bs

-- a comma and the number
abbrev pub plus_number : ℕ → ℕ → ℕ
plus_number sum n = plus_bytes (plus_byte sum 44) (decimal n)

unfoldable pub plus_numbers : ℕ → List ℕ → ℕ
plus_numbers sum [] = sum
plus_numbers sum (n ∷ ns) = plus_numbers (plus_number sum n) ns

abbrev pub sum_of : List ℕ → ℕ
sum_of ns = plus_numbers 0 ns
