-- Trusted: `key.trim_start_matches(['k', 'K']).parse::<u128>()` in four steps, each from Rust's library page, over the
-- bytes of the key.
use Rattle.std.specs.Prelude.{ℕ, ◌+◌, ◌-◌, ◌*◌, Bool, ◌&&◌, ◌||◌, List, [], ◌∷◌, leb, eqb, if◌then◌else◌}
use Rattle.std.specs.Prelude.{Option, None, Some}
use Rattle.words.specs.Choice.{if_none◌then◌else◌}
use Rattle.inty.specs.Value.{bounded}

-- 1. Strip. `trim_start_matches`: "all prefixes that match a pattern repeatedly removed", here each leading k and K
abbrev pub is_k : ℕ → Bool
is_k c = eqb c 107 || eqb c 75

abbrev pub strip : List ℕ → List ℕ
strip [] = []
strip (c ∷ s) = if is_k c then strip s else c ∷ s

-- 2. Sign. `parse`: "an optional + sign"
abbrev pub sign : List ℕ → List ℕ
sign [] = []
sign (c ∷ s) = if eqb c 43 then s else c ∷ s

-- 3. Digits. "followed by only digits": an empty text (`Empty`) and any other byte (`InvalidDigit`) are errors
abbrev pub is_digit : ℕ → Bool
is_digit c = leb 48 c && leb c 57

-- the number that digits stand for, after those that made a
abbrev pub number : ℕ → List ℕ → Option ℕ
number a [] = Some a
number a (c ∷ s) = if is_digit c then number (10 * a + (c - 48)) s else None

abbrev pub digits : List ℕ → Option ℕ
digits [] = None
digits (c ∷ s) = number 0 (c ∷ s)

-- 4. Overflow. "Integer is too large to store in target integer type" (`PosOverflow`), here 128 bits
abbrev pub overflow : Option ℕ → Option ℕ
overflow n = if_none n then None else bounded

unfoldable pub read_key : List ℕ → Option ℕ
read_key key = overflow (digits (sign (strip key)))
