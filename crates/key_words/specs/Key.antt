-- Trusted: the bytes that a key of seven words stands for, on any words. How it is packed is a bridge, tied by
-- proofs/Laws.
use Rattle.std.specs.Prelude.{◌≡◌, Bool, List, [], ◌∷◌, ◌++◌, ℕ, zero, suc, ◌+◌, ◌*◌, ◌/◌, ◌%◌, ◌≤◌, min, leb, length, get_or, take, replicate, if◌then◌else◌}
use Rattle.std.specs.Prelude.{Option, None, Some}
use Rattle.words.specs.Tab.{words_from}
use Rattle.words.specs.Writes.{writes}
use Rattle.ids.specs.Limits.{key_bytes}
use Rattle.keys.specs.Same.{same_bytes}
use Rattle.key_words.specs.declared.Key.{Key}

-- ---- words

abbrev pub words_of : Key → List ℕ
words_of k = k.len ∷ k.w0 ∷ k.w1 ∷ k.w2 ∷ k.w3 ∷ k.w4 ∷ k.w5 ∷ []

abbrev pub key_of : List ℕ → Key
key_of w = record { len = get_or w 0 0; w0 = get_or w 1 0; w1 = get_or w 2 0; w2 = get_or w 3 0; w3 = get_or w 4 0; w4 = get_or w 5 0; w5 = get_or w 6 0 }

-- the key at word at
unfoldable pub key_at : List ℕ → ℕ → Key
key_at s at = key_of (words_from 7 s at)

-- the same words
unfoldable pub same_key : Key → Key → Bool
same_key a b = same_bytes (words_of a) (words_of b)

-- ---- bytes

-- n bytes from at on as a number, the lowest first, and the n lowest bytes of a number
abbrev pub le_word : ℕ → List ℕ → ℕ → ℕ
le_word zero s at = 0
le_word (suc n) s at = get_or s at 0 + 256 * le_word n s (at + 1)

abbrev pub le_bytes : ℕ → ℕ → List ℕ
le_bytes zero v = []
le_bytes (suc n) v = v % 256 ∷ le_bytes n (v / 256)

unfoldable pub pack_of : List ℕ → Key
pack_of k = record { len = length k; w0 = le_word 8 k 0; w1 = le_word 8 k 8; w2 = le_word 8 k 16; w3 = le_word 8 k 24; w4 = le_word 8 k 32; w5 = le_word 8 k 40 }

-- the 48 bytes of the six words, and as many of them as the length says
unfoldable pub all_bytes : Key → List ℕ
all_bytes k = le_bytes 8 k.w0 ++ le_bytes 8 k.w1 ++ le_bytes 8 k.w2 ++ le_bytes 8 k.w3 ++ le_bytes 8 k.w4 ++ le_bytes 8 k.w5

unfoldable pub unpack_of : Key → List ℕ
unpack_of k = take (min k.len 48) (all_bytes k)

-- whether the words are those of some bytes
abbrev pub is_packed : Key → Bool
is_packed k = same_key (pack_of (unpack_of k)) k

-- The bytes of a key. Any other seven words are a key that no bytes are: it shows as 49 numbers, and two of them alike
-- only where the words are.
unfoldable pub bytes_of : Key → List ℕ
bytes_of k = if is_packed k then unpack_of k else words_of k ++ replicate 42 0

-- ---- what the answers say

abbrev pub at_most_48 : List ℕ → Option (List ℕ)
at_most_48 b = if leb (length b) key_bytes then Some b else None

abbrev pub bytes_in : Option ℕ → List ℕ → Option (List ℕ)
bytes_in (Some n) t = Some (take n t)
bytes_in None t = None

abbrev pub size_in : Option ℕ → ℕ
size_in (Some n) = n
size_in None = 0

-- 48 bytes are stored, and the key's own are the first of them
pub record Unpacks (k : Key) (s t : List ℕ) (r : Option ℕ) : Type 0 where
  pub stored : t ≡ writes s 0 (all_bytes k)
  pub told : bytes_in r t ≡ at_most_48 (bytes_of k)
  pub few : size_in r ≤ 48
