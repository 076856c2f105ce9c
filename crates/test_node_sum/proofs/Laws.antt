-- The sum goes on from one list to the next, and a turn of the loops.
use mathlib.Core.Path.{◌≡◌, refl}
use mathlib.Core.List.{List, [], ◌∷◌, ◌++◌, append_assoc, append-nil}
use Prim.Native.Nat.{ℕ, zero, suc, ◌+◌, ◌/◌, ◌%◌, ◌≤◌, ◌<◌}
use native.Mathlib.Nat.{add-zero}
use native.Mathlib.Omega.{arith}
use lib.ListN.{get_or}
use Rattle.words.specs.Tab.{words_from, tab_snoc}
use Rattle.layout.specs.Layout.{slot_places}
use Rattle.decimal.specs.Digits.{decimal}
use Rattle.decimal.proofs.Laws.{one_digit, more_digits}
use Rattle.test_node_sum.specs.Sum.{plus_byte, plus_bytes, plus_number, plus_numbers}
use Rattle.test_node_sum.specs.Numbers.{slot_of, slots_of}
use Rattle.std.specs.Prelude.{fold}

bytes_append : (sum : ℕ) (xs ys : List ℕ) → plus_bytes sum (xs ++ ys) ≡ plus_bytes (plus_bytes sum xs) ys
unfolding plus_bytes
bytes_append sum [] ys = refl
bytes_append sum (x ∷ xs) ys = bytes_append (plus_byte sum x) xs ys

pub append : (sum : ℕ) (xs ys : List ℕ) → plus_numbers sum (xs ++ ys) ≡ plus_numbers (plus_numbers sum xs) ys
unfolding plus_numbers
append sum [] ys = refl
append sum (x ∷ xs) ys = append (plus_number sum x) xs ys

pub folded : (sum : ℕ) (ns : List ℕ) → fold plus_number sum ns ≡ plus_numbers sum ns
unfolding plus_numbers
folded sum [] = refl
folded sum (n ∷ ns) = folded (plus_number sum n) ns

-- ---- digits

pub digit_one : (sum n : ℕ) → n < 10 → plus_byte sum (48 + n) ≡ plus_bytes sum (decimal n)
unfolding plus_bytes
digit_one sum n h =
    let z : n / 10 ≡ 0 = omega arith in
    let e : n % 10 ≡ n = omega arith in
    rw (one_digit n z, e)

pub digit_more : (sum n : ℕ) → 10 ≤ n → plus_byte (plus_bytes sum (decimal (n / 10))) (48 + n % 10) ≡ plus_bytes sum (decimal n)
unfolding plus_bytes
digit_more sum n h =
    let z : n / 10 ≡ 0 → ⊥ = λ e. omega arith in
    rw (more_digits n z, bytes_append sum (decimal (n / 10)) ((48 + n % 10) ∷ []))

-- ---- turns of a loop

pub words_turn : (sum : ℕ) (m : List ℕ) (at i : ℕ) → plus_number (plus_numbers sum (words_from i m at)) (get_or m (at + i) 0) ≡ plus_numbers sum (words_from (i + 1) m at)
unfolding plus_numbers
words_turn sum m at i = rw (tab_snoc (λ j. get_or m j 0) at i, append sum (words_from i m at) (get_or m (at + i) 0 ∷ []))

slots_snoc : (m : List ℕ) (start i : ℕ) → slots_of m start (i + 1) ≡ slots_of m start i ++ slot_of m ((start + i) % slot_places)
unfolding slots_of
slots_snoc m start zero = rw (add-zero start, append-nil)
slots_snoc m start (suc i) =
    let a : suc i + 1 ≡ suc (i + 1) = omega arith in
    let b : start + suc i ≡ start + 1 + i = omega arith in
    rw (a, b, slots_snoc m (start + 1) i, append_assoc)

pub slots_turn : (sum : ℕ) (m : List ℕ) (start i : ℕ) → plus_numbers (plus_numbers sum (slots_of m start i)) (slot_of m ((start % slot_places + i) % slot_places)) ≡ plus_numbers sum (slots_of m start (i + 1))
slots_turn sum m start i =
    let c : (start % slot_places + i) % slot_places ≡ (start + i) % slot_places = omega arith in
    rw (c, slots_snoc m start i, append sum (slots_of m start i) (slot_of m ((start + i) % slot_places)))
