-- The fields that are left, by a byte and by a field.
use Rattle.std.specs.Prelude.{if◌then◌else◌, Option, None, Some, Ok, Err}
use mathlib.Core.Path.{◌≡◌, refl, sym, ap, ◌∙◌}
use mathlib.Core.Bool.{Bool, true, false, not, cond, ◌&&◌}
use mathlib.Core.List.{List, [], ◌∷◌, ◌++◌, append_assoc, append-nil}
use Prim.Native.Nat.compare
use Prim.Native.Nat.{ℕ, zero, suc, ◌+◌, ◌-◌, ◌*◌, ◌^◌, ◌≤◌, ◌<◌}
use native.Mathlib.Nat.{le_refl, le_trans, sub_self, add-zero}
use native.Mathlib.Numerals.{add-one}
use native.Mathlib.Omega.{arith}
use lib.ListN.{length, get_or, take, drop, set, drop_of_length-le, length-take, length-drop, length-set}
use lib.Seq.{drop-cons, drop-drop, take-suc, take-length, get_or-drop, get_or-set_same, get_or-set_other}
use Rattle.std.specs.Prelude.{◌==◌, position}
use Rattle.std.specs.Option.{unwrap_or}
use Rattle.std.specs.List.{position_or_len}
use Rattle.std.proofs.Common.{nat_lt}
use Rattle.std.specs.Bool.{then_some}
use Rattle.std.proofs.lemmas.List.Sums.{fails_before_first, passes_at_first, prefix_len-le-length}
use lib.Dec.{leb, ltb, eqb, lit<}
use native.Mathlib.Decide.{dec_lt}
use borrow.Author.Tests.{lt-ltb, le-ltb, le-leb, lt-leb, eq-eqb, ne_eqb, eqb-true, leb-true, ltb-true, ltb-false}
use Rattle.words.specs.Text.{Bytes}
use Rattle.line_fields.specs.declared.NumberAt.{NumberAt}
use Rattle.line_fields.specs.Split.{on_first, fields_of, fields_from}
use Rattle.line_fields.specs.Number.{is_digit, all_digits, value_from, value_of, has_byte, is_number, all_numbers, numbers, number_at}
use Rattle.line_fields.specs.Reads.{none_left, between, ReadsField, number_in, FirstNumber, is_optional, FirstOptional, leading, PutsNumbers, Stops, ReadsNumbersAt}

differ : true ≡ false → ⊥
differ h = let z : ◌≡◌ {A = ℕ} 0 1 = cc in omega arith

pub not_both : {t : Bool} → t ≡ true → t ≡ false → ⊥
not_both e f = differ (sym e ∙ f)

-- ---- for the users: where the fields begin and end, and one field more

pub from_start : (s : Bytes) → fields_from s 0 ≡ fields_of s
unfolding fields_from
from_start s = let h : 0 ≤ length s = omega arith in simp (le-leb 0 (length s) h)

pub from_in : (s : Bytes) (at : ℕ) → at ≤ length s → fields_from s at ≡ fields_of (drop at s)
unfolding fields_from
from_in s at h = simp (le-leb at (length s) h)

pub from_past : (s : Bytes) (at : ℕ) → length s < at → fields_from s at ≡ []
unfolding fields_from
from_past s at h = simp (lt-leb at (length s) h)

-- a line has a field
pub some_field : (s : Bytes) → fields_of s ≡ get_or (fields_of s) 0 [] ∷ drop 1 (fields_of s)
unfolding fields_of
some_field [] = refl
some_field (c ∷ s) = go (eqb c 44) (fields_of s)
  where
    go : (t : Bool) (l : List Bytes) → ◌≡◌ {A = List Bytes} (if t then [] ∷ l else on_first c l) (get_or (if t then [] ∷ l else on_first c l) 0 [] ∷ drop 1 (if t then [] ∷ l else on_first c l))
    go true l = refl
    go false [] = refl
    go false (f ∷ fs) = refl

pub all_read : (l : List Bytes) → none_left l ≡ true → l ≡ []
all_read [] e = refl
all_read (f ∷ fs) e = absurd (differ (sym e))

pub some_left : (s : Bytes) (at : ℕ) → at ≤ length s → fields_from s at ≡ get_or (fields_from s at) 0 [] ∷ drop 1 (fields_from s at)
some_left s at h = rw (from_in s at h) (some_field (drop at s))

pub none_length : (fs : List Bytes) → none_left fs ≡ eqb (length fs) 0
none_length [] = refl
none_length (f ∷ fs) = sym (ne_eqb (length (f ∷ fs)) 0 (λ z. omega arith))

pub none_left_lem : (s : Bytes) (at : ℕ) → ltb (length s) at ≡ none_left (fields_from s at)
none_left_lem s at = go (ltb (length s) at) refl
  where
    go : (t : Bool) → ltb (length s) at ≡ t → t ≡ none_left (fields_from s at)
    go true e = rw (from_past s at (ltb-true (length s) at e))
    go false e = rw (from_in s at (ltb-false (length s) at e), some_field (drop at s))

-- ---- a byte more of the first field

-- a suffix that is not empty is a byte and the next suffix
pub uncons : (s : Bytes) (i : ℕ) → i < length s → drop i s ≡ get_or s i 0 ∷ drop (i + 1) s
uncons s i h = rw (add-one, drop-cons s i 0)

pub from_comma : (s : Bytes) (i : ℕ) → i < length s → get_or s i 0 ≡ 44 → fields_from s i ≡ [] ∷ fields_from s (i + 1)
unfolding fields_of
from_comma s i h e =
    from_in s i (omega arith) ∙ ap fields_of (uncons s i h) ∙ simp (eq-eqb (get_or s i 0) 44 e) (ap {B = List Bytes} (λ l. [] ∷ l) (sym (from_in s (i + 1) (omega arith))))

pub from_other : (s : Bytes) (i : ℕ) → i < length s → (get_or s i 0 ≡ 44 → ⊥) → fields_from s i ≡ on_first (get_or s i 0) (fields_from s (i + 1))
unfolding fields_of
from_other s i h n =
    from_in s i (omega arith) ∙ ap fields_of (uncons s i h) ∙ simp (ne_eqb (get_or s i 0) 44 n) (ap (on_first (get_or s i 0)) (sym (from_in s (i + 1) (omega arith))))

pub from_end : (s : Bytes) (i : ℕ) → i ≡ length s → fields_from s i ≡ [] ∷ fields_from s (i + 1)
unfolding fields_of
from_end s i e =
    let h : length s ≤ i = omega arith in
    from_in s i (omega arith) ∙ ap fields_of (drop_of_length-le s h) ∙ ap {B = List Bytes} (λ l. [] ∷ l) (sym (from_past s (i + 1) (omega arith)))

pub between_none : (s : Bytes) (at : ℕ) → between s at at ≡ []
between_none s at = rw (sub_self at)

pub between_more : (s : Bytes) (at i : ℕ) → at ≤ i → i < length s → between s at (i + 1) ≡ between s at i ++ (get_or s i 0 ∷ [])
between_more s at i l h =
    let e : i + 1 - at ≡ i - at + 1 = omega arith in
    let f : at + (i - at) ≡ i = omega arith in
    let k : i - at < length (drop at s) = rw length-drop (omega arith) in
    rw (e, add-one (i - at), take-suc (drop at s) (i - at) 0 k, get_or-drop at s (i - at) 0, f)

-- bytes in front of the first field, where there is one
abbrev pub onto : Bytes → List Bytes → List Bytes
onto p [] = []
onto p (f ∷ fs) = (p ++ f) ∷ fs

onto_none : (l : List Bytes) → l ≡ onto [] l
onto_none [] = refl
onto_none (f ∷ fs) = refl

-- what is passed of the first field, and the fields from there on
pub record Passed (s : Bytes) (at i : ℕ) : Type 0 where
  pub low : at ≤ i
  pub high : at < i → i ≤ length s
  pub fields : fields_from s at ≡ onto (between s at i) (fields_from s i)

pub passed_none : (s : Bytes) (at : ℕ) → Passed s at at
passed_none s at = record { low = le_refl at; high = λ h. absurd (omega arith); fields = rw (between_none s at) (onto_none (fields_from s at)) }

onto_first : (p : Bytes) (c : ℕ) (l : List Bytes) → l ≡ get_or l 0 [] ∷ drop 1 l → onto p (on_first c l) ≡ onto (p ++ (c ∷ [])) l
onto_first p c [] e = absurd (omega (arith, ap length e))
onto_first p c (f ∷ fs) e = rw append_assoc

module _ (s : Bytes) (at i : ℕ) (p : Passed s at i) where
  pub passed_more : i < length s → (get_or s i 0 ≡ 44 → ⊥) → Passed s at (i + 1)
  passed_more h n =
      let k : i + 1 ≤ length s = omega arith in
      let e = some_left s (i + 1) k in
      let g : fields_from s at ≡ onto (between s at (i + 1)) (fields_from s (i + 1)) =
      p.fields ∙ ap (onto (between s at i)) (from_other s i h n) ∙ onto_first (between s at i) (get_or s i 0) (fields_from s (i + 1)) e
      ∙ ap (λ (b : Bytes). onto b (fields_from s (i + 1))) (sym (between_more s at i p.low h)) in
      record { low = omega (arith, p.low); high = λ _. k; fields = g }

  -- the field ends at a comma, and at the end of the line
  closes : fields_from s i ≡ [] ∷ fields_from s (i + 1) → fields_from s at ≡ between s at i ∷ fields_from s (i + 1)
  closes e = p.fields ∙ ap (onto (between s at i)) e ∙ rw append-nil

  pub at_comma : i < length s → get_or s i 0 ≡ 44 → fields_from s at ≡ between s at i ∷ fields_from s (i + 1)
  at_comma h e = closes (from_comma s i h e)

  pub at_end : i ≡ length s → fields_from s at ≡ between s at i ∷ fields_from s (i + 1)
  at_end e = closes (from_end s i e)

  -- another byte is in it
  pub at_other : i < length s → (get_or s i 0 ≡ 44 → ⊥) → get_or (fields_from s at) 0 [] ≡ between s at i ++ (get_or s i 0 ∷ get_or (fields_from s (i + 1)) 0 [])
  at_other h n = ap (λ (l : List Bytes). get_or l 0 []) (p.fields ∙ ap (onto (between s at i)) (from_other s i h n)) ∙ go (fields_from s (i + 1))
    where
      go : (l : List Bytes) → get_or (onto (between s at i) (on_first (get_or s i 0) l)) 0 [] ≡ between s at i ++ (get_or s i 0 ∷ get_or l 0 [])
      go [] = refl
      go (f ∷ fs) = refl

-- ---- what field_at says

pub field_past : (s : Bytes) (at : ℕ) → length s < at → ReadsField s at (record { start = at; end = at; next = at })
field_past s at h = record { first = λ l. absurd (omega arith); past = λ _. record { stands = refl; none = from_past s at h } }

-- how many bytes stand before the first comma
abbrev to_comma : Bytes → ℕ
to_comma s = unwrap_or (position (λ c. c == 44) s) (length s)

to_comma_is : (s : Bytes) → to_comma s ≡ position_or_len (λ c. c == 44) s
to_comma_is s = go (nat_lt (position_or_len (λ c. c == 44) s) (length s)) refl
  where
    go : (t : Bool) → nat_lt (position_or_len (λ c. c == 44) s) (length s) ≡ t → unwrap_or (cond t (Some (position_or_len (λ c. c == 44) s)) None) (length s) ≡ position_or_len (λ c. c == 44) s
    go true e = refl
    go false e = omega (arith, ltb-false (position_or_len (λ c. c == 44) s) (length s) e, prefix_len-le-length (λ c. not (c == 44)) s)

-- bytes that are no comma are in the field
pub passed_all : (s : Bytes) (at n : ℕ) → at + n ≤ length s → ((k : ℕ) → k < n → get_or (drop at s) k 0 ≡ 44 → ⊥) → Passed s at (at + n)
passed_all s at zero l c = rw (add-zero at) (passed_none s at)
passed_all s at (suc n) l c =
    let e : at + suc n ≡ at + n + 1 = omega arith in
    rw e (passed_more s at (at + n) (passed_all s at n (omega arith) (λ k h. c k (omega arith))) (omega arith) (λ z. c n (omega arith) (get_or-drop at s n 0 ∙ z)))

-- up to its first comma, or to the end of the line
module _ (s : Bytes) (at n : ℕ) (o : Option ℕ) (l : at ≤ length s) (c : o ≡ position (λ c. c == 44) (take (length s - at) (drop at s))) (e : n ≡ unwrap_or o (length (take (length s - at) (drop at s)))) where
  here_comma : n ≡ position_or_len (λ c. c == 44) (drop at s)
  here_comma =
      let k : length s - at ≡ length (drop at s) = sym (length-drop at s) in
      e ∙ ap (λ (p : Option ℕ). unwrap_or p (length (take (length s - at) (drop at s)))) c ∙ ap to_comma (ap (λ (i : ℕ). take i (drop at s)) k ∙ take-length (drop at s)) ∙ to_comma_is (drop at s)

  pub comma_within : at + n ≤ length s
  comma_within = omega (arith, here_comma, prefix_len-le-length (λ c. not (c == 44)) (drop at s), length-drop at s)

  passed_bytes : Passed s at (at + n)
  passed_bytes = passed_all s at n comma_within (λ k m z. not_both (eq-eqb (get_or (drop at s) k 0) 44 z) (fails_before_first (λ c. c == 44) (drop at s) k 0 (omega (arith, here_comma))))

  closes_at : fields_from s at ≡ between s at (at + n) ∷ fields_from s (at + n + 1)
  closes_at =
      elim (dec_lt (at + n) (length s)) [
        | yes m ↦
            (let h : position_or_len (λ c. c == 44) (drop at s) < length (drop at s) = omega (arith, here_comma, length-drop at s) in
            let k : (get_or (drop at s) n 0 == 44) ≡ true = rw here_comma (passes_at_first (λ c. c == 44) (drop at s) 0 h) in
            at_comma s at (at + n) passed_bytes m (sym (get_or-drop at s n 0) ∙ eqb-true (get_or (drop at s) n 0) 44 k))
        | no m ↦ at_end s at (at + n) passed_bytes (omega (arith, comma_within))
      ]

  pub field_to : ReadsField s at (record { start = at; end = at + n; next = at + n + 1 })
  field_to = record { first = λ _. record { start = refl; low = omega arith; high = comma_within; next = refl; here = closes_at }; past = λ q. absurd (omega arith) }

-- ---- digits

-- digits after digits
digits_append : (p q : Bytes) → all_digits (p ++ q) ≡ (all_digits p && all_digits q)
unfolding all_digits
digits_append [] q = refl
digits_append (c ∷ p) q = go (is_digit c) (digits_append p q)
  where
    go : (t : Bool) → all_digits (p ++ q) ≡ (all_digits p && all_digits q) → (t && all_digits (p ++ q)) ≡ ((t && all_digits p) && all_digits q)
    go true e = e
    go false e = refl

value_append : (a : ℕ) (p q : Bytes) → value_from a (p ++ q) ≡ value_from (value_from a p) q
unfolding value_from
value_append a [] q = refl
value_append a (c ∷ p) q = value_append (a * 10 + (c - 48)) p q

-- and only make a number larger
grows : (a : ℕ) (s : Bytes) → a ≤ value_from a s
unfolding value_from
grows a [] = le_refl a
grows a (c ∷ s) = le_trans (omega arith) (grows (a * 10 + (c - 48)) s)

-- no number: nothing, a byte that is no digit, a value past 64 bits
pub none_number : is_number [] ≡ false
unfolding is_number
none_number = refl

pub other_number : (p : Bytes) (c : ℕ) (q : Bytes) → is_digit c ≡ false → is_number (p ++ (c ∷ q)) ≡ false
unfolding is_number all_digits
other_number p c q e = rw (digits_append p (c ∷ q), e) (go (has_byte (p ++ (c ∷ q))) (all_digits p) (ltb (value_of (p ++ (c ∷ q))) (2 ^ 64)))
  where
    go : (a b d : Bool) → (a && (b && false) && d) ≡ false
    go true true d = refl
    go true false d = refl
    go false b d = refl

pub over_number : (p : Bytes) (c : ℕ) (q : Bytes) → 2 ^ 64 ≤ value_of p * 10 + (c - 48) → is_number (p ++ (c ∷ q)) ≡ false
unfolding is_number value_from
over_number p c q e =
    let g : 2 ^ 64 ≤ value_of (p ++ (c ∷ q)) = rw (value_append 0 p (c ∷ q)) (le_trans e (grows (value_of p * 10 + (c - 48)) q)) in
    rw (le-ltb (value_of (p ++ (c ∷ q))) (2 ^ 64) g) (go (has_byte (p ++ (c ∷ q)) && all_digits (p ++ (c ∷ q))))
  where
    go : (a : Bool) → (a && false) ≡ false
    go true = refl
    go false = refl

pub is_number_lem : (p : Bytes) → 0 < length p → all_digits p ≡ true → value_of p < 2 ^ 64 → is_number p ≡ true
unfolding is_number
is_number_lem [] h d v = absurd (omega arith)
is_number_lem (c ∷ p) h d v = rw (d, lt-ltb (value_of (c ∷ p)) (2 ^ 64) v)

-- ---- what number_at says

length_between : (s : Bytes) (at i : ℕ) → i ≤ length s → length (between s at i) ≡ i - at
length_between s at i h = simp (length-take, length-drop) (omega arith)

-- the first field up to i is digits, of value acc
pub record Digits (s : Bytes) (at acc i : ℕ) : Type 0 where
  pub passed : Passed s at i
  pub digits : all_digits (between s at i) ≡ true
  pub value : acc ≡ value_of (between s at i)
  pub small : acc < 2 ^ 64

pub digits_none : (s : Bytes) (at : ℕ) → Digits s at 0 at
unfolding all_digits value_from
digits_none s at = record { passed = passed_none s at; digits = rw (between_none s at); value = rw (between_none s at); small = lit< tt }

pub no_first : (s : Bytes) (at : ℕ) → length s < at → is_number (get_or (fields_from s at) 0 []) ≡ false
no_first s at h = rw (from_past s at h) none_number

-- the bytes of a line from a position on
abbrev rest : Bytes → ℕ → Bytes
rest s at = take (length s - at) (drop at s)

-- by the k-th of them
module _ (s : Bytes) (at acc i k : ℕ) (p : Digits s at acc i) (e : i ≡ at + k) (l : at ≤ length s) where
  rest_is : rest s at ≡ drop at s
  rest_is = ap (λ (n : ℕ). take n (drop at s)) (sym (length-drop at s)) ∙ take-length (drop at s)

  rest_length : length (rest s at) ≡ length s - at
  rest_length = ap length rest_is ∙ length-drop at s

  byte_is : get_or (rest s at) k 0 ≡ get_or s i 0
  byte_is = ap (λ (b : Bytes). get_or b k 0) rest_is ∙ get_or-drop at s k 0 ∙ ap (λ (j : ℕ). get_or s j 0) (sym e)

  module _ (h : k < length (rest s at)) where
    inside : i < length s
    inside = omega (arith, rest_length)

    -- the first field is no number where another byte is in it
    not_by : (get_or (rest s at) k 0 ≡ 44 → ⊥) → is_number (between s at i ++ (get_or s i 0 ∷ get_or (fields_from s (i + 1)) 0 [])) ≡ false → is_number (get_or (fields_from s at) 0 []) ≡ false
    not_by n f = ap is_number (at_other s at i p.passed inside (λ z. n (byte_is ∙ z))) ∙ f

    pub other_byte : (get_or (rest s at) k 0 ≡ 44 → ⊥) → is_digit (get_or (rest s at) k 0) ≡ false → is_number (get_or (fields_from s at) 0 []) ≡ false
    other_byte n f = not_by n (other_number (between s at i) (get_or s i 0) (get_or (fields_from s (i + 1)) 0 []) (ap is_digit (sym byte_is) ∙ f))

    pub too_large : (get_or (rest s at) k 0 ≡ 44 → ⊥) → (d : ℕ) → d ≡ get_or (rest s at) k 0 - 48 → false ≡ ltb (acc * 10 + d) (2 ^ 64) → is_number (get_or (fields_from s at) 0 []) ≡ false
    too_large n d q f =
        let g : d ≡ get_or s i 0 - 48 = q ∙ ap (λ (b : ℕ). b - 48) byte_is in
        let w : 2 ^ 64 ≤ value_of (between s at i) * 10 + (get_or s i 0 - 48) = rw (← p.value, ← g) (ltb-false (acc * 10 + d) (2 ^ 64) (sym f)) in
        not_by n (over_number (between s at i) (get_or s i 0) (get_or (fields_from s (i + 1)) 0 []) w)

    pub digits_more : (get_or (rest s at) k 0 ≡ 44 → ⊥) → is_digit (get_or (rest s at) k 0) ≡ true → (d : ℕ) → d ≡ get_or (rest s at) k 0 - 48 → true ≡ ltb (acc * 10 + d) (2 ^ 64) → Digits s at (acc * 10 + d) (i + 1)
    unfolding all_digits value_from
    digits_more n f d q v =
        let b : is_digit (get_or s i 0) ≡ true = ap is_digit (sym byte_is) ∙ f in
        let g : d ≡ get_or s i 0 - 48 = q ∙ ap (λ (b : ℕ). b - 48) byte_is in
        let m = between_more s at i p.passed.low inside in
        record {
          passed = passed_more s at i p.passed inside (λ z. n (byte_is ∙ z));
          digits = ap all_digits m ∙ digits_append (between s at i) (get_or s i 0 ∷ []) ∙ rw (p.digits, b);
          value = sym (ap value_of m ∙ value_append 0 (between s at i) (get_or s i 0 ∷ []) ∙ rw (← p.value, ← g));
          small = ltb-true (acc * 10 + d) (2 ^ 64) (sym v);
        }

    pub ends_comma : get_or (rest s at) k 0 ≡ 44 → fields_from s at ≡ between s at i ∷ fields_from s (i + 1)
    ends_comma z = at_comma s at i p.passed inside (sym byte_is ∙ z)

  -- the field ends at i
  pub ends_last : length (rest s at) ≤ k → fields_from s at ≡ between s at i ∷ fields_from s (i + 1)
  ends_last h =
      let g : i ≤ length s = elim (dec_lt at i) [ yes b ↦ p.passed.high b | no b ↦ omega (arith, p.passed.low) ] in
      at_end s at i p.passed (omega (arith, rest_length))

  pub empty_first : fields_from s at ≡ between s at i ∷ fields_from s (i + 1) → i ≡ at → is_number (get_or (fields_from s at) 0 []) ≡ false
  empty_first f z = ap (λ (x : List Bytes). is_number (get_or x 0 [])) f ∙ ap (λ (j : ℕ). is_number (between s at j)) z ∙ ap is_number (between_none s at) ∙ none_number

  pub whole_first : fields_from s at ≡ between s at i ∷ fields_from s (i + 1) → (i ≡ at → ⊥) → FirstNumber s at (record { value = acc; next = i + 1 })
  whole_first f z =
      let m : at < i = omega (arith, p.passed.low) in
      let h : i ≤ length s = p.passed.high m in
      let q : get_or (fields_from s at) 0 [] ≡ between s at i = ap (λ (x : List Bytes). get_or x 0 []) f in
      let n : 0 < length (between s at i) = rw (length_between s at i h) (omega arith) in
      let v : value_of (between s at i) < 2 ^ 64 = rw (← p.value) p.small in
      record {
        good = ap is_number q ∙ is_number_lem (between s at i) n p.digits v;
        value = p.value ∙ sym (ap value_of q);
        low = omega arith;
        high = omega arith;
        here = f ∙ ap {B = List Bytes} (λ (x : Bytes). x ∷ fields_from s (i + 1)) (sym q);
      }

-- ---- what number_of says

both_first : (a b : Bool) → (a && b) ≡ true → a ≡ true
both_first true b e = refl
both_first false b e = e

both_second : (a b : Bool) → (a && b) ≡ true → b ≡ true
both_second true b e = e
both_second false b e = cc

digit_from : (c : ℕ) → is_digit c ≡ true → 48 ≤ c
digit_from c e = leb-true 48 c (both_first (leb 48 c) (leb c 57) e)

-- digits have no comma among them
whole_field : (s : Bytes) → all_digits s ≡ true → fields_of s ≡ s ∷ []
unfolding all_digits fields_of
whole_field [] e = refl
whole_field (c ∷ s) e =
    let b : is_digit c ≡ true = both_first (is_digit c) (all_digits s) e in
    let n : eqb c 44 ≡ false = ne_eqb c 44 (λ z. omega (arith, digit_from c b)) in
    rw (n, whole_field s (both_second (is_digit c) (all_digits s) e))

-- a line of one field is that field
one_field : (s f : Bytes) → fields_of s ≡ f ∷ [] → f ≡ s
unfolding fields_of
one_field [] f e = cc
one_field (c ∷ s) f e = go (eqb c 44) (fields_of s) (some_field s) (one_field s) e
  where
    go : (t : Bool) (l : List Bytes) → l ≡ get_or l 0 [] ∷ drop 1 l → ((g : Bytes) → l ≡ g ∷ [] → g ≡ s) → (if t then [] ∷ l else on_first c l) ≡ f ∷ [] → f ≡ c ∷ s
    go t [] h k e = absurd (omega (arith, ap length h))
    go true (g ∷ gs) h k e = absurd (omega (arith, ap length e))
    go false (g ∷ []) h k e = let q = k g refl in cc
    go false (g ∷ g' ∷ gs) h k e = absurd (omega (arith, ap length e))

digits_of : (s : Bytes) → is_number s ≡ true → all_digits s ≡ true
unfolding is_number
digits_of s e = both_second (has_byte s) (all_digits s) (both_first (has_byte s && all_digits s) (ltb (value_of s) (2 ^ 64)) e)

-- a number is the one field of its line
number_alone : (s : Bytes) → is_number s ≡ true → fields_from s 0 ≡ s ∷ []
number_alone s e = from_start s ∙ whole_field s (digits_of s e)

pub number_bad : (s : Bytes) → is_number (get_or (fields_from s 0) 0 []) ≡ false → None ≡ number_in s
number_bad s g = go (is_number s) refl
  where
    go : (t : Bool) → is_number s ≡ t → None ≡ (if t then Some (value_of s) else None)
    go true y = absurd (not_both (ap (λ (l : List Bytes). is_number (get_or l 0 [])) (number_alone s y) ∙ y) g)
    go false y = refl

pub number_whole : (s : Bytes) (r : NumberAt) → FirstNumber s 0 r → (t : Bool) → t ≡ none_left (fields_from s r.next) → then_some t r.value ≡ number_in s
number_whole s r a true f =
    let z : fields_from s r.next ≡ [] = all_read (fields_from s r.next) (sym f) in
    let w : get_or (fields_from s 0) 0 [] ≡ s = one_field s (get_or (fields_from s 0) 0 []) (sym (from_start s) ∙ a.here ∙ ap {B = List Bytes} (λ l. get_or (fields_from s 0) 0 [] ∷ l) z) in
    let n : is_number s ≡ true = ap is_number (sym w) ∙ a.good in
    rw n (ap Some (a.value ∙ ap value_of w))
number_whole s r a false f = go (is_number s) refl
  where
    go : (t : Bool) → is_number s ≡ t → None ≡ (if t then Some (value_of s) else None)
    go true y = let z : fields_from s r.next ≡ [] = ap (drop 1) (sym a.here ∙ number_alone s y) in absurd (differ (sym (ap none_left z) ∙ sym f))
    go false y = refl

-- ---- what optional_at says

pub past_optional : (s : Bytes) (at : ℕ) → length s < at → is_optional (fields_from s at) ≡ false
past_optional s at h = rw (from_past s at h)

empty_optional : (s : Bytes) (at : ℕ) → at ≤ length s → fields_from s at ≡ [] ∷ fields_from s (at + 1) → FirstOptional s at (record { value = None; next = at + 1 })
empty_optional s at h e = record { good = rw e; value = rw e; low = omega arith; high = omega arith; here = rw e }

pub end_optional : (s : Bytes) (at : ℕ) → at ≡ length s → FirstOptional s at (record { value = None; next = at + 1 })
end_optional s at e = empty_optional s at (omega arith) (from_end s at e)

pub comma_optional : (s : Bytes) (at : ℕ) → at < length s → get_or s at 0 ≡ 44 → FirstOptional s at (record { value = None; next = at + 1 })
comma_optional s at h e = empty_optional s at (omega arith) (from_comma s at h e)

-- a field that begins with another byte
module _ (s : Bytes) (at : ℕ) (h : at < length s) (n : get_or s at 0 ≡ 44 → ⊥) where
  some_byte : has_byte (get_or (fields_from s at) 0 []) ≡ true
  some_byte =
      let e = at_other s at at (passed_none s at) h n in
      let f : get_or (fields_from s at) 0 [] ≡ get_or s at 0 ∷ get_or (fields_from s (at + 1)) 0 [] = e ∙ ap (λ (b : Bytes). b ++ (get_or s at 0 ∷ get_or (fields_from s (at + 1)) 0 [])) (between_none s at) in
      ap has_byte f

  pub no_optional : is_number (get_or (fields_from s at) 0 []) ≡ false → is_optional (fields_from s at) ≡ false
  no_optional e = rw (some_byte, e) (go (none_left (fields_from s at)))
    where
      go : (t : Bool) → (not t && false) ≡ false
      go true = refl
      go false = refl

  pub number_optional : (r : NumberAt) → FirstNumber s at r → FirstOptional s at (record { value = Some r.value; next = r.next })
  number_optional r a =
      let l : none_left (fields_from s at) ≡ false = ap none_left a.here in
      record {
        good = rw (l, some_byte, a.good);
        value = rw some_byte (ap Some a.value);
        low = a.low;
        high = a.high;
        here = a.here;
      }

-- ---- what numbers says

pub numbers_more : (k : ℕ) (f : Bytes) (fs : List Bytes) → is_number f ≡ true → numbers (k + 1) (f ∷ fs) ≡ numbers k fs
unfolding all_numbers
numbers_more k f fs e = rw (add-one k, e) (simp compare.suc-suc)

pub numbers_other : (k : ℕ) (fs : List Bytes) → is_number (get_or fs 0 []) ≡ false → numbers (k + 1) fs ≡ false
unfolding all_numbers
numbers_other k [] e = simp (ne_eqb 0 (k + 1) (λ z. omega arith))
numbers_other k (f ∷ fs) e = rw e (go (eqb (length (f ∷ fs)) (k + 1)))
  where
    go : (t : Bool) → (t && false) ≡ false
    go true = refl
    go false = refl

pub numbers_none : (fs : List Bytes) → none_left fs ≡ numbers 0 fs
unfolding all_numbers
numbers_none [] = refl
numbers_none (f ∷ fs) = sym (simp (sym (none_length (f ∷ fs))))

-- ---- the numbers that are read, one after the other

leading_more : (k : ℕ) (fs : List Bytes) → is_number (get_or fs 0 []) ≡ true → leading (k + 1) fs ≡ leading k (drop 1 fs) + 1
unfolding leading
leading_more k fs e = rw (add-one k, add-one (leading k (drop 1 fs)), e)

leading_other : (k : ℕ) (fs : List Bytes) → is_number (get_or fs 0 []) ≡ false → leading (k + 1) fs ≡ 0
unfolding leading
leading_other k fs e = rw (add-one k, e)

leading_none : (fs : List Bytes) → leading 0 fs ≡ 0
unfolding leading
leading_none fs = refl

-- i of k numbers are read, and the others begin at next
pub record ReadSoFar (s : Bytes) (at k : ℕ) (out₀ out : List ℕ) (next i : ℕ) : Type 0 where
  pub count : i ≤ k
  pub left : fields_from s next ≡ drop i (fields_from s at)
  pub lead : leading (k - i) (fields_from s next) + i ≡ leading k (fields_from s at)
  pub values : (j : ℕ) → j < i → get_or out j 0 ≡ number_at (fields_from s at) j
  pub rest : (j : ℕ) → i ≤ j → get_or out j 0 ≡ get_or out₀ j 0
  pub size : length out ≡ length out₀
  pub stands : i ≡ 0 → next ≡ at
  pub high : 0 < i → next ≤ length s + 1

module _ (s : Bytes) (at k : ℕ) (out₀ out : List ℕ) (next i : ℕ) (p : ReadSoFar s at k out₀ out next i) where
  pub took_more : (r : NumberAt) → i < k → k ≤ length out₀ → FirstNumber s next r → ReadSoFar s at k out₀ (set out i r.value) r.next (i + 1)
  took_more r h l f =
      let z : i < length out = omega (arith, p.size) in
      let e : k - i ≡ k - (i + 1) + 1 = omega arith in
      let d : drop 1 (fields_from s next) ≡ fields_from s r.next = ap (drop 1) f.here in
      let n : leading (k - i) (fields_from s next) ≡ leading (k - (i + 1)) (fields_from s r.next) + 1 = rw e (leading_more (k - (i + 1)) (fields_from s next) f.good ∙ ap (λ (x : List Bytes). leading (k - (i + 1)) x + 1) d) in
      let w : r.value ≡ number_at (fields_from s at) i = f.value ∙ ap (λ (l : List Bytes). value_of (get_or l 0 [])) p.left ∙ rw (get_or-drop i (fields_from s at) 0 [], add-zero i) in
      let m : leading (k - (i + 1)) (fields_from s r.next) + (i + 1) ≡ leading k (fields_from s at) = omega (arith, n, p.lead) in
      record {
        count = omega arith;
        left = ap (drop 1) (sym f.here ∙ p.left) ∙ drop-drop 1 i (fields_from s at);
        lead = m;
        values = λ j b. elim (dec_lt j i) [ yes y ↦ get_or-set_other out i j r.value 0 (omega arith) ∙ p.values j y | no y ↦ (let q : j ≡ i = omega arith in rw q (get_or-set_same out i r.value 0 z ∙ w)) ];
        rest = λ j b. get_or-set_other out i j r.value 0 (omega arith) ∙ p.rest j (omega arith);
        size = length-set out i r.value ∙ p.size;
        stands = λ z. absurd (omega arith);
        high = λ _. f.high;
      }

  puts : leading k (fields_from s at) ≡ i → PutsNumbers s at k out₀ out
  puts e = record { values = rw e p.values; rest = rw e p.rest; size = p.size }

  stops : (n : ℕ) → n ≡ i → Stops s at n next
  stops n e = rw e (record { left = p.left; stands = p.stands; high = p.high })

  pub took_bad : i < k → is_number (get_or (fields_from s next) 0 []) ≡ false → ReadsNumbersAt s at k out₀ (Err next) out
  took_bad h g =
      let e : k - i ≡ k - (i + 1) + 1 = omega arith in
      let n : leading (k - i) (fields_from s next) ≡ 0 = rw e (leading_other (k - (i + 1)) (fields_from s next) g) in
      let m : leading k (fields_from s at) ≡ i = omega (arith, n, p.lead) in
      ((omega arith, stops _ m), puts m)

  pub took_all : k ≤ i → ReadsNumbersAt s at k out₀ (Ok next) out
  took_all h =
      let q : i ≡ k = omega (arith, p.count) in
      let z : k - i ≡ 0 = omega arith in
      let n : leading (k - i) (fields_from s next) ≡ 0 = rw z (leading_none (fields_from s next)) in
      let m : leading k (fields_from s at) ≡ i = omega (arith, n, p.lead) in
      ((m ∙ q, stops _ (sym q)), puts m)

-- all fields that are left are k numbers
eqb_suc : (a b : ℕ) → eqb (suc a) (suc b) ≡ eqb a b
eqb_suc a b = simp (compare.suc-suc)

exact_by : (k : ℕ) (f : Bytes) (fs : List Bytes) (b : Bool) → is_number f ≡ b → numbers k fs ≡ (eqb (leading k fs) k && none_left (drop k fs)) → numbers (suc k) (f ∷ fs) ≡ (eqb (leading (suc k) (f ∷ fs)) (suc k) && none_left (drop k fs))
unfolding leading
exact_by k f fs true e h = (rw (add-one k) at (numbers_more k f fs e)) ∙ h ∙ rw (e, eqb_suc (leading k fs) k)
exact_by k f fs false e h = (rw (add-one k) at (numbers_other k (f ∷ fs) e)) ∙ (let z : eqb 0 (suc k) ≡ false = ne_eqb 0 (suc k) (omega arith) in rw (e, z))

pub numbers_exact : (k : ℕ) (fs : List Bytes) → numbers k fs ≡ (eqb (leading k fs) k && none_left (drop k fs))
unfolding leading
numbers_exact zero fs = sym (numbers_none fs)
numbers_exact (suc k) [] = let z : eqb 0 (suc k) ≡ false = ne_eqb 0 (suc k) (omega arith) in rw (none_number, z)
numbers_exact (suc k) (f ∷ fs) = exact_by k f fs (is_number f) refl (numbers_exact k fs)
