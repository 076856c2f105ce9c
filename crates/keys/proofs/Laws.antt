-- A number past 128 bits stays so; where all digits are read; the four steps together.
use Rattle.std.proofs.Common.{◌≡◌, ℕ, suc, ◌+◌, ◌-◌, ◌*◌, ◌^◌, ◌≤◌, ◌<◌, Bool, true, false, List, [], ◌∷◌, Option, None, option_map, length, get_or, drop, eqb, refl, sym, ap, ◌∙◌, arith, add-one, drop-cons, le_trans}
use borrow.Author.Tests.{le-ltb, eqb-true}
use Rattle.inty.proofs.Laws.{was_out}
use Rattle.inty.specs.Value.{value_of, bounded}
use Rattle.inty.specs.declared.Inty.{Inty}
use Rattle.keys.specs.Read.{is_digit, strip, sign, number, digits, overflow, read_key}

-- a suffix that is not empty is a byte and the next suffix
uncons : (s : List ℕ) (i : ℕ) → i < length s → drop i s ≡ get_or s i 0 ∷ drop (i + 1) s
uncons s i h = rw (add-one, drop-cons s i 0)

-- digits only make a number larger, so one that is past 128 bits stays so
past : (a : ℕ) (s : List ℕ) → 2 ^ 128 ≤ a → overflow (number a s) ≡ None
past a [] f = simp (le-ltb a (2 ^ 128) f)
past a (c ∷ s) f = go (is_digit c) refl (past (10 * a + (c - 48)) s (le_trans f (more a (c - 48))))
  where
    more : (a d : ℕ) → a ≤ 10 * a + d
    more a d = omega arith

    go : (t : Bool) → is_digit c ≡ t → overflow (number (10 * a + (c - 48)) s) ≡ None → overflow (number a (c ∷ s)) ≡ None
    go true e ih = simp e ih
    go false e ih = simp e

-- the bytes from i on, after the digits that made a; k is what the key reads as
module _ (s : List ℕ) (i a : ℕ) (k : Option ℕ) (g : overflow (number a (drop i s)) ≡ k) where
  pub digit_over : (t : Bool) (r : Option Inty) → i < length s → t ≡ is_digit (get_or s i 0) → t ≡ true
      → option_map value_of r ≡ bounded (10 * a + (get_or s i 0 - 48)) → r ≡ None → None ≡ k
  digit_over t r h e f p q =
      let on : overflow (number (10 * a + (get_or s i 0 - 48)) (drop (i + 1) s)) ≡ k = sym (ap (λ (l : List ℕ). overflow (number a l)) (uncons s i h) ∙ simp (sym e ∙ f)) ∙ g in
      sym (past _ (drop (i + 1) s) (was_out _ (ap (option_map value_of) (sym q) ∙ p))) ∙ on

-- ---- the four steps together
module _ (s j d : List ℕ) (e : j ≡ strip s) (f : d ≡ sign j) where
  from_start : overflow (digits d) ≡ read_key s
  unfolding read_key
  from_start = ap (λ (l : List ℕ). overflow (digits l)) (f ∙ ap sign e)

  pub key_read : (t : Bool) (r : Option ℕ) → t ≡ eqb (length d) 0 → t ≡ false → r ≡ overflow (number 0 d) → r ≡ read_key s
  key_read t r g h k = k ∙ go d (sym g ∙ h) ∙ from_start
    where
      go : (l : List ℕ) → eqb (length l) 0 ≡ false → overflow (number 0 l) ≡ overflow (digits l)
      go [] n = cc
      go (x ∷ xs) n = refl

  pub key_empty : (t : Bool) → t ≡ eqb (length d) 0 → t ≡ true → None ≡ read_key s
  key_empty t g h = go d (sym g ∙ h) ∙ from_start
    where
      go : (l : List ℕ) → eqb (length l) 0 ≡ true → None ≡ overflow (digits l)
      go [] n = refl
      go (x ∷ xs) n = let z : suc (length xs) ≡ 0 = eqb-true (suc (length xs)) 0 n in absurd (omega arith)
