-- An answer has at most twice the bytes of its line with the newline: a number has no more digits than the key that it
-- was read from.
use mathlib.Core.Path.{◌≡◌, refl, sym, ap, ◌∙◌}
use mathlib.Core.Bool.{Bool, true, false, ◌||◌}
use mathlib.Core.List.{List, [], ◌∷◌}
use Rattle.std.specs.Prelude.{Option, None, Some}
use Prim.Native.Nat.{ℕ, suc, ◌+◌, ◌-◌, ◌*◌, ◌^◌, ◌≤◌, ◌<◌}
use native.Mathlib.Nat.{lt_of_lt_of_le, mul-le-mul_right, mul_assoc, mul_comm, one-mul, mul-one, pow-suc}
use native.Mathlib.Omega.{arith}
use lib.ListN.{length, length-append}
use lib.Dec.{leb, ltb, eqb}
use Rattle.inty.specs.Value.{bounded}
use Rattle.decimal.specs.Digits.{decimal}
use Rattle.decimal.proofs.Laws.{short}
use Rattle.keys.specs.Read.{is_k, is_digit, strip, sign, number, digits, overflow, read_key}
use Rattle.words.proofs.Tests.{and_both}
use borrow.Author.Tests.{leb-true}
use Rattle.stream_pieces.specs.Pieces.{Begun}
use Rattle.key_lines.specs.Lines.{text_of, answer_of, line_read, answer}

pub digit_from : (c : ℕ) → is_digit c ≡ true → 48 ≤ c
digit_from c e = leb-true 48 c (and_both (leb 48 c) (leb c 57) e).0

pub digit_to : (c : ℕ) → is_digit c ≡ true → c ≤ 57
digit_to c e = leb-true c 57 (and_both (leb 48 c) (leb c 57) e).1

-- digits after those that made a
number_below : (a : ℕ) (s : List ℕ) (v : ℕ) → number a s ≡ Some v → v < (a + 1) * 10 ^ length s
number_below a [] v e = let q : a ≡ v = cc in rw mul-one (omega arith)
number_below a (c ∷ s) v e = go (is_digit c) refl (number_below (10 * a + (c - 48)) s v)
  where
    ten : (a d : ℕ) → d ≤ 9 → 10 * a + d + 1 ≤ (a + 1) * 10
    ten a d h = omega arith

    go : (t : Bool) → is_digit c ≡ t → (number (10 * a + (c - 48)) s ≡ Some v → v < (10 * a + (c - 48) + 1) * 10 ^ length s) → v < (a + 1) * 10 ^ suc (length s)
    go true p ih =
        let d : c ≤ 57 = digit_to c p in
        let m : (10 * a + (c - 48) + 1) * 10 ^ length s ≤ (a + 1) * 10 * 10 ^ length s = mul-le-mul_right (10 ^ length s) (ten a (c - 48) (omega arith)) in
        let w : (a + 1) * 10 * 10 ^ length s ≡ (a + 1) * 10 ^ suc (length s) = mul_assoc (a + 1) 10 (10 ^ length s) ∙ ap (λ (k : ℕ). (a + 1) * k) (mul_comm 10 (10 ^ length s) ∙ sym (pow-suc 10 (length s))) in
        rw (← w) (lt_of_lt_of_le (ih (simp p at e)) m)
    go false p ih = let q : None ≡ Some v = simp p at e in absurd (let z : ◌≡◌ {A = ℕ} 0 1 = cc in omega arith)

digits_short : (s : List ℕ) (v : ℕ) → digits s ≡ Some v → length (decimal v) ≤ length s
digits_short [] v e = absurd (let z : ◌≡◌ {A = ℕ} 0 1 = cc in omega arith)
digits_short (c ∷ s) v e = short (length s) v (rw one-mul at (number_below 0 (c ∷ s) v e))

strip_short : (s : List ℕ) → length (strip s) ≤ length s
strip_short [] = omega arith
strip_short (c ∷ s) = go (is_k c) refl (strip_short s)
  where
    go : (t : Bool) → is_k c ≡ t → length (strip s) ≤ length s → length (strip (c ∷ s)) ≤ suc (length s)
    go true p ih = simp p (omega arith)
    go false p ih = simp p (omega arith)

sign_short : (s : List ℕ) → length (sign s) ≤ length s
sign_short [] = omega arith
sign_short (c ∷ s) = go (eqb c 43) refl
  where
    go : (t : Bool) → eqb c 43 ≡ t → length (sign (c ∷ s)) ≤ suc (length s)
    go true p = simp p (omega arith)
    go false p = simp p (omega arith)

text_short : (line : List ℕ) (o : Option ℕ) → o ≡ digits (sign (strip line)) → length (text_of (overflow o)) ≤ suc (length line)
unfolding text_of
text_short line None e = omega arith
text_short line (Some v) e = go (ltb v (2 ^ 128)) refl
  where
    go : (t : Bool) → ltb v (2 ^ 128) ≡ t → length (text_of (bounded v)) ≤ suc (length line)
    go true p = simp p (omega (arith, digits_short (sign (strip line)) v (sym e), sign_short (strip line), strip_short line))
    go false p = simp p (omega arith)

read_short : (long : Bool) (line : List ℕ) → length (text_of (line_read long line)) ≤ suc (length line)
unfolding line_read text_of read_key
read_short long line = go (long || ltb 1024 (length line)) refl
  where
    go : (t : Bool) → (long || ltb 1024 (length line)) ≡ t → length (text_of (line_read long line)) ≤ suc (length line)
    go true p = simp p (omega arith)
    go false p = simp p (text_short line (digits (sign (strip line))) refl)

pub answer_short : (b : Begun) → length (answer b) ≤ 2 * (length b.line + 1)
unfolding answer answer_of
answer_short b = omega (arith, length-append (text_of (line_read b.long b.line)) (10 ∷ []), read_short b.long b.line)
