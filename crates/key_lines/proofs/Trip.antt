-- What is written in decimal reads back: each of the two definitions checks the other.
use mathlib.Core.Path.{◌≡◌, refl, sym, ap, ◌∙◌}
use mathlib.Core.Bool.{Bool, true, false}
use mathlib.Core.List.{List, [], ◌∷◌, ◌++◌}
use Rattle.std.specs.Prelude.{None, Some}
use Prim.Native.Nat.{ℕ, zero, suc, ◌+◌, ◌-◌, ◌*◌, ◌/◌, ◌%◌, ◌^◌, ◌≤◌, ◌<◌}
use native.Mathlib.Nat.{le_refl}
use native.Mathlib.Omega.{arith}
use borrow.Author.Tests.{lt-ltb, le-leb, ne_eqb}
use Rattle.keys.specs.Read.{is_digit, strip, sign, number, digits, read_key}
use Rattle.key_lines.proofs.Short.{digit_from, digit_to}
use Rattle.decimal.specs.Digits.{decimal}
use Rattle.decimal.proofs.Laws.{one_digit, more_digits}

digit_is : (d : ℕ) → d < 10 → is_digit (48 + d) ≡ true
digit_is d h =
    let f : 48 ≤ 48 + d = omega arith in
    let g : 48 + d ≤ 57 = omega arith in
    simp (le-leb 48 (48 + d) f, le-leb (48 + d) 57 g)

-- one digit more
number_snoc : (a : ℕ) (s : List ℕ) (n d : ℕ) → number a s ≡ Some n → d < 10 → number a (s ++ ((48 + d) ∷ [])) ≡ Some (10 * n + d)
number_snoc a [] n d e h =
    let v : a ≡ n = cc in
    let w : 48 + d - 48 ≡ d = omega arith in
    simp (digit_is d h, w, v)
number_snoc a (c ∷ s) n d e h = go (is_digit c) refl (number_snoc (10 * a + (c - 48)) s n d)
  where
    go : (t : Bool) → is_digit c ≡ t → (number (10 * a + (c - 48)) s ≡ Some n → d < 10 → number (10 * a + (c - 48)) (s ++ ((48 + d) ∷ [])) ≡ Some (10 * n + d))
        → number a (c ∷ (s ++ ((48 + d) ∷ []))) ≡ Some (10 * n + d)
    go true p ih = simp p (ih (simp p at e) h)
    go false p ih = let q : None ≡ Some n = simp p at e in cc

number_is : (f n : ℕ) → n < f → number 0 (decimal n) ≡ Some n
number_is zero n h = absurd (omega arith)
number_is (suc f) n h = go (λ p. number_is f (n / 10) p) (n / 10) refl
  where
    go : (n / 10 < f → number 0 (decimal (n / 10)) ≡ Some (n / 10)) → (q : ℕ) → n / 10 ≡ q → number 0 (decimal n) ≡ Some n
    go ih zero e =
        let v : 10 * 0 + n % 10 ≡ n = omega arith in
        ap (number 0) (one_digit n e) ∙ (number_snoc 0 [] 0 (n % 10) refl (omega arith) ∙ ap Some v)
    go ih (suc q) e =
        let v : 10 * (n / 10) + n % 10 ≡ n = omega arith in
        ap (number 0) (more_digits n (λ z. omega (arith, e))) ∙ (number_snoc 0 (decimal (n / 10)) (n / 10) (n % 10) (ih (omega (arith, e))) (omega arith) ∙ ap Some v)

-- digits have nothing to strip and no sign
plain : (s : List ℕ) (n : ℕ) → number 0 s ≡ Some n → (s ≡ [] → ⊥) → digits (sign (strip s)) ≡ Some n
plain [] n e z = absurd (z refl)
plain (c ∷ s) n e z = go (is_digit c) refl
  where
    go : (t : Bool) → is_digit c ≡ t → digits (sign (strip (c ∷ s))) ≡ Some n
    go true p =
        let f : 48 ≤ c = digit_from c p in
        let g : c ≤ 57 = digit_to c p in
        let k : c ≡ 107 → ⊥ = λ x. omega arith in
        let l : c ≡ 75 → ⊥ = λ x. omega arith in
        let m : c ≡ 43 → ⊥ = λ x. omega arith in
        simp (ne_eqb c 107 k, ne_eqb c 75 l, ne_eqb c 43 m) e
    go false p = let q : None ≡ Some n = simp p at e in cc

some_digit : (n : ℕ) → decimal n ≡ [] → ⊥
some_digit n e = go (n / 10) refl
  where
    snoc : (s : List ℕ) (c : ℕ) → s ++ (c ∷ []) ≡ [] → ⊥
    snoc [] c e = let z : ◌≡◌ {A = ℕ} 0 1 = cc in omega arith
    snoc (x ∷ s) c e = let z : ◌≡◌ {A = ℕ} 0 1 = cc in omega arith

    go : (q : ℕ) → n / 10 ≡ q → ⊥
    go zero p = snoc [] _ (sym (one_digit n p) ∙ e)
    go (suc q) p = snoc (decimal (n / 10)) _ (sym (more_digits n (λ z. omega (arith, p))) ∙ e)

pub read_back : (n : ℕ) → n < 2 ^ 128 → read_key (decimal n) ≡ Some n
unfolding read_key
read_back n h = rw (plain (decimal n) n (number_is (suc n) n (le_refl (suc n))) (some_digit n)) (simp (lt-ltb n (2 ^ 128) h))
