-- Pairs are ordered by `beats`: a larger number, or an equal one with a smaller bar.
use Prim.Native.Nat.{ℕ, ◌≤◌, ◌<◌}
use mathlib.Core.Bool.{Bool, true, false, ◌&&◌, ◌||◌}
use mathlib.Core.Path.{◌≡◌, refl, sym, ◌∙◌}
use native.Mathlib.Omega.{arith}
use lib.Dec.{ltb, eqb}
use borrow.Author.Tests.{ltb-true, ltb-false, eqb-true, eqb-false, le-ltb}
use Rattle.bodega.specs.Replica.{Pair}
use Rattle.history.specs.Table.{beats}

-- p does not beat q
pub record Upto (p q : Pair) : Type 0 where
  pub number : p.number ≤ q.number
  pub bar : p.number ≡ q.number → q.bar ≤ p.bar

pub upto : (p q : Pair) → beats p q ≡ false → Upto p q
unfolding beats
upto p q = go (ltb q.number p.number) refl (eqb p.number q.number) refl (ltb p.bar q.bar) refl
  where
    go : (a : Bool) → ltb q.number p.number ≡ a → (b : Bool) → eqb p.number q.number ≡ b → (c : Bool) → ltb p.bar q.bar ≡ c → (a || (b && c)) ≡ false → Upto p q
    go true ea b eb c ec h = let z : ◌≡◌ {A = ℕ} 0 1 = cc in absurd (omega arith)
    go false ea true eb true ec h = let z : ◌≡◌ {A = ℕ} 0 1 = cc in absurd (omega arith)
    go false ea true eb false ec h = record { number = ltb-false q.number p.number ea; bar = λ e. ltb-false p.bar q.bar ec }
    go false ea false eb c ec h = record { number = ltb-false q.number p.number ea; bar = λ e. absurd (eqb-false p.number q.number eb e) }

pub not_beats : (p q : Pair) → Upto p q → beats p q ≡ false
unfolding beats
not_beats p q u = rw (le-ltb q.number p.number u.number) (go (eqb p.number q.number) refl)
  where
    go : (b : Bool) → eqb p.number q.number ≡ b → (b && ltb p.bar q.bar) ≡ false
    go true e = le-ltb p.bar q.bar (u.bar (eqb-true p.number q.number e))
    go false e = refl

-- a pair that beats another is not beaten by it
pub upto_beats : (p q : Pair) → beats p q ≡ true → Upto q p
unfolding beats
upto_beats p q = go (ltb q.number p.number) refl (eqb p.number q.number) refl (ltb p.bar q.bar) refl
  where
    go : (a : Bool) → ltb q.number p.number ≡ a → (b : Bool) → eqb p.number q.number ≡ b → (c : Bool) → ltb p.bar q.bar ≡ c → (a || (b && c)) ≡ true → Upto q p
    go true ea b eb c ec h = let l : q.number < p.number = ltb-true q.number p.number ea in record { number = omega arith; bar = λ e. absurd (omega arith) }
    go false ea true eb true ec h =
        let l : p.bar < q.bar = ltb-true p.bar q.bar ec in
        let m : p.number ≡ q.number = eqb-true p.number q.number eb in
        record { number = omega arith; bar = λ e. omega arith }
    go false ea true eb false ec h = let z : ◌≡◌ {A = ℕ} 0 1 = cc in absurd (omega arith)
    go false ea false eb c ec h = let z : ◌≡◌ {A = ℕ} 0 1 = cc in absurd (omega arith)

pub upto_refl : (p : Pair) → Upto p p
upto_refl p = record { number = omega arith; bar = λ e. omega arith }

pub upto_trans : {p q r : Pair} → Upto p q → Upto q r → Upto p r
upto_trans {p} {q} {r} u v =
    record {
      number = omega arith;
      bar = λ e. let a : p.number ≡ q.number = omega arith in let b : q.number ≡ r.number = omega arith in omega (arith, u.bar a, v.bar b);
    }

pub upto_both : (p q : Pair) → Upto p q → Upto q p → p ≡ q
upto_both p q u v =
    let n : p.number ≡ q.number = omega arith in
    let b : p.bar ≡ q.bar = omega (arith, u.bar n, v.bar (sym n)) in
    λ i. record { number = n i; bar = b i }

pub beats_upto : (p q r : Pair) → beats q p ≡ true → Upto q r → beats r p ≡ true
beats_upto p q r h u = go (beats r p) refl
  where
    go : (b : Bool) → beats r p ≡ b → b ≡ true
    go true e = refl
    go false e = sym (not_beats q p (upto_trans u (upto r p e))) ∙ h

pub beats_self : (p : Pair) → beats p p ≡ false
beats_self p = not_beats p p (upto_refl p)
