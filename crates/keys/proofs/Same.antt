-- Keys of the same bytes are one.
use mathlib.Core.Path.{◌≡◌, refl}
use mathlib.Core.Bool.{Bool, true, false, ◌&&◌}
use mathlib.Core.List.{List, [], ◌∷◌}
use Prim.Native.Nat.{ℕ}
use borrow.Author.Tests.{eqb-true, eq-eqb}
use lib.Dec.{eqb}
use Rattle.keys.specs.Same.{same_bytes}

pub same_refl : (a : List ℕ) → same_bytes a a ≡ true
unfolding same_bytes
same_refl [] = refl
same_refl (x ∷ xs) = rw (eq-eqb x x refl) (same_refl xs)

pub same_true : (a b : List ℕ) → same_bytes a b ≡ true → a ≡ b
unfolding same_bytes
same_true [] [] h = refl
same_true [] (y ∷ ys) h = cc
same_true (x ∷ xs) [] h = cc
same_true (x ∷ xs) (y ∷ ys) h = go (eqb x y) refl (same_true xs ys) h
  where
    go : (t : Bool) → eqb x y ≡ t → (same_bytes xs ys ≡ true → xs ≡ ys) → (t && same_bytes xs ys) ≡ true → x ∷ xs ≡ y ∷ ys
    go true e r k = rw (eqb-true x y e, r k)
    go false e r k = cc
