-- Laws of a number and its two halves.
use mathlib.Core.Path.{◌≡◌, refl, sym, ◌∙◌}
use mathlib.Core.Bool.{Bool, true, false}
use Prim.Native.Nat.{ℕ, ◌+◌, ◌*◌, ◌^◌, ◌≤◌, ◌<◌}
use native.Mathlib.Omega.{arith}
use lib.Dec.{ltb}
use lib.Arith.{digits_lt}
use Rattle.std.specs.Prelude.{None, Some}
use Rattle.inty.specs.Value.{bounded}
use borrow.Author.Tests.{ltb-false}

-- what two halves hold is below 2 ^ 128
pub below_top : (h l : ℕ) → h < 2 ^ 64 → l < 2 ^ 64 → h * 18446744073709551616 + l < 2 ^ 128
below_top h l f g = digits_lt {q = h} {m = 18446744073709551616} {r = l} {c = 18446744073709551616} f g

-- what 128 bits do not hold
pub was_out : (v : ℕ) → None ≡ bounded v → 2 ^ 128 ≤ v
was_out v e = go (ltb v (2 ^ 128)) refl
  where
    zero_one : ◌≡◌ {A = ℕ} 0 1 → ⊥
    zero_one e = omega arith

    go : (t : Bool) → ltb v (2 ^ 128) ≡ t → 2 ^ 128 ≤ v
    go true p = let q : Some v ≡ None = sym (e ∙ simp p) in let z : ◌≡◌ {A = ℕ} 0 1 = cc in absurd (zero_one z)
    go false p = ltb-false v (2 ^ 128) p
