-- Trusted: document 01, "Why a call is turned away": grounds by number, ascending, and the first that applies.
use Rattle.std.specs.Prelude.{ℕ, ◌<◌, Bool, true, List, ◌∷◌, [], ◌≡◌, ◌⊎◌, if◌then◌else◌}
use Rattle.std.specs.Prelude.{Option, None, Some}

pub record Ground : Type 0 where
  pub number : ℕ
  pub applies : Bool

infixr 4 ◌when◌or◌
abbrev pub ◌when◌or◌ : ℕ → Bool → List Ground → List Ground
n when t or gs = record { number = n; applies = t } ∷ gs

-- the refusal, if there is one
abbrev pub refusal : List Ground → Option ℕ
refusal [] = None
refusal (g ∷ gs) = if g.applies then Some g.number else refusal gs

abbrev pub Above : ℕ → List Ground → Type 0
Above n [] = Unit {0}
Above n (g ∷ gs) = n < g.number

abbrev pub Ascends : List Ground → Type 0
Ascends [] = Unit {0}
Ascends (g ∷ gs) = Above g.number gs × Ascends gs

-- a ground of this number applies
abbrev pub Applies : ℕ → List Ground → Type 0
Applies n [] = ⊥
Applies n (g ∷ gs) = ((g.number ≡ n) × (g.applies ≡ true)) ⊎ Applies n gs
