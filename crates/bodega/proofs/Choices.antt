-- What holds of both sides of a choice holds of the choice.
use Rattle.std.specs.Prelude.{if◌then◌else◌}
use mathlib.Core.Bool.{Bool, true, false}
use Rattle.std.specs.Prelude.{Option, None, Some}
use mathlib.Core.Path.{◌≡◌, refl}
use Rattle.words.specs.Choice.{if_none◌then◌else◌}

module _ {A : Type 0} (P : A → Type 0) where
  pub of_if : (t : Bool) {a b : A} → P a → P b → P (if t then a else b)
  of_if true p q = p
  of_if false p q = q

  pub of_none : {B : Type 0} (o : Option B) {a : A} {f : B → A} → P a → ((x : B) → P (f x)) → P (if_none o then a else f)
  of_none None p q = p
  of_none (Some x) p q = q x

  -- with what the choice was made by
  pub by_if : (t : Bool) {a b : A} → (t ≡ true → P a) → (t ≡ false → P b) → P (if t then a else b)
  by_if true p q = p refl
  by_if false p q = q refl

  pub by_none : {B : Type 0} (o : Option B) {a : A} {f : B → A} → P a → ((x : B) → o ≡ Some x → P (f x)) → P (if_none o then a else f)
  by_none None p q = p
  by_none (Some x) p q = q x refl

-- a function of a choice is the choice of the function's values
pub if_ap : {A B : Type 0} (f : A → B) (t : Bool) (a b : A) → f (if t then a else b) ≡ (if t then f a else f b)
if_ap f true a b = refl
if_ap f false a b = refl
