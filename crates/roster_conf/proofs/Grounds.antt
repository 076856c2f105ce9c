-- The first ground that applies is the lowest; where there is no refusal, none applies.
use mathlib.Core.Path.{◌≡◌, refl, sym, ◌∙◌}
use mathlib.Core.Bool.{Bool, true, false}
use mathlib.Core.Logic.{inl, inr, ⊎_elim}
use mathlib.Core.List.{List, [], ◌∷◌, ◌++◌}
use Rattle.std.specs.Prelude.{None, Some}
use Prim.Native.Nat.{ℕ, ◌≤◌, ◌<◌}
use native.Mathlib.Omega.{arith}
use Rattle.roster_conf.specs.Conf.{Conf}
use Rattle.roster_conf.specs.Ground.{Ground, refusal, Above, Ascends, Applies}
use Rattle.roster_conf.specs.Edit.{Edit, SetLeader, SetResponders, SetFull, IntoFiltered, ResetFull, grounds}

pub zero_one : ◌≡◌ {A = ℕ} 0 1 → ⊥
zero_one e = omega arith

above_all : (n k : ℕ) (gs : List Ground) → Above n gs → Ascends gs → Applies k gs → n < k
above_all n k [] a s w = absurd w
above_all n k (g ∷ gs) a s v = ⊎_elim (λ w. omega (arith, w.0)) (λ w. omega (arith, above_all g.number k gs s.0 s.1 w)) v

pub lowest : (gs : List Ground) (n : ℕ) → Ascends gs → refusal gs ≡ Some n → Applies n gs × ((k : ℕ) → Applies k gs → n ≤ k)
lowest [] n s e = let z : ◌≡◌ {A = ℕ} 0 1 = cc in absurd (zero_one z)
lowest (g ∷ gs) n s e = go g.applies refl (lowest gs n s.1)
  where
    go : (b : Bool) → g.applies ≡ b → (refusal gs ≡ Some n → Applies n gs × ((k : ℕ) → Applies k gs → n ≤ k)) → Applies n (g ∷ gs) × ((k : ℕ) → Applies k (g ∷ gs) → n ≤ k)
    go true f ih =
        let q : Some g.number ≡ Some n = sym (simp f) ∙ e in
        let is : g.number ≡ n = cc in
        (inl (is, f), λ k. ⊎_elim (λ w. omega (arith, is, w.0)) (λ w. omega (arith, is, above_all g.number k gs s.0 s.1 w)))
    go false f ih =
        let q : refusal gs ≡ Some n = sym (simp f) ∙ e in
        let r = ih q in
        (inr r.0, λ k. ⊎_elim (λ w. absurd (never (sym f ∙ w.1))) (λ w. r.1 k w))
      where
        never : false ≡ true → ⊥
        never x = let z : ◌≡◌ {A = ℕ} 0 1 = cc in zero_one z

abbrev pub NoneApply : List Ground → Type 0
NoneApply [] = Unit {0}
NoneApply (g ∷ gs) = (g.applies ≡ false) × NoneApply gs

pub none_apply : (gs : List Ground) → refusal gs ≡ None → NoneApply gs
none_apply [] e = tt
none_apply (g ∷ gs) e = go g.applies refl (none_apply gs)
  where
    go : (b : Bool) → g.applies ≡ b → (refusal gs ≡ None → NoneApply gs) → (g.applies ≡ false) × NoneApply gs
    go true f ih = let q : Some g.number ≡ None = sym (simp f) ∙ e in let z : ◌≡◌ {A = ℕ} 0 1 = cc in absurd (zero_one z)
    go false f ih = (f, ih (sym (simp f) ∙ e))

pub none_before : (gs hs : List Ground) → NoneApply (gs ++ hs) → NoneApply gs
none_before [] hs n = tt
none_before (g ∷ gs) hs n = (n.0, none_before gs hs n.1)

-- ---- no ground has the number 0

abbrev pub Positive : List Ground → Type 0
Positive [] = Unit {0}
Positive (g ∷ gs) = (0 < g.number) × Positive gs

pub not_0 : (gs : List Ground) (n : ℕ) → Positive gs → refusal gs ≡ Some n → 0 < n
not_0 [] n p e = let z : ◌≡◌ {A = ℕ} 0 1 = cc in absurd (zero_one z)
not_0 (g ∷ gs) n p e = go g.applies refl (not_0 gs n p.1)
  where
    go : (b : Bool) → g.applies ≡ b → (refusal gs ≡ Some n → 0 < n) → 0 < n
    go true f ih =
        let s : Some g.number ≡ Some n = sym (simp f) ∙ e in
        let is : g.number ≡ n = cc in
        omega (arith, p.0)
    go false f ih = ih (sym (simp f) ∙ e)

-- of a roster's edits
pub edit_positive : (population : ℕ) (c : Conf) (e : Edit) → Positive (grounds population c e)
unfolding grounds
edit_positive population c (SetLeader r) = (omega arith, tt)
edit_positive population c (SetResponders start end mask) = (omega arith, (omega arith, (omega arith, (omega arith, (omega arith, tt)))))
edit_positive population c (SetFull mask) = (omega arith, (omega arith, tt))
edit_positive population c (IntoFiltered r) = (omega arith, tt)
edit_positive population c ResetFull = tt
