-- What `find` and `find_map` give over 0..n from the back: the last that passes.
use mathlib.Core.Path.{◌≡◌, refl, sym}
use mathlib.Core.Bool.{Bool, true, false}
use Prim.Native.Nat.{ℕ, ◌+◌, ◌-◌, ◌≤◌, ◌<◌}
use native.Mathlib.Omega.{arith}
use denote.Ref.{Bor}
use denote.Param.Members.{Mut, Called}
use Rattle.std.specs.Prelude.{Option, None, Some, MatchOption, IsSomeAnd, IsTrue}
use Rattle.std.specs.Option.{option_map}
use Rattle.std.specs.Fn.{CalledAt}
use Rattle.std.specs.Iterator.Adapters.{rev_steps, RevKeepsRuns}
use Rattle.std.specs.Iterator.Runs.{Run, CallKeepsClosure, NoItemPasses, EndsAtFirstPassing, AllItemsGive, IsFirstToGive}
use Rattle.std.proofs.iter.runs.Sources.{nat_range_steps_back, range_runs_back}
use Rattle.std.specs.declared.ops.Range.{Range}
use Rattle.std.specs.declared.iter.Rev.{Rev}

same_item : (o : Option ℕ) (x : ℕ) → option_map (λ y. y) o ≡ Some x → o ≡ Some x
same_item None x e = e
same_item (Some y) x e = e

some_item : (o : Option ℕ) (P : ℕ → Type 0) → IsSomeAnd o P → (x : ℕ) × (o ≡ Some x) × P x
some_item None P h = absurd h
some_item (Some x) P h = (x, refl, h)

-- p is a run of s, which goes over 0..n from the back
module _ (n : ℕ) (s : Rev (Range ℕ)) (w : RevKeepsRuns nat_range_steps_back (record { start = 0; end = n }) s) (p : Run (rev_steps nat_range_steps_back)) (e : p.from ≡ s) where
  whole : p.whole ≡ true → p.len ≡ n
  whole h =
      let q = w p p.seen e in
      let d = rw q.1 at (range_runs_back q.0 q.0.seen) in
      omega (arith, q.2.0.0, d.1 (rw q.2.1 h))

  item_is : (k : ℕ) → k < n → n ≤ k + p.len → p.at (n - 1 - k) ≡ Some k
  item_is k h l =
      let q = w p p.seen e in
      let d = rw q.1 at (range_runs_back q.0 q.0.seen) in
      let z : n - 1 - (n - 1 - k) ≡ k = omega arith in
      same_item (p.at (n - 1 - k)) k (rw (q.2.0.2, z) at (d.3 (n - 1 - k) (omega (arith, q.2.0.0))))

  placed : (i x : ℕ) → p.at i ≡ Some x → x + i + 1 ≡ n
  placed i x h =
      let q = w p p.seen e in
      let d = rw q.1 at (range_runs_back q.0 q.0.seen) in
      (rw (q.2.0.2, h) at (d.2 i)).0

  module _ {F : Type 0} {g : Mut F (Bor ℕ × Unit {0}) Bool} (f : F) (keeps : CallKeepsClosure g f) (Yes No : ℕ → Type 0)
      (yes' : (x : ℕ) → CalledAt g f x true f → Yes x) (no' : (x : ℕ) → CalledAt g f x false f → No x) where
    pub last_from_find : (r : Option ℕ) → MatchOption r (IsTrue p.whole × NoItemPasses p g f) (EndsAtFirstPassing p g f)
        → MatchOption r ((k : ℕ) → k < n → No k) (λ i. (i < n) × Yes i × ((k : ℕ) → i < k → k < n → No k))
    last_from_find None h = λ k l. no' k (rw (item_is k l (omega (arith, whole h.0))) at (h.1 keeps (n - 1 - k)))
    last_from_find (Some x) h =
        let t = placed h.0 x h.2 in
        let c = h.3 keeps in
        (omega (arith, t), yes' x c.0, λ k l m. no' k (rw (item_is k m (omega (arith, h.1, t))) at (c.1 (n - 1 - k) (omega (arith, t)))))

  module _ {F B : Type 0} {g : Mut F (ℕ × Unit {0}) (Option B)} (f : F) (keeps : CallKeepsClosure g f) (gives : ℕ → Option B)
      (is : (x : ℕ) (r : Option B) → Called g f (x, tt) r f → r ≡ gives x) where
    pub last_from_find_map : (r : Option B) → MatchOption r (IsTrue p.whole × AllItemsGive p g f None) (λ v. (i : ℕ) × (i < p.len) × (p.len ≡ i + 1) × IsFirstToGive p g f (Some v) None i)
        → MatchOption r ((k : ℕ) → k < n → gives k ≡ None) (λ v. (i : ℕ) × (i < n) × (gives i ≡ Some v) × ((k : ℕ) → i < k → k < n → gives k ≡ None))
    last_from_find_map None h = λ k l. sym (is k None (rw (item_is k l (omega (arith, whole h.0))) at (h.1 keeps (n - 1 - k))))
    last_from_find_map (Some v) h =
        let c = h.3 keeps in
        let x = some_item (p.at h.0) (λ x. Called g f (x, tt) (Some v) f) c.0 in
        let t = placed h.0 x.0 x.1 in
        (x.0, omega (arith, t), sym (is x.0 (Some v) x.2), λ k l m. sym (is k None (rw (item_is k m (omega (arith, h.2, t))) at (c.1 (n - 1 - k) (omega (arith, t))))))
