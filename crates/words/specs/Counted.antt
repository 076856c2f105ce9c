-- Trusted: a table in lent words: how many rows in word 0, read as at most lim, and then rows of w words; f reads the
-- row at a word.
use Rattle.std.specs.Prelude.{◌≡◌, ◌⊎◌, ◌≢◌, List, [], ◌∷◌, ◌++◌, ℕ, ◌+◌, ◌*◌, ◌≤◌, ◌<◌, min, length, get_or, set}
use Rattle.std.proofs.Common.{sym, ap, ◌∙◌, inl, inr, zero-add, mul-le-mul_right, suc-mul, arith, get_or-set_same, get_or-set_other}
use Rattle.std.proofs.Math.Decide.{dec_lt}
use Rattle.words.specs.Tab.{tab, tab_ext, tab_snoc, tab_set, length_tab}
use Rattle.words.specs.Writes.{writes, Agrees, writes_other, length_writes}

abbrev pub count_of : ℕ → List ℕ → ℕ
count_of lim s = min (get_or s 0 0) lim

module _ {A : Type 0} where
  unfoldable pub counted : (List ℕ → ℕ → A) → ℕ → ℕ → List ℕ → List A
  counted f w lim s = tab (λ i. f s (1 + i * w)) 0 (count_of lim s)

  pub length_counted : (f : List ℕ → ℕ → A) (w lim : ℕ) (s : List ℕ) → length (counted f w lim s) ≡ count_of lim s
  unfolding counted
  length_counted f w lim s = length_tab (λ i. f s (1 + i * w)) 0 (count_of lim s)

  pub counted_clear : (f : List ℕ → ℕ → A) (w lim : ℕ) (s : List ℕ) → 0 < length s → counted f w lim (set s 0 0) ≡ []
  unfolding counted
  counted_clear f w lim s h =
      let g = get_or-set_same s 0 0 0 h in
      let m : count_of lim (set s 0 0) ≡ 0 = omega (arith, g) in
      ap (tab (λ i. f (set s 0 0) (1 + i * w)) 0) m

-- a row ends where the next begins, at the latest
pub apart : (i n w : ℕ) → i < n → i * w + w ≤ n * w
apart i n w h = rw suc-mul at (mul-le-mul_right w h)

-- near: what f reads at p depends on the row alone
module _ {A : Type 0} (f : List ℕ → ℕ → A) (w lim : ℕ) (near : (s' s : List ℕ) (p : ℕ) → Agrees s' s p (p + w) → f s' p ≡ f s p) where
  -- a row is stored after the others, and the count is one more
  pub counted_push : (s s₁ s₂ : List ℕ) (n : ℕ) (x : A) (row : List ℕ) → 1 + lim * w ≤ length s → n ≡ count_of lim s → n < lim → length row ≡ w
      → s₁ ≡ writes s (1 + n * w) row → f s₁ (1 + n * w) ≡ x → s₂ ≡ set s₁ 0 (n + 1) → counted f w lim s₂ ≡ counted f w lim s ++ (x ∷ [])
  unfolding counted
  counted_push s s₁ s₂ n x row fits q h l e₁ here e₂ =
      let p : ℕ = 1 + n * w in
      let k : length s₁ ≡ length s = rw e₁ (length_writes s p row) in
      let g : get_or s₂ 0 0 ≡ n + 1 = rw e₂ (get_or-set_same s₁ 0 (n + 1) 0 (omega (arith, k))) in
      let m : min (get_or s₂ 0 0) lim ≡ n + 1 = omega (arith, g) in
      let far : (j : ℕ) → 0 < j → get_or s₂ j 0 ≡ get_or s₁ j 0 = λ j b. rw e₂ (get_or-set_other s₁ 0 j (n + 1) 0 (omega arith)) in
      let low : (j : ℕ) → 0 < j → j < p → get_or s₂ j 0 ≡ get_or s j 0 = λ j b a. far j b ∙ rw e₁ (writes_other s p row j (inl a)) in
      let old : tab (λ i. f s₂ (1 + i * w)) 0 n ≡ tab (λ i. f s (1 + i * w)) 0 n =
      tab_ext (λ i. f s₂ (1 + i * w)) (λ i. f s (1 + i * w)) 0 n
      (λ i a b. near s₂ s (1 + i * w) (λ j y z. low j (omega arith) (omega (arith, apart i n w (omega arith))))) in
      let new : f s₂ p ≡ x = near s₂ s₁ p (λ j y z. far j (omega arith)) ∙ here in
      rw (m, ← q, tab_snoc (λ i. f s₂ (1 + i * w)) 0 n, zero-add n, old, new)

  -- a row is changed where it stands
  pub counted_set : (s s' : List ℕ) (i : ℕ) (x : A) → i < count_of lim s → get_or s' 0 0 ≡ get_or s 0 0 → f s' (1 + i * w) ≡ x
      → ((j : ℕ) → (0 < j) → (j < 1 + i * w) ⊎ (1 + i * w + w ≤ j) → get_or s' j 0 ≡ get_or s j 0) → counted f w lim s' ≡ set (counted f w lim s) i x
  unfolding counted
  counted_set s s' i x h g here rest =
      let z : 0 + i ≡ i = zero-add i in
      let other : (j : ℕ) → j ≢ i → f s' (1 + j * w) ≡ f s (1 + j * w) =
      λ j ne. near s' s (1 + j * w) (λ q a b. rest q (omega arith) (elim (dec_lt j i) [ yes y ↦ inl (omega (arith, apart j i w y)) | no y ↦ inr (omega (arith, apart i j w (omega arith))) ])) in
      rw g
      (tab_set (λ j. f s (1 + j * w)) (λ j. f s' (1 + j * w)) 0 (count_of lim s) i x h (rw z here) (λ j a b ne. other j (λ e. ne (e ∙ sym z))))
