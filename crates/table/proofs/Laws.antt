-- A row goes after the others, and the rows one by one.
use Rattle.std.proofs.Common.{◌≡◌, refl, sym, ap, ◌∙◌, inr, zero-add, arith, List, [], ◌∷◌, ◌++◌, ℕ, ◌+◌, ◌*◌, ◌≤◌, ◌<◌, length, set, length-append, get_or-set_other}
use Rattle.std.specs.Prelude.{Some, None, if◌then◌else◌}
use mathlib.Core.Bool.{Bool, true, false, true≢false}
use borrow.Author.Tests.{le-leb, lt-leb}
use Rattle.std.proofs.lemmas.List.{drop_more}
use Rattle.words.specs.Tab.{get_or_tab}
use Rattle.words.specs.Counted.{count_of, counted, length_counted, counted_push, apart}
use Rattle.words.specs.Writes.{writes, Agrees, writes_other}
use Rattle.table.specs.Table.{Pushes, rows_from}

pub below : {A : Type 0} (f : List ℕ → ℕ → A) (w lim : ℕ) (s : List ℕ) (i : ℕ) → i < length (counted f w lim s) → i < lim
below f w lim s i b = let c : i < count_of lim s = rw length_counted at b in omega arith

-- the rows from the i-th on are it and the others
pub first_row : {A : Type 0} (f : List ℕ → ℕ → A) (w lim : ℕ) (s : List ℕ) (i n : ℕ) (x : A) → n ≡ length (counted f w lim s) → i < n → x ≡ f s (1 + i * w) → rows_from f w lim s i ≡ x ∷ rows_from f w lim s (i + 1)
unfolding counted
first_row {A = A} f w lim s i n x k b e =
    let r : ℕ → A = λ j. f s (1 + j * w) in
    let m = k ∙ length_counted f w lim s in
    drop_more (counted f w lim s) i x (rw k at b) ∙ ap (λ y. y ∷ rows_from f w lim s (i + 1)) (get_or_tab r 0 (count_of lim s) i x (rw m at b) ∙ ap r (zero-add i) ∙ sym e)

-- a push where there is room
pub pushed_on : {A : Type 0} (f : List ℕ → ℕ → A) (w lim : ℕ) (s t : List ℕ) (x : A) (r : Bool) → Pushes f w lim s x r t → length (counted f w lim s) < lim → counted f w lim t ≡ counted f w lim s ++ (x ∷ [])
pushed_on f w lim s t x r p h = go r (rw (le-leb (length (counted f w lim s ++ (x ∷ []))) lim (rw length-append (omega arith))) at p.outcome)
  where
    go : (r : Bool) → (if r then Some (counted f w lim t) else None) ≡ Some (counted f w lim s ++ (x ∷ [])) → counted f w lim t ≡ counted f w lim s ++ (x ∷ [])
    go true e = cc
    go false e = cc

-- A is what rows of R stand for; the other parameters are the members of a row
module _ {R A : Type 0} (at : List ℕ → ℕ → A) (w : ℕ) (view : R → A) (words : R → List ℕ)
    (width : (x : R) → length (words x) ≡ w) (near : (s' s : List ℕ) (p : ℕ) → Agrees s' s p (p + w) → at s' p ≡ at s p) (back : (s : List ℕ) (p : ℕ) (x : R) → p + w ≤ length s → at (writes s p (words x)) p ≡ view x)
    (lim : ℕ) where
  -- in the words of the code: n is the count, s₁ what the row's store left
  pub push_yes : (s s₁ : List ℕ) (n : ℕ) (x : R) → 1 + lim * w ≤ length s → n ≡ length (counted at w lim s) → (n ≡ lim → ⊥) → s₁ ≡ writes s (1 + n * w) (words x) → Pushes at w lim s (view x) true (set s₁ 0 (n + 1))
  push_yes s s₁ n x fits many room e =
      let m : n ≡ count_of lim s = many ∙ length_counted at w lim s in
      let b : n < lim = omega arith in
      let end : n * w + w ≤ lim * w = apart n lim w b in
      let here : at s₁ (1 + n * w) ≡ view x = rw e (back s (1 + n * w) x (omega arith)) in
      let rows = counted_push at w lim near s s₁ (set s₁ 0 (n + 1)) n (view x) (words x) fits m b (width x) e here refl in
      let l : length (counted at w lim s ++ (view x ∷ [])) ≡ n + 1 = rw (length-append, ← many) refl in
      let o : 1 + n * w + length (words x) ≤ 1 + lim * w = rw (width x) (omega arith) in
      record {
        outcome = rw (rows, l, le-leb (n + 1) lim (omega arith));
        refused = λ e. absurd (true≢false e);
        beyond = λ j h. rw (get_or-set_other s₁ 0 j (n + 1) 0 (omega arith), e) (writes_other s (1 + n * w) (words x) j (inr (omega arith)));
      }

  pub push_no : (s : List ℕ) (n : ℕ) (x : R) → n ≡ length (counted at w lim s) → n ≡ lim → Pushes at w lim s (view x) false s
  push_no s n x many full =
      let l : length (counted at w lim s ++ (view x ∷ [])) ≡ lim + 1 = rw (length-append, ← many, full) refl in
      record { outcome = rw (l, lt-leb (lim + 1) lim (omega arith)); refused = λ e. refl; beyond = λ j h. refl }
