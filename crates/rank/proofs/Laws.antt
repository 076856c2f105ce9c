-- Sorting and counting: the element at place k of the sorted list is at most v just where more than k elements are at
-- most v.
use Rattle.std.specs.Prelude.{if◌then◌else◌}
use Prim.Native.Nat.{ℕ, zero, suc, ◌+◌, ◌-◌, ◌≤◌, ◌<◌}
use mathlib.Core.Bool.{Bool, true, false, cond}
use mathlib.Core.List.{List, [], ◌∷◌}
use mathlib.Core.Path.{◌≡◌, refl, sym, ap, ◌∙◌}
use native.Mathlib.Nat.{le_of_suc-le-suc}
use native.Mathlib.Omega.{arith}
use borrow.Author.Tests.{leb-true, leb-false, le-leb, lt-leb, ltb-true, ltb-false}
use lib.Dec.{leb, ltb}
use Rattle.std.specs.List.{count_by}
use Rattle.std.proofs.lemmas.List.Recursion.{is_count_by}
use lib.ListN.{length, get_or, take}
use Rattle.std.proofs.lemmas.List.{take_all}
use Rattle.rank.specs.Sort.{insert, sort, count_le}

-- P of each element
abbrev pub All : (ℕ → Type 0) → List ℕ → Type 0
All P [] = Unit {0}
All P (x ∷ xs) = P x × All P xs

-- ascending
abbrev pub Sorted : List ℕ → Type 0
Sorted [] = Unit {0}
Sorted (x ∷ xs) = All (λ y. x ≤ y) xs × Sorted xs

module _ (P : ℕ → Type 0) where
  insert_by : (b : Bool) (x y : ℕ) (ys l : List ℕ) → P x → P y → All P ys → All P l → All P (if◌then◌else◌ b (x ∷ (y ∷ ys)) (y ∷ l))
  insert_by true x y ys l p q r s = (p, (q, r))
  insert_by false x y ys l p q r s = (q, s)

  all_insert : (x : ℕ) (l : List ℕ) → P x → All P l → All P (insert x l)
  unfolding insert
  all_insert x [] p q = (p, tt)
  all_insert x (y ∷ ys) p q = insert_by (leb x y) x y ys (insert x ys) p q.0 q.1 (all_insert x ys p q.1)

  pub all_sort : (l : List ℕ) → All P l → All P (sort l)
  unfolding sort
  all_sort [] q = tt
  all_sort (x ∷ xs) q = all_insert x (sort xs) q.0 (all_sort xs q.1)

  pub all_at : (l : List ℕ) (k : ℕ) → All P l → k < length l → P (get_or l k 0)
  all_at [] k q h = absurd (omega arith)
  all_at (x ∷ xs) zero q h = q.0
  all_at (x ∷ xs) (suc k) q h = all_at xs k q.1 (le_of_suc-le-suc h)

  pub all_of : (l : List ℕ) → ((k : ℕ) → k < length l → P (get_or l k 0)) → All P l
  all_of [] f = tt
  all_of (x ∷ xs) f = (f 0 (omega arith), all_of xs (λ k h. f (suc k) (omega arith)))

all_map : (P Q : ℕ → Type 0) → ((y : ℕ) → P y → Q y) → (l : List ℕ) → All P l → All Q l
all_map P Q f [] q = tt
all_map P Q f (x ∷ xs) q = (f x q.0, all_map P Q f xs q.1)

sorted_insert : (x : ℕ) (l : List ℕ) → Sorted l → Sorted (insert x l)
unfolding insert
sorted_insert x [] s = (tt, tt)
sorted_insert x (y ∷ ys) s = go (leb x y) refl (sorted_insert x ys s.1)
  where
    go : (b : Bool) → leb x y ≡ b → Sorted (insert x ys) → Sorted (if◌then◌else◌ b (x ∷ (y ∷ ys)) (y ∷ insert x ys))
    go true e r = ((leb-true x y e, all_map (λ z. y ≤ z) (λ z. x ≤ z) (λ z h. let g : x ≤ y = leb-true x y e in omega arith) ys s.0), s)
    go false e r = (all_insert (λ z. y ≤ z) x ys (let g : y < x = leb-false x y e in omega arith) s.0, r)

sorted_sort : (l : List ℕ) → Sorted (sort l)
unfolding sort
sorted_sort [] = tt
sorted_sort (x ∷ xs) = sorted_insert x (sort xs) (sorted_sort xs)

-- what is counted is the same in any order
count_insert : (v x : ℕ) (l : List ℕ) → count_le v (insert x l) ≡ count_le v (x ∷ l)
unfolding count_le insert
count_insert v x [] = refl
count_insert v x (y ∷ ys) = go (leb x y) (count_insert v x ys)
  where
    go : (b : Bool) → count_le v (insert x ys) ≡ if◌then◌else◌ (leb x v) 1 0 + count_le v ys
        → count_le v (if◌then◌else◌ b (x ∷ (y ∷ ys)) (y ∷ insert x ys)) ≡ if◌then◌else◌ (leb x v) 1 0 + (if◌then◌else◌ (leb y v) 1 0 + count_le v ys)
    go true e = refl
    go false e = omega arith

count_sort : (v : ℕ) (l : List ℕ) → count_le v (sort l) ≡ count_le v l
unfolding count_le sort
count_sort v [] = refl
count_sort v (x ∷ xs) = count_insert v x (sort xs) ∙ ap (λ n. if◌then◌else◌ (leb x v) 1 0 + n) (count_sort v xs)

length_insert : (x : ℕ) (l : List ℕ) → length (insert x l) ≡ suc (length l)
unfolding insert
length_insert x [] = refl
length_insert x (y ∷ ys) = go (leb x y) (length_insert x ys)
  where
    go : (b : Bool) → length (insert x ys) ≡ suc (length ys) → length (if◌then◌else◌ b (x ∷ (y ∷ ys)) (y ∷ insert x ys)) ≡ suc (suc (length ys))
    go true e = refl
    go false e = ap suc e

pub length_sort : (l : List ℕ) → length (sort l) ≡ length l
unfolding sort
length_sort [] = refl
length_sort (x ∷ xs) = length_insert x (sort xs) ∙ ap suc (length_sort xs)

-- nothing is at most v where everything is above it
count_none : (v x : ℕ) (l : List ℕ) → v < x → All (λ y. x ≤ y) l → count_le v l ≡ 0
unfolding count_le
count_none v x [] h q = refl
count_none v x (y ∷ ys) h q = rw (lt-leb y v (omega arith)) (omega (arith, count_none v x ys h q.1))

nth_le : (v : ℕ) (s : List ℕ) (k : ℕ) → Sorted s → k < count_le v s → get_or s k 0 ≤ v
unfolding count_le
nth_le v [] k q h = absurd (omega arith)
nth_le v (x ∷ xs) k q h = go k (leb x v) refl h (λ j. nth_le v xs j q.1)
  where
    go : (k : ℕ) (b : Bool) → leb x v ≡ b → k < if◌then◌else◌ b 1 0 + count_le v xs → ((j : ℕ) → j < count_le v xs → get_or xs j 0 ≤ v) → get_or (x ∷ xs) k 0 ≤ v
    go zero true e h f = leb-true x v e
    go (suc k) true e h f = f k (omega arith)
    go zero false e h f = absurd (omega (arith, count_none v x xs (leb-false x v e) q.0))
    go (suc k) false e h f = absurd (omega (arith, count_none v x xs (leb-false x v e) q.0))

nth_count : (v : ℕ) (s : List ℕ) (k : ℕ) → Sorted s → k < length s → get_or s k 0 ≤ v → k < count_le v s
unfolding count_le
nth_count v [] k q h g = absurd (omega arith)
nth_count v (x ∷ xs) zero q h g = rw (le-leb x v g) (omega arith)
nth_count v (x ∷ xs) (suc k) q h g =
    rw (le-leb x v (omega (arith, all_at (λ y. x ≤ y) xs k q.0 (omega arith)))) (omega (arith, nth_count v xs k q.1 (omega arith) g))

-- the two halves, for the sorted list
pub rank_le : (v : ℕ) (l : List ℕ) (k : ℕ) → k < count_le v l → get_or (sort l) k 0 ≤ v
rank_le v l k h = nth_le v (sort l) k (sorted_sort l) (rw count_sort h)

pub rank_count : (v : ℕ) (l : List ℕ) (k : ℕ) → k < length l → get_or (sort l) k 0 ≤ v → k < count_le v l
rank_count v l k h g = rw count_sort at (nth_count v (sort l) k (sorted_sort l) (rw length_sort h) g)

-- what the code counts
count_is : (v : ℕ) (l : List ℕ) → count_by (λ x. leb x v) l ≡ count_le v l
unfolding count_le
count_is v l = sym (is_count_by (count_le v) (λ x. leb x v) refl (λ x xs. step (leb x v) (count_le v xs)) l)
  where
    step : (t : Bool) (n : ℕ) → (if t then 1 else 0) + n ≡ cond t (1 + n) n
    step true n = refl
    step false n = omega arith

pub count_end : (v : ℕ) (l : List ℕ) (i n : ℕ) → length l ≤ i → n ≡ count_by (λ x. leb x v) (take i l) → n ≡ count_le v l
count_end v l i n h e = e ∙ ap (count_by (λ x. leb x v)) (take_all i l h) ∙ count_is v l

-- by cases on an order
by_lt : {A : Type 0} (a b : ℕ) → (a < b → A) → (b ≤ a → A) → A
by_lt {A = A} a b f g = go (ltb a b) refl
  where
    go : (t : Bool) → ltb a b ≡ t → A
    go true e = f (ltb-true a b e)
    go false e = g (ltb-false a b e)

-- ---- the k-th smallest, x

module _ (b : List ℕ) (k : ℕ) (h : 0 < k) (l : k ≤ length b) where
  abbrev x : ℕ
  x = get_or (sort b) (k - 1) 0

  at_x : (P : ℕ → Type 0) → ((i : ℕ) → i < length b → P (get_or b i 0)) → P x
  at_x P f = all_at P (sort b) (k - 1) (all_sort P b (all_of P b f)) (rw length_sort (omega arith))

  pub not_below : (v : ℕ) → ((i : ℕ) → i < length b → v ≤ get_or b i 0) → v ≤ x
  not_below v f = at_x (λ y. v ≤ y) f

  pub enough : (v n : ℕ) → n ≡ count_le v b → k ≤ n → x ≤ v
  enough v n e f = rank_le v b (k - 1) (omega arith)

  pub too_few : (v n : ℕ) → n ≡ count_le v b → n < k → v < x
  too_few v n e f = by_lt v x (λ g. g) (λ g. absurd (omega (arith, rank_count v b (k - 1) (omega arith) g)))

  -- all that is above v is the last number
  pub top_is : (v n : ℕ) → ((i : ℕ) → i < length b → get_or b i 0 < 18446744073709551615 → get_or b i 0 ≤ v) → n ≡ count_le v b → n < k → ((i : ℕ) → get_or b i 0 < 18446744073709551616)
      → 18446744073709551615 ≡ x
  top_is v n f e g t =
      let above : v < x = too_few v n e g in
      let last : x < 18446744073709551616 = at_x (λ y. y < 18446744073709551616) (λ i m. t i) in
      by_lt x 18446744073709551615 (λ m. absurd (omega (arith, at_x (λ y. y < 18446744073709551615 → y ≤ v) f m))) (λ m. omega arith)

  -- the next number is not above x
  pub past : (v n : ℕ) → n ≡ count_le v b → n < k → v + 1 ≤ x
  past v n e f = omega (arith, too_few v n e f)
