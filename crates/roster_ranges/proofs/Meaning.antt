-- What writing a range over a canonical table means: at each number in the range its mask, at any other what the table
-- said; and the result is canonical. Two canonical tables that say the same are the same.
use Rattle.std.specs.Prelude.{if◌then◌else◌}
use mathlib.Core.Path.{◌≡◌, refl, sym, ap, ◌∙◌}
use mathlib.Core.Bool.{Bool, true, false, ◌&&◌, not}
use Rattle.std.specs.Prelude.{Option, None, Some}
use Rattle.words.proofs.Tests.{and_both}
use mathlib.Core.List.{List, [], ◌∷◌, ◌++◌, append-nil, append_assoc}
use Prim.Native.Nat.{ℕ, suc, ◌+◌, ◌≤◌, ◌<◌}
use native.Mathlib.Nat.{le_refl, le_trans, lt_of_lt_of_le}
use native.Mathlib.Omega.{arith}
use lib.ListN.{length}
use lib.Dec.{ltb, leb, eqb}
use borrow.Author.Tests.{lt-ltb, le-ltb, le-leb, lt-leb, ltb-true, ltb-false, leb-true, eqb-true, eq-eqb, not-true}
use Rattle.roster_ranges.specs.Range.{Range, inside, at, goes_on, joined, push, push_all, cut_below, cut_above, below, above, each, pieces, overwrite, remask, remasked}
use Rattle.roster_ranges.specs.Canon.{Starts, Sorted, Apart, Canon, follows, heads, is_canon, Same, StoredOver, mapped}

-- ---- tests

both_false : (b : Bool) → b && false ≡ false
both_false true = refl
both_false false = refl

-- by cases on a test, with what it says
by_lt : {A : Type 0} (a b : ℕ) → (a < b → A) → (b ≤ a → A) → A
by_lt {A = A} a b f g = go (ltb a b) refl
  where
    go : (t : Bool) → ltb a b ≡ t → A
    go true e = f (ltb-true a b e)
    go false e = g (ltb-false a b e)

module _ (r : Range) (n : ℕ) where
  in_yes : r.from ≤ n → n ≤ r.to → inside r n ≡ true
  in_yes f g = simp (le-leb _ _ f, le-leb _ _ g)

  in_low : n < r.from → inside r n ≡ false
  in_low f = simp (lt-leb _ _ f)

  in_high : r.to < n → inside r n ≡ false
  in_high f = simp (lt-leb _ _ f) (both_false (leb r.from n))

-- what a table says of a number that is in its first range, and of one that is not
module _ (r : Range) (l : List Range) (n : ℕ) where
  at_here : r.from ≤ n → n ≤ r.to → at (r ∷ l) n ≡ Some r.mask
  at_here f g = ap (λ (b : Bool). if◌then◌else◌ b (Some r.mask) (at l n)) (in_yes r n f g)

  at_low : n < r.from → at (r ∷ l) n ≡ at l n
  at_low f = ap (λ (b : Bool). if◌then◌else◌ b (Some r.mask) (at l n)) (in_low r n f)

  at_high : r.to < n → at (r ∷ l) n ≡ at l n
  at_high f = ap (λ (b : Bool). if◌then◌else◌ b (Some r.mask) (at l n)) (in_high r n f)

-- by cases: below the range, in it, above it
by_range : {A : Type 0} (r : Range) (n : ℕ) → (n < r.from → A) → (r.from ≤ n → n ≤ r.to → A) → (r.to < n → A) → A
by_range r n f g h = by_lt n r.from f (λ p. by_lt r.to n h (λ q. g p q))

-- ---- starts

starts_le : (l : List Range) {j k : ℕ} → j ≤ k → Starts l k → Starts l j
starts_le [] h s = tt
starts_le (r ∷ l) h s = le_trans h s

-- a sorted table that starts at k says nothing below k
at_before : (l : List Range) (k n : ℕ) → Sorted l → Starts l k → n < k → at l n ≡ None
at_before [] k n s p h = refl
at_before (r ∷ l) k n s p h = at_low r l n (omega arith) ∙ at_before l (r.to + 1) n s.2 s.1 (omega (arith, s.0))

pub canon_sorted : (l : List Range) → Canon l → Sorted l
canon_sorted [] c = tt
canon_sorted (r ∷ l) c = (c.0, c.1, canon_sorted l c.3)

-- ---- a push

-- the last range of l ends before k
abbrev Ends : List Range → ℕ → Type 0
Ends [] k = Unit {0}
Ends (x ∷ []) k = x.to < k
Ends (x ∷ y ∷ l) k = Ends (y ∷ l) k

goes_on_lem : (x r : Range) → goes_on x r ≡ true → (x.mask ≡ r.mask) × (x.to + 1 ≡ r.from)
goes_on_lem x r e =
    let t = and_both (eqb x.mask r.mask) (eqb (x.to + 1) r.from) e in
    (eqb-true _ _ t.0, eqb-true _ _ t.1)

ends_push : (l : List Range) (r : Range) (k : ℕ) → r.to < k → Ends (push l r) k
ends_push [] r k h = h
ends_push (x ∷ []) r k h = go (goes_on x r)
  where
    go : (b : Bool) → Ends (if◌then◌else◌ b (joined x r ∷ []) (x ∷ r ∷ [])) k
    go true = h
    go false = h
ends_push (x ∷ y ∷ []) r k h = go (goes_on y r)
  where
    go : (b : Bool) → Ends (x ∷ if◌then◌else◌ b (joined y r ∷ []) (y ∷ r ∷ [])) k
    go true = h
    go false = h
ends_push (x ∷ y ∷ z ∷ l) r k h = ends_push (y ∷ z ∷ l) r k h

-- a push keeps where a table starts, and what stands before it
starts_push : (y : Range) (l : List Range) (r : Range) (k : ℕ) → k ≤ y.from → Starts (push (y ∷ l) r) k
starts_push y [] r k h = go (goes_on y r)
  where
    go : (b : Bool) → Starts (if◌then◌else◌ b (joined y r ∷ []) (y ∷ r ∷ [])) k
    go true = h
    go false = h
starts_push y (z ∷ l) r k h = h

apart_push : (x y : Range) (l : List Range) (r : Range) → goes_on x y ≡ false → Apart x (push (y ∷ l) r)
apart_push x y [] r h = go (goes_on y r)
  where
    go : (b : Bool) → Apart x (if◌then◌else◌ b (joined y r ∷ []) (y ∷ r ∷ []))
    go true = h
    go false = h
apart_push x y (z ∷ l) r h = h

canon_push : (l : List Range) (r : Range) → Canon l → r.from ≤ r.to → Ends l r.from → Canon (push l r)
canon_push [] r c h e = (h, tt, tt, tt)
canon_push (x ∷ []) r c h e = go (goes_on x r) refl
  where
    go : (b : Bool) → goes_on x r ≡ b → Canon (if◌then◌else◌ b (joined x r ∷ []) (x ∷ r ∷ []))
    go true q = (omega (arith, c.0), tt, tt, tt)
    go false q = (c.0, omega arith, q, (h, tt, tt, tt))
canon_push (x ∷ y ∷ l) r c h e = (c.0, starts_push y l r (x.to + 1) c.1, apart_push x y l r c.2, canon_push (y ∷ l) r c.3 h e)

at_push : (l : List Range) (r : Range) (n : ℕ) → Sorted l → r.from ≤ r.to → at (push l r) n ≡ at (l ++ (r ∷ [])) n
at_push [] r n s h = refl
at_push (x ∷ []) r n s h = go (goes_on x r) refl
  where
    go : (b : Bool) → goes_on x r ≡ b → at (if◌then◌else◌ b (joined x r ∷ []) (x ∷ r ∷ [])) n ≡ at (x ∷ r ∷ []) n
    go false q = refl
    go true q =
        let m = (goes_on_lem x r q).0 in
        let t = (goes_on_lem x r q).1 in
        by_range x n
        (λ f. at_low (joined x r) [] n f ∙ sym (at_low x (r ∷ []) n f ∙ at_low r [] n (omega (arith, s.0))))
        (λ f g. at_here (joined x r) [] n f (omega arith) ∙ sym (at_here x (r ∷ []) n f g))
        (λ f. by_lt r.to n
        (λ g. at_high (joined x r) [] n g ∙ sym (at_high x (r ∷ []) n f ∙ at_high r [] n g))
        (λ g. at_here (joined x r) [] n (omega (arith, s.0)) g ∙ ap Some m ∙ sym (at_high x (r ∷ []) n f ∙ at_here r [] n (omega arith) g)))
at_push (x ∷ y ∷ l) r n s h = ap (λ (a : Option ℕ). if◌then◌else◌ (inside x n) (Some x.mask) a) (at_push (y ∷ l) r n s.2 h)

-- ---- many pushes

abbrev Meets : List Range → List Range → Type 0
Meets l [] = Unit {0}
Meets l (r ∷ rs) = Ends l r.from

meets_push : (l : List Range) (r : Range) (rs : List Range) → Starts rs (r.to + 1) → Meets (push l r) rs
meets_push l r [] s = tt
meets_push l r (t ∷ rs) s = ends_push l r t.from (omega arith)

meets_nil : (rs : List Range) → Meets [] rs
meets_nil [] = tt
meets_nil (r ∷ rs) = tt

canon_all : (rs l : List Range) → Canon l → Sorted rs → Meets l rs → Canon (push_all l rs)
canon_all [] l c s m = c
canon_all (r ∷ rs) l c s m = canon_all rs (push l r) (canon_push l r c s.0 m) s.2 (meets_push l r rs s.1)

abbrev or_else : Option ℕ → Option ℕ → Option ℕ
or_else (Some m) h = Some m
or_else None h = h

at_append : (l m : List Range) (n : ℕ) → at (l ++ m) n ≡ or_else (at l n) (at m n)
at_append [] m n = refl
at_append (r ∷ l) m n = go (at_append l m n) (inside r n)
  where
    go : at (l ++ m) n ≡ or_else (at l n) (at m n) → (b : Bool) → if◌then◌else◌ b (Some r.mask) (at (l ++ m) n) ≡ or_else (if◌then◌else◌ b (Some r.mask) (at l n)) (at m n)
    go e true = refl
    go e false = e

at_all : (rs l : List Range) (n : ℕ) → Canon l → Sorted rs → Meets l rs → at (push_all l rs) n ≡ at (l ++ rs) n
at_all [] l n c s m = ap (λ (k : List Range). at k n) (sym (append-nil l))
at_all (r ∷ rs) l n c s m =
    at_all rs (push l r) n (canon_push l r c s.0 m) s.2 (meets_push l r rs s.1)
    ∙ at_append (push l r) rs n
    ∙ ap (λ (h : Option ℕ). or_else h (at rs n)) (at_push l r n (canon_sorted l c) s.0)
    ∙ sym (at_append (l ++ (r ∷ [])) rs n)
    ∙ ap (λ (k : List Range). at k n) (append_assoc l (r ∷ []) rs)

-- ---- the parts below a

module _ (a : ℕ) (r : Range) where
  cut_low : 0 < a → (cut_below a r).to < a
  cut_low h = by_lt r.to a (λ f. simp (lt-ltb _ _ f) f) (λ f. simp (le-ltb _ _ f) (omega arith))

  cut_le : (cut_below a r).to ≤ r.to
  cut_le = by_lt r.to a (λ f. simp (lt-ltb _ _ f) (le_refl r.to)) (λ f. simp (le-ltb _ _ f) (omega arith))

  cut_in : (n : ℕ) → n < a → n ≤ r.to → n ≤ (cut_below a r).to
  cut_in n h g = by_lt r.to a (λ f. simp (lt-ltb _ _ f) g) (λ f. simp (le-ltb _ _ f) (omega arith))

  inside_cut : (n : ℕ) → n < a → inside (cut_below a r) n ≡ inside r n
  inside_cut n h =
      by_range r n
      (λ f. in_low (cut_below a r) n f ∙ sym (in_low r n f))
      (λ f g. in_yes (cut_below a r) n f (cut_in n h g) ∙ sym (in_yes r n f g))
      (λ f. in_high (cut_below a r) n (omega (arith, cut_le)) ∙ sym (in_high r n f))

  below_cases : (P : List Range → Type 0) → (r.from < a → P (cut_below a r ∷ [])) → (a ≤ r.from → P []) → P (below a r)
  below_cases P f g = by_lt r.from a (λ h. simp (lt-ltb _ _ h) (f h)) (λ h. simp (le-ltb _ _ h) (g h))

starts_below : (a : ℕ) (l m : List Range) (k : ℕ) → Sorted l → Starts l k → Starts m k → Starts (each (below a) l ++ m) k
starts_below a [] m k s p q = q
starts_below a (r ∷ l) m k s p q =
    let rest = starts_below a l m k s.2 (starts_le l (omega (arith, s.0)) s.1) q in
    below_cases a r (λ x. Starts ((x ++ each (below a) l) ++ m) k) (λ h. p) (λ h. rest)

sorted_below : (a : ℕ) (l m : List Range) → Sorted l → Sorted m → Starts m a → Sorted (each (below a) l ++ m)
sorted_below a [] m s t q = t
sorted_below a (r ∷ l) m s t q =
    let rest = sorted_below a l m s.2 t q in
    below_cases a r (λ x. Sorted ((x ++ each (below a) l) ++ m))
    (λ h.
    let low : (cut_below a r).to < a = cut_low a r (omega arith) in
    (cut_in a r r.from h s.0, starts_below a l m ((cut_below a r).to + 1) s.2 (starts_le l (omega (arith, cut_le a r)) s.1) (starts_le m (omega arith) q), rest))
    (λ h. rest)

at_below : (a : ℕ) (l m : List Range) (n : ℕ) → n < a → at m n ≡ None → at (each (below a) l ++ m) n ≡ at l n
at_below a [] m n h e = e
at_below a (r ∷ l) m n h e =
    let rest = at_below a l m n h e in
    below_cases a r (λ x. at ((x ++ each (below a) l) ++ m) n ≡ at (r ∷ l) n)
    (λ f. ap (λ (b : Bool). if◌then◌else◌ b (Some r.mask) (at (each (below a) l ++ m) n)) (inside_cut a r n h) ∙ ap (λ (x : Option ℕ). if◌then◌else◌ (inside r n) (Some r.mask) x) rest)
    (λ f. rest ∙ sym (at_low r l n (omega arith)))

past_below : (a : ℕ) (l m : List Range) (n : ℕ) → a ≤ n → at (each (below a) l ++ m) n ≡ at m n
past_below a [] m n h = refl
past_below a (r ∷ l) m n h =
    let rest = past_below a l m n h in
    below_cases a r (λ x. at ((x ++ each (below a) l) ++ m) n ≡ at m n)
    (λ f. at_high (cut_below a r) (each (below a) l ++ m) n (omega (arith, cut_low a r (omega arith))) ∙ rest)
    (λ f. rest)

-- ---- the parts above b

module _ (b : ℕ) (r : Range) where
  cut_high : b < (cut_above b r).from
  cut_high = by_lt b r.from (λ f. simp (lt-ltb _ _ f) f) (λ f. simp (le-ltb _ _ f) (omega arith))

  cut_ge : r.from ≤ (cut_above b r).from
  cut_ge = by_lt b r.from (λ f. simp (lt-ltb _ _ f) (le_refl r.from)) (λ f. simp (le-ltb _ _ f) (omega arith))

  cut_from : (n : ℕ) → b < n → r.from ≤ n → (cut_above b r).from ≤ n
  cut_from n h g = by_lt b r.from (λ f. simp (lt-ltb _ _ f) g) (λ f. simp (le-ltb _ _ f) (omega arith))

  inside_above : (n : ℕ) → b < n → inside (cut_above b r) n ≡ inside r n
  inside_above n h =
      by_range r n
      (λ f. in_low (cut_above b r) n (omega (arith, cut_ge)) ∙ sym (in_low r n f))
      (λ f g. in_yes (cut_above b r) n (cut_from n h f) g ∙ sym (in_yes r n f g))
      (λ f. in_high (cut_above b r) n f ∙ sym (in_high r n f))

  above_cases : (P : List Range → Type 0) → (b < r.to → P (cut_above b r ∷ [])) → (r.to ≤ b → P []) → P (above b r)
  above_cases P f g = by_lt b r.to (λ h. simp (lt-ltb _ _ h) (f h)) (λ h. simp (le-ltb _ _ h) (g h))

starts_above : (b : ℕ) (l : List Range) (k : ℕ) → Sorted l → Starts l k → Starts (each (above b) l) k
starts_above b [] k s p = tt
starts_above b (r ∷ l) k s p =
    let rest = starts_above b l k s.2 (starts_le l (omega (arith, s.0)) s.1) in
    above_cases b r (λ x. Starts (x ++ each (above b) l) k) (λ h. le_trans p (cut_ge b r)) (λ h. rest)

starts_past : (b : ℕ) (l : List Range) → Starts (each (above b) l) (b + 1)
starts_past b [] = tt
starts_past b (r ∷ l) =
    let rest = starts_past b l in
    above_cases b r (λ x. Starts (x ++ each (above b) l) (b + 1)) (λ h. omega (arith, cut_high b r)) (λ h. rest)

sorted_above : (b : ℕ) (l : List Range) → Sorted l → Sorted (each (above b) l)
sorted_above b [] s = tt
sorted_above b (r ∷ l) s =
    let rest = sorted_above b l s.2 in
    above_cases b r (λ x. Sorted (x ++ each (above b) l)) (λ h. (cut_from b r r.to h s.0, starts_above b l (r.to + 1) s.2 s.1, rest)) (λ h. rest)

at_above : (b : ℕ) (l : List Range) (n : ℕ) → b < n → at (each (above b) l) n ≡ at l n
at_above b [] n h = refl
at_above b (r ∷ l) n h =
    let rest = at_above b l n h in
    above_cases b r (λ x. at (x ++ each (above b) l) n ≡ at (r ∷ l) n)
    (λ f. ap (λ (t : Bool). if◌then◌else◌ t (Some r.mask) (at (each (above b) l) n)) (inside_above b r n h) ∙ ap (λ (x : Option ℕ). if◌then◌else◌ (inside r n) (Some r.mask) x) rest)
    (λ f. rest ∙ sym (at_high r l n (omega arith)))

before_above : (b : ℕ) (l : List Range) (n : ℕ) → n ≤ b → at (each (above b) l) n ≡ None
before_above b [] n h = refl
before_above b (r ∷ l) n h =
    let rest = before_above b l n h in
    above_cases b r (λ x. at (x ++ each (above b) l) n ≡ None)
    (λ f. at_low (cut_above b r) (each (above b) l) n (omega (arith, cut_high b r)) ∙ rest)
    (λ f. rest)

-- ---- the whole

module _ (l : List Range) (w : Range) (c : Canon l) (h : w.from ≤ w.to) where
  sorted_pieces : Sorted (pieces l w)
  sorted_pieces = sorted_below w.from l (w ∷ each (above w.to) l) (canon_sorted l c) (h, starts_past w.to l, sorted_above w.to l (canon_sorted l c)) (le_refl w.from)

  -- the table that is written is canonical
  pub overwrite_canon : Canon (overwrite l w)
  unfolding overwrite
  overwrite_canon = canon_all (pieces l w) [] tt sorted_pieces (meets_nil (pieces l w))

  at_pieces : (n : ℕ) → at (pieces l w) n ≡ if◌then◌else◌ (inside w n) (Some w.mask) (at l n)
  at_pieces n =
      let m = each (above w.to) l in
      by_range w n
      (λ f. at_below w.from l (w ∷ m) n f (at_low w m n f ∙ before_above w.to l n (omega arith)) ∙ sym (at_low w l n f))
      (λ f g. past_below w.from l (w ∷ m) n f ∙ at_here w m n f g ∙ sym (at_here w l n f g))
      (λ f. past_below w.from l (w ∷ m) n (omega arith) ∙ at_high w m n f ∙ at_above w.to l n f ∙ sym (at_high w l n f))

  -- at each number of the range its mask, at any other what the table said
  pub overwrite_at : StoredOver l w (overwrite l w)
  unfolding overwrite
  overwrite_at n = at_all (pieces l w) [] n tt sorted_pieces (meets_nil (pieces l w)) ∙ at_pieces n

-- ---- a canonical table is the only one that says what it says

held_free : (m : ℕ) → Some m ≡ None → ⊥
held_free m e = let z : ◌≡◌ {A = ℕ} 0 1 = cc in omega arith

true_false : true ≡ false → ⊥
true_false e = let z : ◌≡◌ {A = ℕ} 0 1 = cc in omega arith

same_held : (a b : ℕ) → Some a ≡ Some b → a ≡ b
same_held a b e = cc

-- after a range of a canonical table, the next number is not some at its mask
next_differs : (r : Range) (l : List Range) → Sorted l → Starts l (r.to + 1) → Apart r l → at l (r.to + 1) ≡ Some r.mask → ⊥
next_differs r [] s p a e = held_free r.mask (sym e)
next_differs r (t ∷ l) s p a e =
    by_lt (r.to + 1) t.from
    (λ f. held_free r.mask (sym e ∙ at_before (t ∷ l) t.from (r.to + 1) s (le_refl t.from) f))
    (λ f.
    let here : Some t.mask ≡ Some r.mask = sym (at_here t l (r.to + 1) f (omega (arith, s.0))) ∙ e in
    let mask : r.mask ≡ t.mask = sym (same_held t.mask r.mask here) in
    let next : r.to + 1 ≡ t.from = omega arith in
    let on : goes_on r t ≡ true = simp (eq-eqb _ _ mask, eq-eqb _ _ next) in
    true_false (sym on ∙ a))

module _ (r s : Range) (l m : List Range) (c : Canon (r ∷ l)) (d : Canon (s ∷ m)) (e : (n : ℕ) → at (r ∷ l) n ≡ at (s ∷ m) n) where
  from_le : s.from ≤ r.from
  from_le =
      by_lt r.from s.from
      (λ f. absurd (held_free r.mask (sym (at_here r l r.from (le_refl r.from) c.0) ∙ e r.from ∙ at_before (s ∷ m) s.from r.from (canon_sorted (s ∷ m) d) (le_refl s.from) f)))
      (λ f. f)

  mask_is : r.from ≡ s.from → r.mask ≡ s.mask
  mask_is p = same_held r.mask s.mask (sym (at_here r l r.from (le_refl r.from) c.0) ∙ e r.from ∙ at_here s m r.from (omega arith) (omega (arith, d.0)))

  to_le : r.from ≡ s.from → s.to ≤ r.to
  to_le p =
      by_lt r.to s.to
      (λ f. absurd (next_differs r l (canon_sorted l c.3) c.1 c.2
      (sym (at_high r l (r.to + 1) (omega arith)) ∙ e (r.to + 1) ∙ at_here s m (r.to + 1) (omega (arith, c.0)) (omega arith) ∙ ap Some (sym (mask_is p)))))
      (λ f. f)

  tails : r.to ≡ s.to → (n : ℕ) → at l n ≡ at m n
  tails p n =
      by_lt r.to n
      (λ f. sym (at_high r l n f) ∙ e n ∙ at_high s m n (omega arith))
      (λ f. at_before l (r.to + 1) n (canon_sorted l c.3) c.1 (omega arith) ∙ sym (at_before m (s.to + 1) n (canon_sorted m d.3) d.1 (omega arith)))

-- so equality of what is stored is equality of lists
pub unique : (l m : List Range) → Canon l → Canon m → ((n : ℕ) → at l n ≡ at m n) → l ≡ m
unique [] [] c d e = refl
unique [] (s ∷ m) c d e = absurd (held_free s.mask (sym (at_here s m s.from (le_refl s.from) d.0) ∙ sym (e s.from)))
unique (r ∷ l) [] c d e = absurd (held_free r.mask (sym (at_here r l r.from (le_refl r.from) c.0) ∙ e r.from))
unique (r ∷ l) (s ∷ m) c d e =
    let back : (n : ℕ) → at (s ∷ m) n ≡ at (r ∷ l) n = λ n. sym (e n) in
    let from : r.from ≡ s.from = omega (arith, from_le r s l m c d e, from_le s r m l d c back) in
    let to : r.to ≡ s.to = omega (arith, to_le r s l m c d e from, to_le s r m l d c back (sym from)) in
    let mask : r.mask ≡ s.mask = mask_is r s l m c d e from in
    let head : r ≡ s = λ i. record { from = from i; to = to i; mask = mask i } in
    let rest : l ≡ m = unique l m c.3 d.3 (tails r s l m c d e to) in
    λ i. head i ∷ rest i

-- ---- a canonical table is the shortest that stores the same

push_length : (l : List Range) (r : Range) → length (push l r) ≤ length l + 1
push_length [] r = le_refl 1
push_length (x ∷ []) r = go (goes_on x r)
  where
    go : (b : Bool) → length (if◌then◌else◌ b (joined x r ∷ []) (x ∷ r ∷ [])) ≤ 2
    go true = omega arith
    go false = omega arith
push_length (x ∷ y ∷ l) r = omega (arith, push_length (y ∷ l) r)

all_length : (l rs : List Range) → length (push_all l rs) ≤ length l + length rs
all_length l [] = omega arith
all_length l (r ∷ rs) = le_trans (all_length (push l r) rs) (omega (arith, push_length l r))

pub shortest : (l m : List Range) → Canon l → Sorted m → Same l m → length l ≤ length m
shortest l m c s e =
    let is : push_all [] m ≡ l = unique (push_all [] m) l (canon_all m [] tt s (meets_nil m)) c (λ n. at_all m [] n tt s (meets_nil m) ∙ e n) in
    omega (arith, ap length is, all_length [] m)

-- refusal 17: the joined list has more than k ranges exactly if each list of disjoint ranges that stores the same has
pub too_many_lem : (k : ℕ) (l : List Range) (w : Range) → Canon l → w.from ≤ w.to → k < length (overwrite l w) → (m : List Range) → Sorted m → StoredOver l w m → k < length m
too_many_lem k l w c h f m s e =
    lt_of_lt_of_le f (shortest (overwrite l w) m (overwrite_canon l w c h) s (λ n. e n ∙ sym (overwrite_at l w c h n)))

pub not_too_many : (k : ℕ) (l : List Range) (w : Range) → Canon l → w.from ≤ w.to → ((m : List Range) → Sorted m → StoredOver l w m → k < length m) → k < length (overwrite l w)
not_too_many k l w c h f = f (overwrite l w) (canon_sorted (overwrite l w) (overwrite_canon l w c h)) (overwrite_at l w c h)

-- ---- masks changed

module _ (g : ℕ → ℕ) where
  abbrev changed : List Range → List Range
  changed l = each (λ r. remask g r ∷ []) l

  starts_changed : (l : List Range) (k : ℕ) → Starts l k → Starts (changed l) k
  starts_changed [] k s = tt
  starts_changed (r ∷ l) k s = s

  sorted_changed : (l : List Range) → Sorted l → Sorted (changed l)
  sorted_changed [] s = tt
  sorted_changed (r ∷ l) s = (s.0, starts_changed l (r.to + 1) s.1, sorted_changed l s.2)

  at_changed : (l : List Range) (n : ℕ) → at (changed l) n ≡ mapped g (at l n)
  at_changed [] n = refl
  at_changed (r ∷ l) n = go (at_changed l n) (inside r n)
    where
      go : at (changed l) n ≡ mapped g (at l n) → (b : Bool) → if◌then◌else◌ b (Some (g r.mask)) (at (changed l) n) ≡ mapped g (if◌then◌else◌ b (Some r.mask) (at l n))
      go e true = refl
      go e false = e

  pub remasked_canon : (l : List Range) → Sorted l → Canon (remasked g l)
  unfolding remasked
  remasked_canon l s = canon_all (changed l) [] tt (sorted_changed l s) (meets_nil (changed l))

  -- what is stored at a key is changed by g, and nothing else
  pub remasked_at : (l : List Range) (n : ℕ) → Sorted l → at (remasked g l) n ≡ mapped g (at l n)
  unfolding remasked
  remasked_at l n s = at_all (changed l) [] n tt (sorted_changed l s) (meets_nil (changed l)) ∙ at_changed l n

  -- and the table grows no longer
  pub remasked_length : (l : List Range) → length (remasked g l) ≤ length l
  unfolding remasked
  remasked_length l = le_trans (all_length [] (changed l)) (omega (arith, same_length l))
    where
      same_length : (l : List Range) → length (changed l) ≡ length l
      same_length [] = refl
      same_length (r ∷ l) = ap suc (same_length l)

-- ---- whether a table is canonical, by a test

follows_true : (r : Range) (l : List Range) → follows r l ≡ true → Starts l (r.to + 1) × Apart r l
follows_true r [] e = (tt, tt)
follows_true r (s ∷ l) e =
    let b = and_both (ltb r.to s.from) (not (goes_on r s)) e in
    let h : r.to < s.from = ltb-true r.to s.from b.0 in
    (omega arith, not-true (goes_on r s) b.1)

true_follows : (r : Range) (l : List Range) → Starts l (r.to + 1) → Apart r l → follows r l ≡ true
true_follows r [] h a = refl
true_follows r (s ∷ l) h a = rw (lt-ltb r.to s.from (omega arith), a)

pub canon_true : (l : List Range) → is_canon l ≡ true → Canon l
unfolding is_canon
canon_true [] e = tt
canon_true (r ∷ l) e =
    let b = and_both (heads r l) (is_canon l) e in
    let c = and_both (leb r.from r.to) (follows r l) b.0 in
    let f = follows_true r l c.1 in
    (leb-true r.from r.to c.0, f.0, f.1, canon_true l b.1)

pub true_canon : (l : List Range) → Canon l → is_canon l ≡ true
unfolding is_canon
true_canon [] c = refl
true_canon (r ∷ l) c = rw (le-leb r.from r.to c.0, true_follows r l c.1 c.2, true_canon l c.3)
