-- What the proofs of this crate share: rows of words as ranges, a push at the end of a table, and passes over one.
use Rattle.std.specs.Prelude.{if◌then◌else◌, option_map}
use Rattle.std.specs.List.{find}
use Rattle.std.specs.Simd.{first_chunks}
use mathlib.Core.Path.{◌≡◌, refl, sym, ap, ◌∙◌}
use mathlib.Core.Bool.{Bool, true, false, cond}
use mathlib.Core.Logic.{inl, inr}
use mathlib.Core.List.{List, ◌∷◌, ◌++◌, []}
use Rattle.std.specs.Prelude.{Option, None, Some, Result, Ok, Err}
use Rattle.ids.specs.declared.Refusal.{Refusal}
use Rattle.ids.specs.declared.Refusal.TheVariants.{TooManyRanges}
use Prim.Native.Nat.{ℕ, zero, suc, ◌+◌, ◌-◌, ◌*◌, ◌/◌, ◌^◌, ◌≤◌, ◌<◌}
use native.Mathlib.Omega.{arith}
use lib.ListN.{length, get_or, take, drop}
use lib.Seq.{get_or-take, get_or-drop, drop-drop, length-take-le}
use lib.Dec.{ltb}
use borrow.Author.Tests.{le-ltb}
use Rattle.words.specs.Choice.{if_none◌then◌else◌}
use Rattle.words.specs.Tab.{tab, tab_snoc, tab_ext, length_tab}
use Rattle.words.specs.Part.{Untouched}
use Rattle.words.specs.Writes.{writes, writes_other, writes_same}
use Rattle.layout.specs.Layout.{roster_row, roster_words}
use Rattle.inty.specs.Value.{value_of}
use Rattle.roster_ranges.specs.Range.{Range, inside, at, goes_on, joined, push, push_all, below, above, each, overwrite, remask, remasked}
use Rattle.roster_map.specs.declared.Row.{Row}
use Rattle.roster_map.specs.Rows.{range_of, row_words, range_at, ranges_of, rows_left, extends_last, Stores}

-- ---- rows

-- the rows from i up to n
abbrev pub rows_from : List ℕ → ℕ → ℕ → List Range
rows_from s i n = tab (λ j. range_at s (j * roster_row)) i (n - i)

module _ (s : List ℕ) where
  pub from_first : (i n : ℕ) → i < n → rows_from s i n ≡ range_at s (i * roster_row) ∷ rows_from s (i + 1) n
  from_first i n h =
      let e : n - i ≡ suc (n - (i + 1)) = omega arith in
      ap (tab (λ j. range_at s (j * roster_row)) i) e

  pub from_none : (i n : ℕ) → n ≤ i → rows_from s i n ≡ []
  from_none i n h = let e : n - i ≡ 0 = omega arith in ap (tab (λ j. range_at s (j * roster_row)) i) e

  pub from_all : (n : ℕ) → rows_from s 0 n ≡ ranges_of s n
  unfolding ranges_of
  from_all n = let e : n - 0 ≡ n = omega arith in ap (tab (λ j. range_at s (j * roster_row)) 0) e

  -- one row more
  pub more_is : (n : ℕ) → ranges_of s (n + 1) ≡ ranges_of s n ++ (range_at s (n * roster_row) ∷ [])
  unfolding ranges_of
  more_is n =
      let z : 0 + n ≡ n = omega arith in
      tab_snoc (λ j. range_at s (j * roster_row)) 0 n ∙ ap (λ (k : ℕ). tab (λ j. range_at s (j * roster_row)) 0 n ++ (range_at s (k * roster_row) ∷ [])) z

  last_is : (n : ℕ) → 0 < n → ranges_of s n ≡ ranges_of s (n - 1) ++ (range_at s ((n - 1) * roster_row) ∷ [])
  last_is n h = let e : n ≡ n - 1 + 1 = omega arith in ap (ranges_of s) e ∙ more_is (n - 1)

-- a row out of the words cut in fives
chunk_at : (k : ℕ) (s : List ℕ) (i : ℕ) → i < k → get_or (first_chunks 5 k s) i [] ≡ take 5 (drop (i * 5) s)
chunk_at zero s i h = absurd (omega arith)
chunk_at (suc k) s zero h =
    let e : 0 ≡ 0 * 5 = omega arith in
    ap (λ (n : ℕ). take 5 (drop n s)) e
chunk_at (suc k) s (suc i) h =
    let e : 5 + i * 5 ≡ suc i * 5 = omega arith in
    chunk_at k (drop 5 s) i (omega arith) ∙ ap (take 5) (drop-drop (i * 5) 5 s ∙ ap (λ (n : ℕ). drop n s) e)

module _ (s : List ℕ) (i : ℕ) (chunks : List (List ℕ)) (e : chunks ≡ first_chunks 5 (length s / 5) s) (h : i * roster_row + roster_row ≤ length s) where
  word_in : (q j : ℕ) → q ≡ i * 5 + j → j < 5 → get_or (get_or chunks i []) j 0 ≡ get_or s q 0
  word_in q j f b =
      let k : i < length s / 5 = omega arith in
      ap (λ (l : List (List ℕ)). get_or (get_or l i []) j 0) e ∙ ap (λ (l : List ℕ). get_or l j 0) (chunk_at (length s / 5) s i k)
      ∙ get_or-take 5 (drop (i * 5) s) j 0 b ∙ get_or-drop (i * 5) s j 0 ∙ ap (λ (n : ℕ). get_or s n 0) (sym f)

  abbrev word : ℕ → ℕ
  word j = get_or (get_or chunks i []) j 0

  pub row_in : record { from = word 0 * 2 ^ 64 + word 1; to = word 2 * 2 ^ 64 + word 3; mask = word 4 } ≡ range_at s (i * roster_row)
  unfolding range_at
  row_in =
      simp (
        word_in (i * roster_row) 0 (omega arith) (omega arith),
        word_in (i * roster_row + 1) 1 (omega arith) (omega arith),
        word_in (i * roster_row + 2) 2 (omega arith) (omega arith),
        word_in (i * roster_row + 3) 3 (omega arith) (omega arith),
        word_in (i * roster_row + 4) 4 (omega arith) (omega arith),
      )

-- a row that is stored, and those before it
module _ (s : List ℕ) (i : ℕ) (v : Row) (h : i * roster_row + roster_row ≤ length s) where
  stored : (q k : ℕ) → q ≡ i * roster_row + k → k < roster_row → get_or (writes s (i * roster_row) (row_words v)) q 0 ≡ get_or (row_words v) k 0
  stored q k e b = rw e (writes_same s (i * roster_row) (row_words v) k h b)

  row_same : range_at (writes s (i * roster_row) (row_words v)) (i * roster_row) ≡ range_of v
  unfolding range_at
  row_same =
      simp (
        stored (i * roster_row) 0 (omega arith) (omega arith),
        stored (i * roster_row + 1) 1 (omega arith) (omega arith),
        stored (i * roster_row + 2) 2 (omega arith) (omega arith),
        stored (i * roster_row + 3) 3 (omega arith) (omega arith),
        stored (i * roster_row + 4) 4 (omega arith) (omega arith),
      )

  before : (q : ℕ) → q < i * roster_row → get_or (writes s (i * roster_row) (row_words v)) q 0 ≡ get_or s q 0
  before q b = writes_other s (i * roster_row) (row_words v) q (inl b)

  row_other : (j : ℕ) → j < i → range_at (writes s (i * roster_row) (row_words v)) (j * roster_row) ≡ range_at s (j * roster_row)
  unfolding range_at
  row_other j b =
      simp (
        before (j * roster_row) (omega arith),
        before (j * roster_row + 1) (omega arith),
        before (j * roster_row + 2) (omega arith),
        before (j * roster_row + 3) (omega arith),
        before (j * roster_row + 4) (omega arith),
      )

  pub put_last : ranges_of (writes s (i * roster_row) (row_words v)) (i + 1) ≡ ranges_of s i ++ (range_of v ∷ [])
  unfolding ranges_of
  put_last =
      let t = writes s (i * roster_row) (row_words v) in
      let z : 0 + i ≡ i = omega arith in
      let rest = tab_ext (λ j. range_at t (j * roster_row)) (λ j. range_at s (j * roster_row)) 0 i (λ j a b. row_other j (omega arith)) in
      tab_snoc (λ j. range_at t (j * roster_row)) 0 i ∙ ap (λ (l : List Range). l ++ (range_at t ((0 + i) * roster_row) ∷ [])) rest
      ∙ ap (λ (k : ℕ). tab (λ j. range_at s (j * roster_row)) 0 i ++ (range_at t (k * roster_row) ∷ [])) z
      ∙ ap (λ (r : Range). tab (λ j. range_at s (j * roster_row)) 0 i ++ (r ∷ [])) row_same

-- a row at word p, where words are as they were from p on
pub range_kept : (s t : List ℕ) (p : ℕ) → Untouched p s t → range_at t p ≡ range_at s p
unfolding range_at
range_kept s t p h =
    simp (h p (omega arith), h (p + 1) (omega arith), h (p + 2) (omega arith), h (p + 3) (omega arith), h (p + 4) (omega arith))

-- a row stored at n or below it leaves the words past row n
pub put_beyond : (s t : List ℕ) (i n : ℕ) (v : Row) → t ≡ writes s (i * roster_row) (row_words v) → i ≤ n → Untouched ((n + 1) * roster_row) s t
put_beyond s t i n v e h j k = ap (λ (x : List ℕ). get_or x j 0) e ∙ writes_other s (i * roster_row) (row_words v) j (inr (omega arith))

-- ---- the rows one by one

pub first_left : (s : List ℕ) (i n : ℕ) (r : Range) → i < n → r ≡ range_at s (i * roster_row) → rows_left s i n ≡ r ∷ rows_left s (i + 1) n
unfolding rows_left
first_left s i n r h e = from_first s i n h ∙ ap (λ (x : Range). x ∷ rows_from s (i + 1) n) (sym e)

pub none_left : (s : List ℕ) (i n : ℕ) → n ≤ i → rows_left s i n ≡ []
unfolding rows_left
none_left s i n h = from_none s i n h

pub all_left : (s : List ℕ) (n : ℕ) → rows_left s 0 n ≡ ranges_of s n
unfolding rows_left
all_left s n = from_all s n

-- ---- lookup

found_in : (l : List Range) (v : ℕ) → option_map (λ (r : Range). r.mask) (find (λ r. inside r v) l) ≡ at l v
found_in [] v = refl
found_in (r ∷ l) v = go (inside r v) (found_in l v)
  where
    go : (b : Bool) → option_map (λ (x : Range). x.mask) (find (λ x. inside x v) l) ≡ at l v
        → option_map (λ (x : Range). x.mask) (cond b (Some r) (find (λ x. inside x v) l)) ≡ (if b then Some r.mask else at l v)
    go true e = refl
    go false e = e

-- o is the row that the search gave, m its mask
pub found : (l : List Range) (v : ℕ) (o : Option Row) (m : Option ℕ) → option_map range_of o ≡ find (λ r. inside r v) l → m ≡ option_map (λ (r : Row). r.mask) o → m ≡ at l v
found l v o m e f = f ∙ masks o ∙ ap (option_map (λ (r : Range). r.mask)) e ∙ found_in l v
  where
    masks : (o : Option Row) → option_map (λ (r : Row). r.mask) o ≡ option_map (λ (r : Range). r.mask) (option_map range_of o)
    masks None = refl
    masks (Some r) = refl

-- row i of those that are left holds v, or the others are looked at
pub hit : (s : List ℕ) (i n v : ℕ) → i < n → inside (range_at s (i * roster_row)) v ≡ true → at (rows_left s i n) v ≡ Some (range_at s (i * roster_row)).mask
hit s i n v h e = rw (first_left s i n (range_at s (i * roster_row)) h refl, e) refl

pub miss : (s : List ℕ) (i n v : ℕ) → i < n → inside (range_at s (i * roster_row)) v ≡ false → at (rows_left s i n) v ≡ at (rows_left s (i + 1) n) v
miss s i n v h e = rw (first_left s i n (range_at s (i * roster_row)) h refl, e) refl

-- ---- a push

extends_snoc : (l : List Range) (x r : Range) → extends_last (l ++ (x ∷ [])) r ≡ goes_on x r
extends_snoc [] x r = refl
extends_snoc (y ∷ []) x r = refl
extends_snoc (y ∷ z ∷ l) x r = extends_snoc (z ∷ l) x r

push_no : (l : List Range) (r : Range) → extends_last l r ≡ false → push l r ≡ l ++ (r ∷ [])
push_no [] r e = refl
push_no (x ∷ []) r e = simp e
push_no (x ∷ y ∷ l) r e = ap (λ (t : List Range). x ∷ t) (push_no (y ∷ l) r e)

push_yes : (l : List Range) (x r : Range) → goes_on x r ≡ true → push (l ++ (x ∷ [])) r ≡ l ++ (joined x r ∷ [])
push_yes [] x r e = simp e
push_yes (y ∷ []) x r e = simp e
push_yes (y ∷ z ∷ l) x r e = ap (λ (t : List Range). y ∷ t) (push_yes (z ∷ l) x r e)

pub extends_none : (s : List ℕ) (n : ℕ) (r : Range) → n ≤ 0 → ltb 0 n ≡ extends_last (ranges_of s n) r
unfolding ranges_of
extends_none s n r h = let e : n ≡ 0 = omega arith in rw e

pub extends_some : (s : List ℕ) (n : ℕ) (x r : Range) (t : Bool) → 0 < n → x ≡ range_at s ((n - 1) * roster_row) → t ≡ goes_on x r → t ≡ extends_last (ranges_of s n) r
extends_some s n x r t h e f =
    f ∙ ap (λ (y : Range). goes_on y r) e ∙ sym (ap (λ (l : List Range). extends_last l r) (last_is s n h) ∙ extends_snoc (ranges_of s (n - 1)) (range_at s ((n - 1) * roster_row)) r)

module _ (s : List ℕ) (n : ℕ) (r : Range) (t : Bool) (e : t ≡ extends_last (ranges_of s n) r) where
  pub extends_pos : t ≡ true → 1 ≤ n
  extends_pos f = go n refl
    where
      nothing : n ≡ 0 → false ≡ true
      nothing z = sym (le-ltb 0 n (omega arith)) ∙ extends_none s n r (omega arith) ∙ sym e ∙ f

      go : (k : ℕ) → n ≡ k → 1 ≤ n
      go zero z = let q : false ≡ true = nothing z in let w : ◌≡◌ {A = ℕ} 0 1 = cc in absurd (omega arith)
      go (suc k) z = omega arith

  pub push_joins : (s' : List ℕ) (x : Range) (v : Row) → t ≡ true → x ≡ range_at s ((n - 1) * roster_row) → range_of v ≡ joined x r → s' ≡ writes s ((n - 1) * roster_row) (row_words v)
      → n * roster_row + roster_row ≤ length s → ranges_of s' n ≡ push (ranges_of s n) r
  push_joins s' x v f g k w h =
      let p : 1 ≤ n = extends_pos f in
      let y = range_at s ((n - 1) * roster_row) in
      let one : n ≡ n - 1 + 1 = omega arith in
      let on : goes_on y r ≡ true = sym (extends_snoc (ranges_of s (n - 1)) y r) ∙ ap (λ (l : List Range). extends_last l r) (sym (last_is s n p)) ∙ sym e ∙ f in
      ap (λ (q : List ℕ). ranges_of q n) w ∙ ap (ranges_of (writes s ((n - 1) * roster_row) (row_words v))) one ∙ put_last s (n - 1) v (omega arith)
      ∙ ap (λ (z : Range). ranges_of s (n - 1) ++ (z ∷ [])) (k ∙ ap (λ (z : Range). joined z r) g)
      ∙ sym (ap (λ (l : List Range). push l r) (last_is s n p) ∙ push_yes (ranges_of s (n - 1)) y r on)

pub push_adds : (s : List ℕ) (n : ℕ) (v : Row) (t : Bool) (s' : List ℕ) → t ≡ extends_last (ranges_of s n) (range_of v) → t ≡ false → s' ≡ writes s (n * roster_row) (row_words v)
    → n * roster_row + roster_row ≤ length s → ranges_of s' (n + 1) ≡ push (ranges_of s n) (range_of v)
push_adds s n v t s' e f w h =
    ap (λ (q : List ℕ). ranges_of q (n + 1)) w ∙ put_last s n v h ∙ sym (push_no (ranges_of s n) (range_of v) (sym e ∙ f))

-- ---- a pass: what is pushed of the rows from i on, onto what stands, is k

pub push_all_append : (l xs ys : List Range) → push_all l (xs ++ ys) ≡ push_all (push_all l xs) ys
push_all_append l [] ys = refl
push_all_append l (x ∷ xs) ys = push_all_append (push l x) xs ys

module _ (f : Range → List Range) (s : List ℕ) (i n : ℕ) (l k : List Range) where
  pub pass_on : (m : List Range) (r : Range) → i < n → r ≡ range_at s (i * roster_row) → m ≡ push_all l (f r) → push_all l (each f (rows_from s i n)) ≡ k → push_all m (each f (rows_from s (i + 1) n)) ≡ k
  pass_on m r h e g p =
      ap (λ (x : List Range). push_all x (each f (rows_from s (i + 1) n))) (g ∙ ap (λ (x : Range). push_all l (f x)) e)
      ∙ sym (push_all_append l (f (range_at s (i * roster_row))) (each f (rows_from s (i + 1) n)))
      ∙ sym (ap (λ (x : List Range). push_all l (each f x)) (from_first s i n h)) ∙ p

pub pass_start : (f : Range → List Range) (s : List ℕ) (n : ℕ) (l : List Range) → push_all l (each f (rows_from s 0 n)) ≡ push_all l (each f (ranges_of s n))
pass_start f s n l = ap (λ (x : List Range). push_all l (each f x)) (from_all s n)

-- w over l: the parts below it onto nothing, w itself, the parts above it
pub overwrite_is : (s : List ℕ) (l x y z : List Range) (w : Row) → x ≡ push_all (ranges_of s 0) (each (below (value_of w.start)) l) → y ≡ push x (range_of w)
    → z ≡ push_all y (each (above (value_of w.end)) l) → z ≡ overwrite l (range_of w)
unfolding ranges_of overwrite
overwrite_is s l x y z w e f g =
    g ∙ ap (λ (k : List Range). push_all k (each (above (value_of w.end)) l)) (f ∙ ap (λ (k : List Range). push k (range_of w)) e)
    ∙ sym (push_all_append [] (each (below (value_of w.start)) l) (range_of w ∷ each (above (value_of w.end)) l))

-- ---- masks changed in place: with the rows from i on, those that stand make what is due

unfoldable pub FilterRest : (ℕ → ℕ) → List ℕ → ℕ → ℕ → List Range → Type 0
FilterRest g s i n l = push_all l (each (λ r. remask g r ∷ []) (rows_from s i n)) ≡ remasked g (ranges_of s n)

module _ (g : ℕ → ℕ) (s : List ℕ) where
  pub filter_start : (n : ℕ) (t : List ℕ) → FilterRest g s 0 n (ranges_of t 0)
  unfolding FilterRest remasked ranges_of
  filter_start n t = pass_start (λ r. remask g r ∷ []) s n []

  pub filter_on : (i n : ℕ) (l m : List Range) (x r : Range) (t : List ℕ) → i < n → r ≡ remask g x → x ≡ range_at t (i * roster_row) → Untouched (i * roster_row) s t → m ≡ push l r
      → FilterRest g s i n l → FilterRest g s (i + 1) n m
  unfolding FilterRest
  filter_on i n l m x r t h e f u k w =
      let y : r ≡ remask g (range_at s (i * roster_row)) = e ∙ ap (remask g) (f ∙ range_kept s t (i * roster_row) u) in
      pass_on (λ z. remask g z ∷ []) s i n l (remasked g (ranges_of s n)) m (range_at s (i * roster_row)) h refl (k ∙ ap (push l) y) w

  pub filter_end : (i n : ℕ) (l : List Range) → n ≤ i → FilterRest g s i n l → l ≡ remasked g (ranges_of s n)
  unfolding FilterRest
  filter_end i n l h w = sym (ap (λ (x : List Range). push_all l (each (λ r. remask g r ∷ []) x)) (from_none s i n h)) ∙ w

-- ---- the rows stored

pub length_ranges : (s : List ℕ) (n : ℕ) → length (ranges_of s n) ≡ n
unfolding ranges_of
length_ranges s n = length_tab (λ i. range_at s (i * roster_row)) 0 n

pub stores_full : (s out : List ℕ) (n m : ℕ) → 64 < n → Stores (ranges_of out n) s (Err TooManyRanges) s m
stores_full s out n m h = (rw length_ranges h, refl, refl)

module _ (s out : List ℕ) (n : ℕ) (h : n ≤ 64) (k : n * roster_row ≤ length out) (m : roster_words ≤ length s) where
  abbrev written : List ℕ
  written = writes s 0 (take (n * roster_row) out)

  taken : length (take (n * roster_row) out) ≡ n * roster_row
  taken = length-take-le (n * roster_row) out k

  word_same : (q : ℕ) → q < n * roster_row → get_or written q 0 ≡ get_or out q 0
  word_same q b =
      let z : 0 + q ≡ q = omega arith in
      ap (λ (j : ℕ). get_or written j 0) (sym z) ∙ writes_same s 0 (take (n * roster_row) out) q (omega (arith, taken)) (omega (arith, taken)) ∙ get_or-take (n * roster_row) out q 0 b

  pub rows_same : ranges_of written n ≡ ranges_of out n
  unfolding ranges_of range_at
  rows_same =
      tab_ext (λ j. range_at written (j * roster_row)) (λ j. range_at out (j * roster_row)) 0 n
      (λ j a b.
      simp (
        word_same (j * roster_row) (omega arith),
        word_same (j * roster_row + 1) (omega arith),
        word_same (j * roster_row + 2) (omega arith),
        word_same (j * roster_row + 3) (omega arith),
        word_same (j * roster_row + 4) (omega arith),
      ))

  pub stores_rows : (t : List ℕ) → t ≡ written → Stores (ranges_of out n) s (Ok tt) t n
  stores_rows t e =
      (rw length_ranges h, ap (λ (x : List ℕ). ranges_of x n) e ∙ rows_same, λ j f. ap (λ (x : List ℕ). get_or x j 0) e ∙ writes_other s 0 (take (n * roster_row) out) j (inr (omega (arith, taken))))

-- w over l in the words s, of what was stored
pub stores_over : (l : List Range) (s t : List ℕ) (r : Result (Unit {0}) Refusal) (n : ℕ) (out : List ℕ) (k : ℕ) (x y : List Range) (u : List ℕ) (w : Row)
    → x ≡ push_all (ranges_of u 0) (each (below (value_of w.start)) l) → y ≡ push x (range_of w) → ranges_of out k ≡ push_all y (each (above (value_of w.end)) l)
    → Stores (ranges_of out k) s r t n → Stores (overwrite l (range_of w)) s r t n
stores_over l s t r n out k x y u w e f g h = rw (overwrite_is u l x y (ranges_of out k) w e f g) at h
