-- What the proofs of this crate share: two rosters compared part by part, a mask that does not fit found row by row,
-- rows copied.
use mathlib.Core.Path.{◌≡◌, refl, sym, ap, ◌∙◌}
use mathlib.Core.Bool.{Bool, true, false, not, ◌&&◌, ◌||◌, and-false, and-true}
use mathlib.Core.List.{List, ◌∷◌, []}
use Rattle.std.specs.Prelude.{Some}
use Prim.Native.Nat.{ℕ, zero, suc, ◌+◌, ◌-◌, ◌*◌, ◌≤◌}
use native.Mathlib.Omega.{arith}
use lib.Dec.{leb, eqb}
use lib.ListN.{length, take}
use Rattle.std.specs.List.{list_all, list_any, range_with_len}
use Rattle.words.specs.Tab.{tab}
use borrow.Author.Tests.{le-leb, ne_eqb}
use Rattle.words.specs.Writes.{writes}
use Rattle.ids.specs.declared.Replica.{Replica}
use Rattle.ids.specs.Leader.{leader_of}
use Rattle.layout.specs.Layout.{roster_row, roster_words}
use Rattle.bitmap.specs.Bitmap.{fits}
use Rattle.roster_ranges.specs.Range.{Range}
use Rattle.roster_ranges.specs.Canon.{heads, is_canon}
use Rattle.roster_map.specs.Rows.{range_at, ranges_of}
use Rattle.roster_map.proofs.Laws.{rows_from, length_ranges, rows_same}
use Rattle.roster_conf.specs.declared.RespondersConf.{RespondersConf}
use Rattle.roster_conf.specs.Conf.{same, same_leader, same_range, same_ranges}
use Rattle.roster_conf.specs.Edits.{view}
use Rattle.bodega.specs.Grounds.{any, unformed, foreign_leader, foreign_mask}
use Rattle.std.specs.Prelude.{Option, None, MatchOption}
use Rattle.words.specs.Choice.{if_none◌then◌else◌}

-- ---- the rows

lengths_differ : (xs ys : List Range) → (length xs ≡ length ys → ⊥) → false ≡ same_ranges xs ys
lengths_differ [] [] h = absurd (h refl)
lengths_differ [] (y ∷ ys) h = refl
lengths_differ (x ∷ xs) [] h = refl
lengths_differ (x ∷ xs) (y ∷ ys) h = sym (ap (λ (b : Bool). same_range x y && b) (sym (lengths_differ xs ys (λ e. h (ap suc e)))) ∙ and-false (same_range x y))

pub counts_differ : (s u : List ℕ) (n k : ℕ) → (n ≡ k → ⊥) → eqb n k ≡ same_ranges (ranges_of s n) (ranges_of u k)
counts_differ s u n k h = ne_eqb n k h ∙ lengths_differ (ranges_of s n) (ranges_of u k) (λ e. h (sym (length_ranges s n) ∙ e ∙ length_ranges u k))

-- the rows from i on, one by one
same_from : (s u : List ℕ) (i n : ℕ)
    → list_all (λ j. same_range (range_at s (j * roster_row)) (range_at u (j * roster_row))) (range_with_len i n)
    ≡ same_ranges (tab (λ j. range_at s (j * roster_row)) i n) (tab (λ j. range_at u (j * roster_row)) i n)
same_from s u i zero = refl
same_from s u i (suc n) = ap (λ (b : Bool). same_range (range_at s (i * roster_row)) (range_at u (i * roster_row)) && b) (same_from s u (i + 1) n)

pub same_rows_are : (s u : List ℕ) (n k : ℕ) → n ≡ k
    → list_all (λ j. same_range (range_at s (j * roster_row)) (range_at u (j * roster_row))) (range_with_len 0 n) ≡ same_ranges (ranges_of s n) (ranges_of u k)
unfolding ranges_of
same_rows_are s u n k e = same_from s u 0 n ∙ ap (λ (z : ℕ). same_ranges (ranges_of s n) (ranges_of u z)) e

-- ---- the rosters

module _ (c d : RespondersConf) (s u : List ℕ) (t : Bool) (e : t ≡ same_leader (leader_of c.leader) (leader_of d.leader)) where
  pub other_leader : t ≡ false → false ≡ same (view c s) (view d u)
  unfolding same view
  other_leader f = sym (simp (sym e ∙ f))

  module _ (f : t ≡ true) (v : Bool) (g : v ≡ same_ranges (ranges_of s c.count) (ranges_of u d.count)) where
    pub other_rows : v ≡ false → false ≡ same (view c s) (view d u)
    unfolding same view
    other_rows h = sym (simp (sym e ∙ f, sym g ∙ h))

    pub same_default : v ≡ true → eqb c.default d.default ≡ same (view c s) (view d u)
    unfolding same view
    same_default h = sym (simp (sym e ∙ f, sym g ∙ h))

-- ---- rows that no edits make

-- whether row i of n is a range that the next one does not touch
abbrev pub heads_at : List ℕ → ℕ → ℕ → Bool
heads_at s n i = heads (range_at s (i * roster_row)) (rows_from s (i + 1) n)

canon_from : (s : List ℕ) (n i k : ℕ) → i + k ≡ n → list_all (heads_at s n) (range_with_len i k) ≡ is_canon (tab (λ j. range_at s (j * roster_row)) i k)
unfolding is_canon
canon_from s n i zero e = refl
canon_from s n i (suc k) e =
    let f : n - (i + 1) ≡ k = omega arith in
    rw f (ap (λ (b : Bool). heads (range_at s (i * roster_row)) (tab (λ j. range_at s (j * roster_row)) (i + 1) k) && b) (canon_from s n (i + 1) k (omega arith)))

pub unformed_is : (c : RespondersConf) (s : List ℕ) (t : Bool) → c.count ≤ 64 → t ≡ list_all (heads_at s c.count) (range_with_len 0 c.count) → not t ≡ unformed (Some (view c s))
unfolding view ranges_of
unformed_is c s t h e =
    rw (length_ranges s c.count, le-leb c.count 64 h, ← canon_from s c.count 0 c.count (omega arith), ← e) (ap not (sym (and-true t)))

-- ---- who is not there

-- Q is what is known of the answer where there is a leader
pub leader_is : (p : ℕ) (c : RespondersConf) (t : Bool) (Q : Replica → Type 0) → MatchOption c.leader (t ≡ false) Q → ((l : Replica) → Q l → t ≡ leb p l.0)
    → (rows : List ℕ) → t ≡ foreign_leader p (Some (view c rows))
unfolding view
leader_is p c t Q m f rows = go c.leader m
  where
    go : (l : Option Replica) → MatchOption l (t ≡ false) Q → t ≡ if_none leader_of l then false else λ x. leb p x
    go None m = m
    go (Some x) m = f x m

-- whether the mask of a range does not fit
abbrev pub misfit : ℕ → Range → Bool
misfit p x = not (fits x.mask p)

any_from : (s : List ℕ) (p i n : ℕ) → list_any (λ j. misfit p (range_at s (j * roster_row))) (range_with_len i n) ≡ any (misfit p) (tab (λ j. range_at s (j * roster_row)) i n)
any_from s p i zero = refl
any_from s p i (suc n) = ap (λ (b : Bool). misfit p (range_at s (i * roster_row)) || b) (any_from s p (i + 1) n)

module _ (p : ℕ) (c : RespondersConf) (s : List ℕ) (t : Bool) (e : t ≡ list_any (λ j. misfit p (range_at s (j * roster_row))) (range_with_len 0 c.count)) where
  any_is : any (misfit p) (ranges_of s c.count) ≡ t
  unfolding ranges_of
  any_is = sym (any_from s p 0 c.count) ∙ sym e

  pub row_misfits : t ≡ true → t ≡ foreign_mask p (Some (view c s))
  unfolding view
  row_misfits f = f ∙ sym (simp (any_is ∙ f))

  pub rows_fit : (u : Bool) → t ≡ false → u ≡ fits c.default p → not u ≡ foreign_mask p (Some (view c s))
  unfolding view
  rows_fit u f g = ap not g ∙ sym (simp (any_is ∙ f))

-- ---- the rows copied

pub copied : (c : RespondersConf) (s t from : List ℕ) → c.count ≤ 64 → roster_words ≤ length from → roster_words ≤ length s → t ≡ writes s 0 (take (c.count * roster_row) from) → view c t ≡ view c from
unfolding view
copied c s t from h f g e =
    ap (λ (l : List Range). record { leader = leader_of c.leader; ranges = l; default = c.default })
    (ap (λ (x : List ℕ). ranges_of x c.count) e ∙ rows_same s from c.count h (omega arith) g)
