-- Trusted: the table of ranges that lent words stand for, five to a row: start high and low, end high and low, mask.
-- What storing a list leaves is a bridge, tied by roster_conf/proofs/Laws; so are the rows that are left, tied by the
-- Laws here.
use Rattle.std.specs.Prelude.{ℕ, ◌+◌, ◌-◌, ◌*◌, ◌^◌, ◌≤◌, ◌<◌, Bool, false, List, ◌∷◌, [], ◌≡◌, get_or, length}
use Rattle.std.specs.Prelude.{Option, None, Some, Result, Ok, Err}
use Rattle.std.specs.Borrow.{MutBor}
use Rattle.words.specs.Tab.{tab}
use Rattle.words.specs.Part.{Untouched}
use Rattle.ids.specs.Limits.{ranges}
use Rattle.ids.specs.declared.Refusal.{Refusal}
use Rattle.ids.specs.declared.Refusal.TheVariants.{TooManyRanges}
use Rattle.layout.specs.Layout.{roster_row, roster_words}
use Rattle.inty.specs.Value.{value_of}
use Rattle.roster_ranges.specs.Range.{Range, goes_on}
use Rattle.roster_map.specs.declared.Row.{Row}

abbrev pub range_of : Row → Range
range_of r = record { from = value_of r.start; to = value_of r.end; mask = r.mask }

abbrev pub row_words : Row → List ℕ
row_words r = r.start.hi ∷ r.start.lo ∷ r.end.hi ∷ r.end.lo ∷ r.mask ∷ []

-- the row at word p
unfoldable pub range_at : List ℕ → ℕ → Range
range_at s p =
    record {
      from = get_or s p 0 * 2 ^ 64 + get_or s (p + 1) 0;
      to = get_or s (p + 2) 0 * 2 ^ 64 + get_or s (p + 3) 0;
      mask = get_or s (p + 4) 0;
    }

-- the first n rows
unfoldable pub ranges_of : List ℕ → ℕ → List Range
ranges_of s n = tab (λ i. range_at s (i * roster_row)) 0 n

-- those of the first n rows from the i-th on
unfoldable pub rows_left : List ℕ → ℕ → ℕ → List Range
rows_left s i n = tab (λ j. range_at s (j * roster_row)) i (n - i)

-- whether r goes on from the last range
abbrev pub extends_last : List Range → Range → Bool
extends_last [] r = false
extends_last (x ∷ []) r = goes_on x r
extends_last (x ∷ y ∷ l) r = extends_last (y ∷ l) r

-- the code's row, where there is one
abbrev pub range_list : Option Row → List Range
range_list None = []
range_list (Some r) = range_of r ∷ []

-- the same words lent on, each as it was or written
abbrev pub SameWords : MutBor (List ℕ) → MutBor (List ℕ) → Type 0
SameWords s t = (t.ghost_name ≡ s.ghost_name) × (length t.now ≡ length s.now)

-- what storing l in the words s leaves: it, as the first n rows of the words t, or a refusal where there are too many
abbrev pub Stores : List Range → List ℕ → Result (Unit {0}) Refusal → List ℕ → ℕ → Type 0
Stores l s (Ok u) t n = (length l ≤ ranges) × (ranges_of t n ≡ l) × Untouched roster_words s t
Stores l s (Err r) t n = (ranges < length l) × (r ≡ TooManyRanges) × (t ≡ s)
