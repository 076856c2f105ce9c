-- Bridge: what a push leaves on a table in lent words (words/specs/Counted), and the rows that are left from one on;
-- tied by the Laws of req_batch, insts and highest_slot, and by those of table.
use Rattle.std.specs.Prelude.{◌≡◌, Bool, false, List, [], ◌∷◌, ◌++◌, ℕ, ◌+◌, ◌*◌, ◌≤◌, leb, length, drop, get_or, if◌then◌else◌}
use Rattle.std.specs.Prelude.{Option, None, Some}
use Rattle.words.specs.Counted.{counted}

-- lim rows at most
abbrev pub capped : {A : Type 0} → ℕ → List A → Option (List A)
capped lim l = if leb (length l) lim then Some l else None

-- from the end of the table on the words are as they were
abbrev pub Beyond : ℕ → ℕ → List ℕ → List ℕ → Type 0
Beyond w lim s t = (j : ℕ) → 1 + lim * w ≤ j → get_or t j 0 ≡ get_or s j 0

-- rows of w words that f reads, lim at most
module _ {A : Type 0} (f : List ℕ → ℕ → A) (w lim : ℕ) where
  -- the rows of the words s from the i-th on
  abbrev pub rows_from : List ℕ → ℕ → List A
  rows_from s i = drop i (counted f w lim s)

  -- what a push of x onto the words s leaves: the answer, and the words t
  pub record Pushes (s : List ℕ) (x : A) (r : Bool) (t : List ℕ) : Type 0 where
    pub outcome : (if r then Some (counted f w lim t) else None) ≡ capped lim (counted f w lim s ++ (x ∷ []))
    pub refused : r ≡ false → t ≡ s
    pub beyond : Beyond w lim s t
