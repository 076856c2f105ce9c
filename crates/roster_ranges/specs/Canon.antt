-- Trusted: when a table is the one list for what it stores: ascending, disjoint, and touching ranges with equal masks
-- are one.
use Rattle.std.specs.Prelude.{ℕ, ◌+◌, ◌≤◌, ◌≡◌, Bool, true, false, ◌&&◌, not, List, [], ◌∷◌, ltb, leb, if◌then◌else◌}
use Rattle.std.specs.Prelude.{Option, None, Some}
use Rattle.words.specs.Choice.{if_none◌then◌else◌}
use Rattle.roster_ranges.specs.Range.{Range, inside, at, goes_on}

-- the first range begins at k or above
abbrev pub Starts : List Range → ℕ → Type 0
Starts [] k = Unit {0}
Starts (s ∷ l) k = k ≤ s.from

-- no range is empty, and each ends before the next begins
abbrev pub Sorted : List Range → Type 0
Sorted [] = Unit {0}
Sorted (r ∷ l) = (r.from ≤ r.to) × Starts l (r.to + 1) × Sorted l

-- the first range does not go on from r
abbrev pub Apart : Range → List Range → Type 0
Apart r [] = Unit {0}
Apart r (s ∷ l) = goes_on r s ≡ false

abbrev pub Canon : List Range → Type 0
Canon [] = Unit {0}
Canon (r ∷ l) = (r.from ≤ r.to) × Starts l (r.to + 1) × Apart r l × Canon l

-- the same as a test: r is a range, and the first one does not touch it
abbrev pub follows : Range → List Range → Bool
follows r [] = true
follows r (s ∷ l) = ltb r.to s.from && not (goes_on r s)

abbrev pub heads : Range → List Range → Bool
heads r l = leb r.from r.to && follows r l

unfoldable pub is_canon : List Range → Bool
is_canon [] = true
is_canon (r ∷ l) = heads r l && is_canon l

-- m stores what l does, at every key; a stored mask 0 is not an unstored key
abbrev pub Same : List Range → List Range → Type 0
Same l m = (n : ℕ) → at m n ≡ at l n

-- m stores w's mask in w, and elsewhere what l does
abbrev pub StoredOver : List Range → Range → List Range → Type 0
StoredOver l w m = (n : ℕ) → at m n ≡ (if inside w n then Some w.mask else at l n)

-- a stored mask changed by g
abbrev pub mapped : (ℕ → ℕ) → Option ℕ → Option ℕ
mapped g o = if_none o then None else λ m. Some (g m)
