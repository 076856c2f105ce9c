-- Trusted: a list of edits, refused ones included, and what holds of every roster that edits make.
use Rattle.std.specs.Prelude.{ℕ, ◌≤◌, ◌≡◌, Bool, true, ◌&&◌, List, ◌∷◌, [], leb, length}
use Rattle.roster_ranges.specs.Canon.{Canon, is_canon}
use Rattle.ids.specs.Limits.{ranges}
use Rattle.roster_conf.specs.Conf.{Conf, empty}
use Rattle.roster_conf.specs.Edit.{Edit, EditResult, refused, taken, edit_result}

-- a refused edit leaves the roster as it was
abbrev pub left : Conf → EditResult → Conf
left c (refused n) = c
left c (taken d) = d

abbrev pub edit_all : ℕ → Conf → List Edit → Conf
edit_all population c [] = c
edit_all population c (e ∷ es) = edit_all population (left c (edit_result population c e)) es

-- what holds of every roster that edits make: ascending, disjoint and joined, at most 64 ranges
abbrev pub Good : Conf → Type 0
Good c = Canon c.ranges × (length c.ranges ≤ ranges)

-- the same as a test
abbrev pub is_good : Conf → Bool
is_good c = is_canon c.ranges && leb (length c.ranges) ranges

-- every roster that edits make passes it
abbrev pub EditsMakeGood : Type 0
EditsMakeGood = (population : ℕ) (es : List Edit) → is_good (edit_all population empty es) ≡ true
