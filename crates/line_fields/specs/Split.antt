-- Trusted: document 01, "The event program": "fields in fixed order parted by commas, no quoting".
use Rattle.std.specs.Prelude.{ℕ, List, [], ◌∷◌, eqb, leb, length, drop, if◌then◌else◌}
use Rattle.words.specs.Text.{Bytes}

abbrev pub comma : ℕ
comma = 44

-- a byte in front of the first field
abbrev pub on_first : ℕ → List Bytes → List Bytes
on_first c [] = (c ∷ []) ∷ []
on_first c (f ∷ fs) = (c ∷ f) ∷ fs

-- the fields of a line, one more than it has commas
unfoldable pub fields_of : Bytes → List Bytes
fields_of [] = [] ∷ []
fields_of (c ∷ s) = if eqb c comma then [] ∷ fields_of s else on_first c (fields_of s)

-- the fields that are left from a position on; past the end there is none
unfoldable pub fields_from : Bytes → ℕ → List Bytes
fields_from s at = if leb at (length s) then fields_of (drop at s) else []
