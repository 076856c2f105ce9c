-- Bridge: what is read at a position of a line; tied to `fields_of` by proofs/Laws.
use Rattle.std.specs.Prelude.{ℕ, zero, suc, ◌+◌, ◌-◌, ◌≤◌, ◌<◌, Bool, true, false, ◌&&◌, ◌||◌, not, List, [], ◌∷◌, ◌≡◌, Option, None, Some, Result, Ok, Err, length, get_or, take, drop, if◌then◌else◌}
use Rattle.words.specs.Text.{Bytes}
use Rattle.line_fields.specs.declared.Field.{Field}
use Rattle.line_fields.specs.declared.NumberAt.{NumberAt}
use Rattle.line_fields.specs.declared.OptionalAt.{OptionalAt}
use Rattle.line_fields.specs.Split.{fields_from}
use Rattle.line_fields.specs.Number.{has_byte, is_number, value_of, numbers, number_at}

abbrev pub none_left : List Bytes → Bool
none_left [] = true
none_left (f ∷ fs) = false

-- the bytes from a up to e
abbrev pub between : Bytes → ℕ → ℕ → Bytes
between s a e = take (e - a) (drop a s)

-- the first field that is left, and where the others begin; past the end of the line there is none
pub record FirstField (s : Bytes) (at : ℕ) (f : Field) : Type 0 where
  pub start : f.start ≡ at
  pub low : at ≤ f.end
  pub high : f.end ≤ length s
  pub next : f.next ≡ f.end + 1
  pub here : fields_from s at ≡ between s f.start f.end ∷ fields_from s f.next

pub record PastEnd (s : Bytes) (at : ℕ) (f : Field) : Type 0 where
  pub stands : f ≡ record { start = at; end = at; next = at }
  pub none : fields_from s at ≡ []

pub record ReadsField (s : Bytes) (at : ℕ) (f : Field) : Type 0 where
  pub first : at ≤ length s → FirstField s at f
  pub past : length s < at → PastEnd s at f

-- the number that bytes are
abbrev pub number_in : Bytes → Option ℕ
number_in s = if is_number s then Some (value_of s) else None

-- the first field that is left, a number: which, and where the others begin
pub record FirstNumber (s : Bytes) (at : ℕ) (r : NumberAt) : Type 0 where
  pub good : is_number (get_or (fields_from s at) 0 []) ≡ true
  pub value : r.value ≡ number_at (fields_from s at) 0
  pub low : at < r.next
  pub high : r.next ≤ length s + 1
  pub here : fields_from s at ≡ get_or (fields_from s at) 0 [] ∷ fields_from s r.next

-- whether the first field that is left is a number; where none is left it is not
abbrev pub ReadsNumberAt : Bytes → ℕ → Option NumberAt → Type 0
ReadsNumberAt s at None = is_number (get_or (fields_from s at) 0 []) ≡ false
ReadsNumberAt s at (Some r) = FirstNumber s at r

-- how many of the first k fields are numbers, up to the first that is none
unfoldable pub leading : ℕ → List Bytes → ℕ
leading zero fs = 0
leading (suc k) fs = if is_number (get_or fs 0 []) then suc (leading k (drop 1 fs)) else 0

-- so many numbers are put into `out`, whose other words stay
pub record PutsNumbers (s : Bytes) (at k : ℕ) (out out' : List ℕ) : Type 0 where
  pub values : (i : ℕ) → i < leading k (fields_from s at) → get_or out' i 0 ≡ number_at (fields_from s at) i
  pub rest : (i : ℕ) → leading k (fields_from s at) ≤ i → get_or out' i 0 ≡ get_or out i 0
  pub size : length out' ≡ length out

-- where the fields after n fields begin
pub record Stops (s : Bytes) (at n next : ℕ) : Type 0 where
  pub left : fields_from s next ≡ drop n (fields_from s at)
  pub stands : n ≡ 0 → next ≡ at
  pub high : 0 < n → next ≤ length s + 1

-- whether the first k fields are numbers, and where the fields after them begin, or the first that is none
abbrev pub Reaches : Bytes → ℕ → ℕ → Result ℕ ℕ → Type 0
Reaches s at k (Ok next) = (leading k (fields_from s at) ≡ k) × Stops s at k next
Reaches s at k (Err stop) = (leading k (fields_from s at) < k) × Stops s at (leading k (fields_from s at)) stop

abbrev pub ReadsNumbersAt : Bytes → ℕ → ℕ → List ℕ → Result ℕ ℕ → List ℕ → Type 0
ReadsNumbersAt s at k out o out' = Reaches s at k o × PutsNumbers s at k out out'

-- whether exactly k fields are left, each a number, and which
abbrev pub ReadsNumbers : Bytes → ℕ → ℕ → Option (List ℕ) → Type 0
ReadsNumbers s at k None = numbers k (fields_from s at) ≡ false
ReadsNumbers s at k (Some a) = (numbers k (fields_from s at) ≡ true) × ((i : ℕ) → i < k → get_or a i 0 ≡ number_at (fields_from s at) i)

-- whether there is a field that is empty or a number
abbrev pub is_optional : List Bytes → Bool
is_optional fs = not (none_left fs) && (not (has_byte (get_or fs 0 [])) || is_number (get_or fs 0 []))

pub record FirstOptional (s : Bytes) (at : ℕ) (r : OptionalAt) : Type 0 where
  pub good : is_optional (fields_from s at) ≡ true
  pub value : r.value ≡ (if has_byte (get_or (fields_from s at) 0 []) then Some (number_at (fields_from s at) 0) else None)
  pub low : at < r.next
  pub high : r.next ≤ length s + 1
  pub here : fields_from s at ≡ get_or (fields_from s at) 0 [] ∷ fields_from s r.next

abbrev pub ReadsOptionalAt : Bytes → ℕ → Option OptionalAt → Type 0
ReadsOptionalAt s at None = is_optional (fields_from s at) ≡ false
ReadsOptionalAt s at (Some r) = FirstOptional s at r
