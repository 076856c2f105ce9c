-- Trusted: document 01, "The line reader keeps its line and its position": what a reader leaves.
use Rattle.std.specs.Prelude.{ℕ, ◌≡◌, ◌+◌, ◌≤◌, List, [], ◌∷◌, Option, None, Some, Ok, Err, length}
use denote.Bor.{Bor}
use Rattle.words.specs.Text.{Bytes}
use Rattle.line_fields.specs.declared.Field.{Field}
use Rattle.line_fields.specs.Split.{fields_from}
use Rattle.line_fields.specs.Reads.{between, ReadsField, ReadsNumberAt, ReadsNumbersAt, ReadsOptionalAt}
use Rattle.line_reader.specs.declared.LineReader.{LineReader}

-- the same line, at another position
abbrev pub moved_to : LineReader → ℕ → LineReader
moved_to r n = record { line = r.line; at = n }

-- what is read at the reader's position, and the reader then: at the field after it, or, where it is no field of that
-- kind, still at it
abbrev pub TakesField : LineReader → Field → LineReader → Type 0
TakesField r f r' = ReadsField r.line.now r.at f × (r' ≡ moved_to r f.next)

-- the first field that is left, by its bytes; the others begin behind its comma
pub record FirstBytes (s : Bytes) (at : ℕ) (f : Bytes) : Type 0 where
  pub within : at + length f ≤ length s
  pub bytes : f ≡ between s at (at + length f)
  pub here : fields_from s at ≡ f ∷ fields_from s (at + length f + 1)

abbrev pub TakesBytes : LineReader → Option (Bor (List ℕ)) → LineReader → Type 0
TakesBytes r None r' = (fields_from r.line.now r.at ≡ []) × (r' ≡ r)
TakesBytes r (Some f) r' = FirstBytes r.line.now r.at f.now × (r' ≡ moved_to r (r.at + length f.now + 1))

abbrev pub TakesNumber : LineReader → Option ℕ → LineReader → Type 0
TakesNumber r None r' = ReadsNumberAt r.line.now r.at None × (r' ≡ r)
TakesNumber r (Some n) r' = ReadsNumberAt r.line.now r.at (Some (record { value = n; next = r'.at })) × (r' ≡ moved_to r r'.at)

abbrev pub TakesOptional : LineReader → Option (Option ℕ) → LineReader → Type 0
TakesOptional r None r' = ReadsOptionalAt r.line.now r.at None × (r' ≡ r)
TakesOptional r (Some o) r' = ReadsOptionalAt r.line.now r.at (Some (record { value = o; next = r'.at })) × (r' ≡ moved_to r r'.at)

-- as many numbers as `out` has words, and the reader then: at the field after the last of them, or at the first that is
-- none
abbrev pub TakesNumbers : LineReader → List ℕ → Option (Unit {0}) → LineReader → List ℕ → Type 0
TakesNumbers r out None r' out' = ReadsNumbersAt r.line.now r.at (length out) out (Err r'.at) out' × (r' ≡ moved_to r r'.at)
TakesNumbers r out (Some u) r' out' = ReadsNumbersAt r.line.now r.at (length out) out (Ok r'.at) out' × (r' ≡ moved_to r r'.at)
