-- Trusted: the answer to a line of the key reader.
use Rattle.std.specs.Prelude.{ℕ, Bool, ◌||◌, List, [], ◌∷◌, ◌++◌, ltb, length, if◌then◌else◌}
use Rattle.std.specs.Prelude.{Option, None}
use Rattle.words.specs.Choice.{if_none◌then◌else◌}
use Rattle.decimal.specs.Digits.{decimal}
use Rattle.keys.specs.Read.{read_key}
use Rattle.stream_pieces.specs.Pieces.{Begun}
use Rattle.stream_pieces.specs.Streamed.{LineOutput}

-- the number in decimal, or `-`; and then a newline
unfoldable pub text_of : Option ℕ → List ℕ
text_of n = if_none n then 45 ∷ [] else decimal

unfoldable pub answer_of : Option ℕ → List ℕ
answer_of n = text_of n ++ (10 ∷ [])

-- a line of more than 1,024 bytes does not read
unfoldable pub line_read : Bool → List ℕ → Option ℕ
line_read long line = if long || ltb 1024 (length line) then None else read_key line

unfoldable pub answer : Begun → List ℕ
answer b = answer_of (line_read b.long b.line)

-- no state goes from line to line
abbrev pub line_output : Unit {0} → Begun → LineOutput Unit
line_output t b = record { text = answer b; next = t }
