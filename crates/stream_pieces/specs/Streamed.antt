-- Trusted: what is written for a stream of lines, as a whole and read in pieces, whatever a line's answer is.
use Rattle.std.specs.Prelude.{◌≡◌, ℕ, ◌+◌, ◌<◌, true, ◌||◌, List, [], ◌∷◌, ◌++◌, ltb, eqb, length, if◌then◌else◌}
use Rattle.words.specs.Writes.{writes}
use Rattle.stream_pieces.specs.Pieces.{Begun, none_begun, longer, kept}

-- the answer to a line, and the state that the next one finds
pub record LineOutput (S : Type 0) : Type 0 where
  pub text : List ℕ
  pub next : S

-- the answers to the lines that end in a run of bytes, and the state and the line that has begun then
pub record Streamed (S : Type 0) : Type 0 where
  pub out : List ℕ
  pub state : S
  pub begun : Begun

abbrev pub prepend : {S : Type 0} → List ℕ → Streamed S → Streamed S
prepend text r = record { out = text ++ r.out; state = r.state; begun = r.begun }

module _ {S : Type 0} (answer : S → Begun → LineOutput S) where
  unfoldable pub streamed : S → Begun → List ℕ → Streamed S
  streamed s b [] = record { out = []; state = s; begun = b }
  streamed s b (c ∷ l) = if eqb c 10 then prepend (answer s b).text (streamed (answer s b).next none_begun l) else streamed s (longer b c) l

  -- the answer to a last line without a newline, if it has a byte
  unfoldable pub last_line : S → Begun → List ℕ
  last_line s b = if b.long || ltb 0 (length b.line) then (answer s b).text else []

  -- all that is written for a stream
  abbrev pub total : Streamed S → List ℕ
  total r = r.out ++ last_line r.state r.begun

  -- what is written for a stream that comes in pieces: each follows the bytes that were kept
  unfoldable pub piecewise : S → Begun → List (List ℕ) → List ℕ
  piecewise s b [] = last_line s b
  piecewise s b (p ∷ ps) =
      let r = streamed s (record { long = b.long; line = [] }) (b.line ++ p) in
      r.out ++ piecewise r.state (kept r.begun) ps

  -- the bytes of a line of more than 1,024 change nothing, so that they need not be kept
  abbrev pub LongAlike : Type 0
  LongAlike = (s : S) (b : Begun) (l : List ℕ) → 1024 < length b.line → answer s b ≡ answer s (record { long = true; line = l })

-- what a run leaves: the output, how much of it is used, the state and the line that has begun
pub record OutputAfter (S : Type 0) : Type 0 where
  pub bytes : List ℕ
  pub used : ℕ
  pub state : S
  pub begun : Begun

abbrev pub output_after : {S : Type 0} → List ℕ → ℕ → Streamed S → OutputAfter S
output_after out used r = record { bytes = writes out used r.out; used = used + length r.out; state = r.state; begun = r.begun }
