-- Keys that come in pieces, cut anywhere, are answered as the whole stream is.
use mathlib.Core.Path.{◌≡◌, refl, ap}
use mathlib.Core.Bool.{Bool, true, false}
use mathlib.Core.List.{List}
use Prim.Native.Nat.{ℕ, ◌<◌}
use lib.ListN.{length}
use borrow.Author.Tests.{lt-ltb}
use Rattle.stream_pieces.specs.Pieces.{Begun, none_begun, concat}
use Rattle.stream_pieces.specs.Streamed.{streamed, total, piecewise, LongAlike}
use Rattle.stream_pieces.proofs.Stream as pieces
use Rattle.key_lines.specs.Lines.{line_read, answer, line_output}

-- a line of which more than 1,024 bytes are there is answered alike, whatever its bytes are
answer_long : (b : Begun) (l : List ℕ) → 1024 < length b.line → answer b ≡ answer (record { long = true; line = l })
unfolding answer line_read
answer_long b l h = go b.long refl
  where
    go : (q : Bool) → b.long ≡ q → answer b ≡ answer (record { long = true; line = l })
    go true p = simp p
    go false p = simp (p, lt-ltb 1024 (length b.line) h)

alike : LongAlike line_output
alike t b l h = ap (λ (x : List ℕ). record { text = x; next = t }) (answer_long b l h)

pub whole : (ps : List (List ℕ)) → piecewise line_output tt none_begun ps ≡ total line_output (streamed line_output tt none_begun (concat ps))
whole ps = pieces.whole line_output alike tt ps
