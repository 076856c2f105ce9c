-- A stream of event lines in pieces is answered as its lines are, one after the other.
use mathlib.Core.Path.{◌≡◌, refl, ap, ◌∙◌}
use mathlib.Core.Bool.{Bool, true, false}
use mathlib.Core.List.{[], ◌∷◌, ◌++◌, append_assoc, append-nil}
use Prim.Native.Nat.{ℕ, suc, ◌+◌, ◌-◌, ◌^◌, ◌<◌}
use native.Mathlib.Omega.{arith}
use lib.ListN.{length}
use lib.Dec.{ltb, eqb}
use borrow.Author.Tests.{lt-ltb}
use Rattle.words.specs.Text.{Bytes}
use Rattle.line_host.specs.Line.{line_of}
use Rattle.line_host.specs.Host.{Host, fresh_host, LineResult, answer_line, answer_lines, text_of}
use Rattle.stream_pieces.specs.Pieces.{Begun, none_begun, concat}
use Rattle.stream_pieces.specs.Streamed.{streamed, last_line, total, LongAlike}
use Rattle.stream_pieces.proofs.Stream as pieces
use Rattle.stream_events.specs.Lines.{start, bumped, result_of, line_output, lines_from, PiecesAsWhole}

-- a line of more than 1,024 bytes is refused alike, whatever its bytes are
told_long : (h : Host) (b : Begun) (l : Bytes) → 1024 < length b.line → result_of h b ≡ result_of h (record { long = true; line = l })
unfolding result_of answer_line line_of
told_long h b l k = go b.long refl
  where
    go : (q : Bool) → b.long ≡ q → result_of h b ≡ result_of h (record { long = true; line = l })
    go true p = simp p
    go false p = simp (p, lt-ltb 1024 (length b.line) k)

pub alike : LongAlike line_output
unfolding line_output
alike s b l h = ap (λ (t : LineResult). record { text = text_of s.number t.outcome; next = record { host = t.host; number = bumped s.number } }) (told_long s.host b l h)

-- from the n-th line on, whose first bytes are acc
pub numbered : (h : Host) (n : ℕ) (acc s : Bytes) → n + length (lines_from acc s) < 2 ^ 64 → total line_output (streamed line_output (record { host = h; number = n }) (record { long = false; line = acc }) s) ≡ answer_lines h n (lines_from acc s)
unfolding streamed last_line line_output result_of lines_from answer_lines
numbered h n acc [] k = go (ltb 0 (length acc)) refl
  where
    go : (q : Bool) → ltb 0 (length acc) ≡ q → total line_output (streamed line_output (record { host = h; number = n }) (record { long = false; line = acc }) []) ≡ answer_lines h n (lines_from acc [])
    go true p = simp (p, append-nil)
    go false p = simp p
numbered h n acc (c ∷ s) k = go (eqb c 10) refl (numbered (answer_line h acc).host (n + 1) [] s) (numbered h n (acc ++ (c ∷ [])) s)
  where
    go : (q : Bool) → eqb c 10 ≡ q
        → (n + 1 + length (lines_from [] s) < 2 ^ 64 → total line_output (streamed line_output (record { host = (answer_line h acc).host; number = n + 1 }) none_begun s) ≡ answer_lines (answer_line h acc).host (n + 1) (lines_from [] s))
        → (n + length (lines_from (acc ++ (c ∷ [])) s) < 2 ^ 64 → total line_output (streamed line_output (record { host = h; number = n }) (record { long = false; line = acc ++ (c ∷ []) }) s) ≡ answer_lines h n (lines_from (acc ++ (c ∷ [])) s))
        → total line_output (streamed line_output (record { host = h; number = n }) (record { long = false; line = acc }) (c ∷ s)) ≡ answer_lines h n (lines_from acc (c ∷ s))
    go true p i j =
        let l : n + suc (length (lines_from [] s)) < 2 ^ 64 = simp p at k in
        let m : n < 2 ^ 64 - 1 = omega arith in
        simp (p, lt-ltb n (2 ^ 64 - 1) m, append_assoc) (ap (λ (x : Bytes). text_of n (answer_line h acc).outcome ++ x) (i (omega arith)))
    go false p i j = simp p (j (simp p at k))

pub pieces_as_whole : PiecesAsWhole
pieces_as_whole ps h = pieces.whole line_output alike start ps ∙ numbered fresh_host 1 [] (concat ps) (omega arith)
