-- What the proofs of the lines share, with the premises as the code has them.
use mathlib.Core.Path.{◌≡◌, sym, ap, ◌∙◌}
use mathlib.Core.Bool.{Bool}
use mathlib.Core.List.{List, []}
use Prim.Native.Nat.{ℕ, suc, ◌+◌, ◌-◌, ◌*◌, ◌≤◌, ◌<◌}
use native.Mathlib.Nat.{add-zero}
use native.Mathlib.Omega.{arith}
use lib.ListN.{length, drop, take, length-drop}
use lib.Seq.{drop-drop, length-take-le}
use Rattle.words.specs.Writes.{writes}
use Rattle.key_lines.proofs.Short.{answer_short}
use Rattle.stream_pieces.specs.Pieces.{none_begun, before}
use Rattle.stream_pieces.specs.Streamed.{prepend, streamed, OutputAfter, output_after}
use Rattle.stream_pieces.proofs.Laws.{line_none, line_below, runs_line, runs_none, done_append}
use Rattle.key_lines.specs.Lines.{answer, line_output}

-- ---- the line at at ends at e
module _ (piece : List ℕ) (at e : ℕ) (h : at ≤ length piece) (f : e ≡ at + before (drop at piece)) where
  pub feed_end : (long : Bool) (out : List ℕ) (used : ℕ) (k : OutputAfter Unit) → e ≡ length piece → output_after out used (streamed line_output tt (record { long = long; line = [] }) (drop at piece)) ≡ k
      → record { bytes = out; used = used; state = tt; begun = record { long = long; line = drop at piece } } ≡ k
  feed_end long out used k g p =
      rw add-zero at (rw (runs_none line_output tt (record { long = long; line = [] }) (drop at piece) (line_none piece at e h f g)) at p)

  module _ (n : e ≡ length piece → ⊥) where
    below : e < length piece
    below = line_below piece at e h f n

    module _ (long : Bool) (out : List ℕ) (used : ℕ) where
      line_short : length (answer (record { long = long; line = take (e - at) (drop at piece) })) ≤ 2 * (e - at + 1)
      line_short =
          rw (length-take-le (e - at) (drop at piece) (omega (arith, length-drop at piece, below))) at (answer_short (record { long = long; line = take (e - at) (drop at piece) }))

      pub feed_room : (m : ℕ) → length out ≡ m → used + 2 * (length piece - at) ≤ m → used + length (answer (record { long = long; line = take (e - at) (drop at piece) })) ≤ length out
      feed_room m q p = omega (arith, line_short, below)

      module _ (u : ℕ) (a : u ≡ used + length (answer (record { long = long; line = take (e - at) (drop at piece) }))) where
        pub feed_left : (m : ℕ) → used + 2 * (length piece - at) ≤ m → u + 2 * (length piece - (e + 1)) ≤ m
        feed_left m p = omega (arith, line_short, below)

        pub feed_line : (l : List ℕ) (k : OutputAfter Unit) → l ≡ writes out used (answer (record { long = long; line = take (e - at) (drop at piece) }))
            → output_after out used (streamed line_output tt (record { long = long; line = [] }) (drop at piece)) ≡ k → output_after l u (streamed line_output tt none_begun (drop (e + 1) piece)) ≡ k
        feed_line l k b p =
            let all : e - at ≡ before (drop at piece) = omega arith in
            let after : at + suc (before (drop at piece)) ≡ e + 1 = omega arith in
            let next : drop (suc (before (drop at piece))) (drop at piece) ≡ drop (e + 1) piece = drop-drop (suc (before (drop at piece))) at piece ∙ ap (λ (x : ℕ). drop x piece) after in
            let line = runs_line line_output tt (record { long = long; line = [] }) (drop at piece) (omega (arith, length-drop at piece, below)) in
            let text = answer (record { long = long; line = take (e - at) (drop at piece) }) in
            let whole : streamed line_output tt (record { long = long; line = [] }) (drop at piece) ≡ prepend text (streamed line_output tt none_begun (drop (e + 1) piece)) = rw (all, ← next) line in
            rw (b, a) (done_append out used text (streamed line_output tt none_begun (drop (e + 1) piece)) ∙ (sym (ap (output_after out used) whole) ∙ p))
