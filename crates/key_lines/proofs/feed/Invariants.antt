use mathlib.Core.Path.{◌≡◌}
use mathlib.Core.List.{[]}
use Prim.Native.Nat.{◌+◌, ◌-◌, ◌*◌, ◌≤◌}
use lib.ListN.{length, drop}
use Rattle.stream_pieces.specs.Streamed.{streamed, output_after}
use Rattle.key_lines.specs.Lines.{line_output}
use Rattle.key_lines.proofs.feed.Given as goal

abbrev pub invariant-loop-text : goal.invariant-loop-text
invariant-loop-text l =
    (l.at ≤ length l.piece) × (l.text.out.ghost_name ≡ l.initial.text.out.ghost_name) × (length l.text.out.now ≡ length l.initial.text.out.now) × (l.text.at + 2 * (length l.piece - l.at) ≤ length l.initial.text.out.now) × (output_after l.text.out.now l.text.at (streamed line_output tt (record { long = l.long; line = [] }) (drop l.at l.piece)) ≡ output_after l.initial.text.out.now 0 (streamed line_output tt (record { long = l.fn.long; line = [] }) l.piece))

abbrev pub decreases-loop-text : goal.decreases-loop-text
decreases-loop-text l = length l.piece - l.at
