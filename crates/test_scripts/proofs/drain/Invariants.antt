use Rattle.std.proofs.Common.{◌≡◌, ◌-◌, ◌≤◌, length}
use Rattle.stream_events.specs.Fed.{LentBy}
use Rattle.test_scripts.proofs.drain.Given as goal

abbrev pub invariant-loop-place : goal.invariant-loop-place
invariant-loop-place l = (l.place.at ≤ length l.piece) × LentBy l.place.state.host l.buffers × (length l.out ≡ length l.initial.out)

abbrev pub decreases-loop-place : goal.decreases-loop-place
decreases-loop-place l = length l.piece - l.place.at
