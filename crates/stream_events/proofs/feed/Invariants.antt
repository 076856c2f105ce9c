use Rattle.stream_events.proofs.Laws as law
use Prim.Native.Nat.{◌-◌}
use lib.ListN.{length}
use Rattle.line_buffers.specs.Same.{SameBuffers}
use Rattle.stream_events.specs.Fed.{state_of}
use Rattle.stream_events.proofs.feed.Given as goal

abbrev pub invariant-loop-out : goal.invariant-loop-out
invariant-loop-out l =
    law.Inv l.piece (state_of l.initial.place.state l.initial.buffers.mem.now l.initial.buffers.rows.now) l.initial.place.long l.initial.place.at l.initial.out l.buffers.mem.now l.buffers.rows.now l.buffers.area.now l.buffers.groups.now l.out l.place l.used × SameBuffers l.initial.buffers l.buffers

abbrev pub decreases-loop-out : goal.decreases-loop-out
decreases-loop-out l = length l.piece - l.place.at
