use mathlib.Core.Path.{◌≡◌}
use Prim.Native.Nat.{◌+◌, ◌-◌, ◌≤◌}
use lib.ListN.{length}
use Rattle.call_reply.specs.Resends.{resends_of}
use Rattle.call_reply.proofs.count_resends.Given as goal

abbrev pub invariant-loop-slot : goal.invariant-loop-slot
invariant-loop-slot l =
    (l.count + (l.slot - l.fn.commit.0) ≤ l.fn.to.0 - l.fn.commit.0) × (l.count + length (resends_of l.insts.words.now l.fn.commit.0 l.peer.0 l.prepared.0 (l.slot - l.fn.commit.0)) ≡ length (resends_of l.insts.words.now l.fn.commit.0 l.peer.0 l.prepared.0 (l.fn.to.0 - l.fn.commit.0)))
