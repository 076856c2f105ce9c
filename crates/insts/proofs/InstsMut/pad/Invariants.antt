use Rattle.std.proofs.Common.{◌≡◌, ◌++◌, ◌-◌, length, replicate}
use Rattle.bodega.specs.Replica.{null_instance}
use Rattle.insts.specs.Slots.{insts_of}
use Rattle.insts.proofs.InstsMut.pad.Given as goal

abbrev pub invariant-loop-k : goal.invariant-loop-k
invariant-loop-k l =
    (length l.self.words.now ≡ length l.initial.self.words.now) × (insts_of l.window.start.0 l.k l.self.words.now ≡ insts_of l.window.start.0 l.window.held l.initial.self.words.now ++ replicate (l.k - l.window.held) null_instance) × (l.self.words.ghost_name ≡ l.initial.self.words.ghost_name)
