use Rattle.std.proofs.Common.{◌∙◌, sym, arith}
use Rattle.insts.specs.Slots.{place_of}
use Rattle.release_held_reads.proofs.Laws as law
use Rattle.release_held_reads.proofs.holding.Goals as goal

pub returns-then-is_some : goal.returns-then-is_some
returns-then-is_some c =
    let h = law.held_by c.args.insts.words.now (place_of c.args.slot.0) c.load.result c.load.ensures in
    (c.count_reads.ensures.0 ∙ (simp (h, sym c.if-is_some.ensures)), c.count_reads.ensures.1)

pub returns-else-is_some : goal.returns-else-is_some
returns-else-is_some c =
    let h = law.held_by c.args.insts.words.now (place_of c.args.slot.0) c.load.result c.load.ensures in
    (simp (h, sym c.if-is_some.ensures), omega arith)
