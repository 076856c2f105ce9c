use Rattle.std.proofs.Common.{◌∙◌, ap}
use Rattle.insts.specs.Slots.{reads_start}
use Rattle.insts.proofs.Laws as law
use Rattle.insts.proofs.Insts.reads.Goals as goal

pub returns : goal.returns
returns c =
    let a = c.args in
    rw c.new.ensures (law.reads_lent a.self.words.now _ a.self.whole (law.place a.slot.0) _ (c.reads_at-a.ensures ∙ ap reads_start c.place.ensures.0))
