use Rattle.std.proofs.Common.{◌∙◌, ap}
use Rattle.insts.specs.Slots.{batch_start}
use Rattle.insts.proofs.Laws as law
use Rattle.insts.proofs.Insts.batch.Goals as goal

pub returns : goal.returns
returns c =
    let a = c.args in
    rw c.new.ensures (law.batch_lent a.self.words.now _ a.self.whole (law.place a.slot.0) _ (c.batch_at-a.ensures ∙ ap batch_start c.place.ensures.0))
