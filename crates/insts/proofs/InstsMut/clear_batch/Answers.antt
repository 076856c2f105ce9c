use Rattle.std.proofs.Common.{refl, ◌∙◌, ap}
use Rattle.insts.specs.Slots.{batch_start}
use Rattle.insts.proofs.Laws as law
use Rattle.insts.proofs.InstsMut.clear_batch.Goals as goal

pub returns : goal.returns
returns c = let a = c.args in record {
  same_reference = refl;
  puts = law.batch_cleared a.self.now.words.now _ a.self.now.whole (law.place a.slot.0) _ (c.batch_at-a.ensures ∙ ap batch_start c.place.ensures.0) _ c.clear.ensures;
}
