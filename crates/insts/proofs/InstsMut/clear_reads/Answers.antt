use Rattle.std.proofs.Common.{refl, ◌∙◌, ap}
use Rattle.insts.specs.Slots.{reads_start}
use Rattle.insts.proofs.Laws as law
use Rattle.insts.proofs.InstsMut.clear_reads.Goals as goal

pub returns : goal.returns
returns c = let a = c.args in record {
  same_reference = refl;
  puts = law.reads_cleared a.self.now.words.now _ a.self.now.whole (law.place a.slot.0) _ (c.reads_at-a.ensures ∙ ap reads_start c.place.ensures.0) _ c.clear.ensures;
}
