use Rattle.std.proofs.Common.{refl, ◌∙◌, ap}
use Rattle.inst_holding.specs.Held.{read_of}
use Rattle.insts.specs.Slots.{reads_start}
use Rattle.insts.proofs.Laws as law
use Rattle.insts.proofs.InstsMut.push_read.Goals as goal

pub returns : goal.returns
returns c = let a = c.args in record {
  same_reference = refl;
  puts = law.read_pushed a.self.now.words.now _ _ (c.reads_at-a.ensures ∙ ap reads_start c.place.ensures.0) a.self.now.whole (law.place a.slot.0) _ (read_of a.x) _ c.push.auto.words c.requires c.push.ensures;
}
