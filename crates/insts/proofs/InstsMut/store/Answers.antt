use Rattle.std.proofs.Common.{refl}
use Rattle.inst_cell.specs.Cell.{cell_of}
use Rattle.insts.proofs.Laws as law
use Rattle.insts.proofs.InstsMut.store.Goals as goal

pub returns : goal.returns
returns c = let a = c.args in record {
  same_reference = refl;
  puts = rw (c.store.ensures, c.place.ensures.0) (law.puts_short a.self.now.words.now _ a.self.now.whole (law.place a.slot.0) (cell_of a.cell));
}
