use Rattle.std.proofs.Common.{refl}
use Rattle.inst_cell.specs.Cell.{status_of}
use Rattle.insts.proofs.Laws as law
use Rattle.insts.proofs.InstsMut.set_status.Goals as goal

pub returns : goal.returns
returns c = let a = c.args in record {
  same_reference = refl;
  puts = rw (c.set_status.ensures, c.place.ensures.0) (law.puts_status a.self.now.words.now _ a.self.now.whole (law.place a.slot.0) (status_of a.status));
}
