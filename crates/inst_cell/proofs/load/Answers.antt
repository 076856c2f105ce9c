use Rattle.std.proofs.Common.{◌*◌}
use Rattle.inst_cell.proofs.Laws as law
use Rattle.inst_cell.proofs.load.Goals as goal

pub returns : goal.returns
returns c = law.loaded c.args.cells.now (c.args.c * 8) c.from.result c.then_some.result c.then_some-2.result c.from.ensures c.then_some.ensures c.then_some-2.ensures
