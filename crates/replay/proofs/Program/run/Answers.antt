use Rattle.std.proofs.Common.{refl}
use Rattle.replay.proofs.Laws as law
use Rattle.replay.proofs.Program.run.Goals as goal

pub loop-init : goal.loop-init
loop-init c = (law.begun _ _ _ _ _ _ c.fresh-stream.ensures c.requires.0 c.requires.1 c.requires.2 c.requires.3, law.begins _ _ _ _ c.fresh-stream.ensures)
