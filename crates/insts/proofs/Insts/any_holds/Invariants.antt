use Rattle.bodega.specs.Grounds.{holds}
use Rattle.insts.proofs.Insts.any_holds.Given as goal

abbrev pub ghost-position : goal.ghost-position
ghost-position a = holds
