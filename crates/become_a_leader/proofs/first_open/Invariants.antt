use Rattle.bodega.specs.Replica.{Instance, is_open}
use Rattle.become_a_leader.proofs.first_open.Given as goal

abbrev pub ghost-position : goal.ghost-position
ghost-position a = λ (i : Instance). is_open i.status
