use Rattle.become_a_leader.specs.StepUp.{prepare_short}
use Rattle.become_a_leader.proofs.prelog.Given as goal

abbrev pub ghost-change_open : goal.ghost-change_open
ghost-change_open a = prepare_short a.change.0.now.0
