use Rattle.std.proofs.Common.{◌∙◌}
use Rattle.become_a_leader.proofs.Laws as law
use Rattle.become_a_leader.proofs.first_open.Goals as goal

pub returns : goal.returns
returns c = let a = c.args in c.unwrap_or.ensures ∙ law.first_found a.window.start.0 a.window.held a.insts.words.now c.position.result c.position.ensures
