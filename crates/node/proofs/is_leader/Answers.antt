use Rattle.node.specs.View.{view}
use Rattle.roster_conf.specs.Edits.{view as roster_of}
use Rattle.node.proofs.is_leader.Goals as goal

pub returns : goal.returns
unfolding view roster_of
returns c = λ m. c.leads.ensures
