use Rattle.std.proofs.Common.{rules}
use Rattle.replay.proofs.Laws as law
use Rattle.replay.proofs.fill.Goals as goal

pub returns : goal.returns
returns c = law.filling _ _ _ _ _ _ _ c.outcome.ensures (search rules) (search rules) (search (rules, law.before_part))
