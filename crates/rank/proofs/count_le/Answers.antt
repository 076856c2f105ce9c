use Rattle.rank.proofs.Laws as law
use native.Mathlib.Omega.{arith}
use Rattle.rank.proofs.count_le.Goals as goal

pub returns : goal.returns
returns c = law.count_end _ _ _ _ (omega arith) c.loop-x.invariant
