use Rattle.rank.proofs.Laws as law
use native.Mathlib.Omega.{arith}
use borrow.Author.Rules.{rules}
use Rattle.rank.proofs.search.Goals as goal

pub loop-lo-preserved-then-k-count_le : goal.loop-lo-preserved-then-k-count_le
loop-lo-preserved-then-k-count_le c = (search rules, search (rules, law.enough), omega arith)

pub loop-lo-preserved : goal.loop-lo-preserved
loop-lo-preserved c = (search (rules, law.past), search rules, omega arith)
