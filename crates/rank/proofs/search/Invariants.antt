use Prim.Native.Nat.{◌-◌, ◌≤◌}
use lib.ListN.{get_or}
use Rattle.rank.specs.Sort.{sort}
use Rattle.rank.proofs.search.Given as goal

abbrev pub invariant-loop-lo : goal.invariant-loop-lo
invariant-loop-lo l = (l.lo ≤ get_or (sort l.b) (l.k - 1) 0) × (get_or (sort l.b) (l.k - 1) 0 ≤ l.hi) × (l.hi ≤ l.to)

abbrev pub decreases-loop-lo : goal.decreases-loop-lo
decreases-loop-lo l = l.hi - l.lo
