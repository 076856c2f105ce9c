use Rattle.std.proofs.Common.{◌≡◌, leb, take}
use Rattle.std.specs.List.{count_by}
use Rattle.rank.proofs.count_le.Given as goal

abbrev pub invariant-loop-x : goal.invariant-loop-x
invariant-loop-x l = l.n ≡ count_by (λ x. leb x l.fn.v) (take l.x-index l.b)
