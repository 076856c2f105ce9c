use Rattle.std.proofs.Common.{arith, length-set}
use Rattle.peer_accept_bar.proofs.Laws as law
use Rattle.peer_accept_bar.proofs.accept_max.Goals as goal

pub loop-i-preserved : goal.loop-i-preserved
loop-i-preserved c =
    let l = c.loop-i in
    let a = c.args in
    (simp length-set l.invariant.0, law.fill a.pairs.now l.bars a.ballot.0 a.population l.i _ _ (omega (arith, l.invariant)) (omega arith) c.get.ensures c.counted.ensures l.invariant.1)
