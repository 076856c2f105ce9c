use Rattle.std.proofs.Common.{arith, refl}
use Rattle.become_a_leader.proofs.Laws as law
use Rattle.become_a_leader.proofs.open_range.Goals as goal

pub overflow_add-result : goal.overflow_add-result
overflow_add-result c =
    let a = c.args in
    let e = c.last_open.ensures in
    let f = a.window.few in
    omega (arith, (law.within a.window.start.0 a.window.held a.insts.words.now c.requires _ _ refl refl).1)
