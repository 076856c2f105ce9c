use Rattle.std.proofs.Common.{refl}
use Rattle.node.proofs.Calls.{is_ready}
use Rattle.node_insts.proofs.window.Goals as goal

pub invariant_of-result : goal.invariant_of-result
invariant_of-result c =
    let a = c.args in
    let r = is_ready a.node a.mem.now _ refl c.requires in
    record { low = r.start_low_lem; few = r.window }
