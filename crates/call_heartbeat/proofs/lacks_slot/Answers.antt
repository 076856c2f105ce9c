use Rattle.std.proofs.Common.{arith}
use Rattle.std.proofs.lemmas.Grind.{common_steps}
use Rattle.call_heartbeat.proofs.Refusals as law
use Rattle.call_heartbeat.proofs.lacks_slot.Goals as goal

pub returns-then-node-ge-WINDOW : goal.returns-then-node-ge-WINDOW
returns-then-node-ge-WINDOW c =
    λ rows. let a = c.args in let e = law.lacks_is a.node a.mem.now a.ballot.0 c.in-Some.c rows in grind (arith, common_steps)

pub returns-else-node-ge-WINDOW : goal.returns-else-node-ge-WINDOW
returns-else-node-ge-WINDOW c =
    λ rows. let a = c.args in let e = law.lacks_is a.node a.mem.now a.ballot.0 c.in-Some.c rows in grind (arith, common_steps)

pub returns-else-not-any_open : goal.returns-else-not-any_open
returns-else-not-any_open c =
    λ rows. let a = c.args in let e = law.lacks_is a.node a.mem.now a.ballot.0 c.in-Some.c rows in grind (arith, common_steps)
