use native.Mathlib.Omega.{arith}
use Rattle.std.proofs.lemmas.Grind.{common_steps}
use Rattle.call_heartbeat.proofs.Refusals as law
use Rattle.heard_new_conf.proofs.Laws.{readied}
use Rattle.call_heartbeat.proofs.installs.Goals as goal

pub slice_bounds-same-end : goal.slice_bounds-same-end
slice_bounds-same-end c =
    let a = c.args in
    omega (arith, (readied a.node a.mem.now c.requires.0).long)

pub same-requires : goal.same-requires
same-requires c =
    let a = c.args in
    law.roster_room a.node a.mem.now c.requires.0 a.beat.peer.0 a.beat.ballot.0 a.conf a.rows.now c.requires.1

pub returns-then-lt : goal.returns-then-lt
returns-then-lt c =
    let a = c.args in
    let e = law.installs_is a.node a.mem.now c.requires.0 a.beat.peer.0 a.beat.ballot.0 a.conf a.rows.now c.requires.1 in grind (arith, common_steps)

pub returns-then-from_proposer : goal.returns-then-from_proposer
returns-then-from_proposer c =
    let a = c.args in
    let e = law.installs_is a.node a.mem.now c.requires.0 a.beat.peer.0 a.beat.ballot.0 a.conf a.rows.now c.requires.1 in grind (arith, common_steps)

pub returns-else-from_proposer : goal.returns-else-from_proposer
returns-else-from_proposer c =
    let a = c.args in
    let e = law.installs_is a.node a.mem.now c.requires.0 a.beat.peer.0 a.beat.ballot.0 a.conf a.rows.now c.requires.1 in grind (arith, common_steps)
