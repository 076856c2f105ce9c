use Rattle.call_heartbeat.specs.Heartbeat.{carried}
use Rattle.call_heartbeat.proofs.Call as law
use Rattle.call_heartbeat.proofs.heard.Goals as goal

pub heard_conf-next-requires : goal.heard_conf-next-requires
heard_conf-next-requires c =
    let a = c.args in
    (c.requires.0, c.requires.2, law.first_room a.node a.mem.now a.items.now.area.now a.beat.peer.0 a.beat.ballot.0 (carried a.conf a.rows.now) a.beat.commit.0 a.beat.exec.0 a.beat.snap.0 a.items.now.count c.requires.1 c.requires.3)

pub heard_bars-requires : goal.heard_bars-requires
heard_bars-requires c =
    let a = c.args in
    law.then_room a.node a.mem.now a.items.now.area.now a.beat.peer.0 a.beat.ballot.0 (carried a.conf a.rows.now) a.beat.commit.0 a.beat.exec.0 a.beat.snap.0 a.items.now.count c.requires.1 c.requires.3 _ _ _ _ c.heard_conf-next.ensures.does

pub returns-clause-does : goal.returns-clause-does
returns-clause-does c =
    let a = c.args in
    law.heard_does a.node a.mem.now a.items.now.area.now a.beat.peer.0 a.beat.ballot.0 (carried a.conf a.rows.now) a.beat.commit.0 a.beat.exec.0 a.beat.snap.0 a.items.now.count c.requires.1 c.requires.3 _ _ _ _ c.heard_conf-next.ensures.does _ _ _ _ c.heard_bars.ensures.does
