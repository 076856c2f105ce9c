use borrow.Author.Rules.{rules}
use Rattle.call_heartbeat.proofs.Call as law
use Rattle.call_heartbeat.proofs.count_items.Goals as goal
use Rattle.call_heartbeat.proofs.count_items.Goals.{in_default-via-in-None-1, in_default-via-in-Some+else-leads}

pub returns : goal.returns
returns c =
    let a = c.args in
    law.step_up_count a.node a.mem.now a.beat.peer.0 a.beat.ballot.0 a.beat.commit.0 a.beat.exec.0 a.beat.snap.0 a.conf _ c.in-Some.is _ c.leads.ensures c.if-leads.true _ c.count_new_conf.ensures

pub returns-2 : goal.returns-2
returns-2 c =
    let a = c.args in
    elim c.in_default.branch [
      | in_default-via-in-None-1 w ↦ law.bars_only a.node a.mem.now a.beat.peer.0 a.beat.ballot.0 a.beat.commit.0 a.beat.exec.0 a.beat.snap.0 a.conf (search rules) _ c.count_bars.ensures
      | in_default-via-in-Some+else-leads w ↦ law.bars_count a.node a.mem.now a.beat.peer.0 a.beat.ballot.0 a.beat.commit.0 a.beat.exec.0 a.beat.snap.0 a.conf _ w.in-Some.is _ w.leads.ensures w.if-leads.false _ c.count_bars.ensures
    ]
