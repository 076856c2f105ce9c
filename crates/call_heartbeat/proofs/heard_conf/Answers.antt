use Rattle.call_heartbeat.proofs.Call as law
use Rattle.call_heartbeat.proofs.heard_conf.Goals as goal

pub returns-in-None-clause-does : goal.returns-in-None-clause-does
returns-in-None-clause-does c =
    let a = c.args in
    law.conf_same a.node a.mem.now a.items.now.area.now c.requires.0 a.ballot.0 a.conf a.rows.now a.items.now.count c.in-None.is

pub heard_new_conf-requires : goal.heard_new_conf-requires
heard_new_conf-requires c =
    let a = c.args in
    law.conf_room a.node a.mem.now a.items.now.area.now c.requires.0 a.ballot.0 a.conf a.rows.now a.items.now.count _ c.in-Some.is c.requires.1 c.requires.2

pub returns-in-Some-clause-does : goal.returns-in-Some-clause-does
returns-in-Some-clause-does c =
    let a = c.args in
    law.conf_does a.node a.mem.now a.items.now.area.now c.requires.0 a.ballot.0 a.conf a.rows.now a.items.now.count _ c.in-Some.is _ _ _ _ c.heard_new_conf.ensures.does
