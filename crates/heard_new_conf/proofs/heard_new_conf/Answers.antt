use Rattle.heard_new_conf.proofs.Laws as law
use Rattle.heard_new_conf.proofs.heard_new_conf.Goals as goal

pub become_a_leader-requires : goal.become_a_leader-requires
become_a_leader-requires c =
    let a = c.args in
    law.leads_room a.node a.mem.now a.items.now.area.now a.ballot a.conf a.rows.now _ c.leads.ensures _ _ c.adopt-next.ensures c.if-leads.true a.items.now.count (c.requires.2, c.requires.3)

pub returns-then-leads-clause-does : goal.returns-then-leads-clause-does
returns-then-leads-clause-does c =
    let a = c.args in
    law.leads_then a.node a.mem.now a.items.now.area.now a.ballot a.conf a.rows.now _ c.leads.ensures _ _ c.adopt-next.ensures c.if-leads.true _ _ _ _ _ c.become_a_leader.ensures.does

pub returns-else-leads-clause-does : goal.returns-else-leads-clause-does
returns-else-leads-clause-does c =
    let a = c.args in
    law.follows a.node a.mem.now a.items.now.area.now a.ballot a.conf a.rows.now _ c.leads.ensures _ _ c.adopt-next.ensures c.if-leads.false a.items.now.count
