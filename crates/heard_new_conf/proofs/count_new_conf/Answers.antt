use Rattle.std.proofs.Common.{ap}
use Rattle.ids.specs.declared.Slot.{Slot}
use Rattle.heard_new_conf.proofs.Laws as law
use Rattle.heard_new_conf.proofs.count_new_conf.Goals as goal

pub returns-then-not-leads : goal.returns-then-not-leads
returns-then-not-leads c =
    let a = c.args in
    law.counts_none a.node a.mem.now a.conf _ c.leads.ensures c.if-not-leads.true

pub insts-requires : goal.insts-requires
insts-requires c = (law.readied c.args.node c.args.mem.now c.requires).long

pub returns : goal.returns
returns c =
    let a = c.args in
    let e = rw (ap (λ (x : Slot). x.0) c.window.ensures.0, c.window.ensures.1, c.insts.ensures) at c.count_items.ensures in
    law.counts_all a.node a.mem.now a.conf _ c.leads.ensures c.if-not-leads.false _ e
