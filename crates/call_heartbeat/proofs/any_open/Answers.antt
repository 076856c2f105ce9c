use Rattle.std.proofs.Common.{ap}
use Rattle.ids.specs.declared.Slot.{Slot}
use Rattle.heard_new_conf.proofs.Laws.{readied}
use Rattle.call_heartbeat.proofs.Refusals as law
use Rattle.call_heartbeat.proofs.any_open.Goals as goal

pub insts-requires : goal.insts-requires
insts-requires c = (readied c.args.node c.args.mem.now c.requires).long

pub returns : goal.returns
returns c =
    let a = c.args in
    let e = rw (ap (λ (x : Slot). x.0) c.window.ensures.0, c.window.ensures.1, c.insts.ensures) at c.any_open.ensures in
    law.open_is a.node a.mem.now _ e
