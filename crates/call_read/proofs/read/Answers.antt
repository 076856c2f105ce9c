use Rattle.std.proofs.Common.{refl, sym, arith}
use Rattle.words.specs.Part.{part}
use Rattle.bodega.specs.Replica.{Read}
use Rattle.node.proofs.Calls.{is_ready, not_ready}
use Rattle.call_read.proofs.Laws as law
use Rattle.call_read.proofs.read.Goals as goal

pub returns-then-not-is_ready : goal.returns-then-not-is_ready
returns-then-not-is_ready c =
    let a = c.args in
    not_ready (Read a.leases (record { client = a.client; request = a.request; key = a.key.now })) a.node a.mem.now a.area.now _ c.if-not-is_ready.ensures refl

pub returns-in_err-packed : goal.returns-in_err-packed
returns-in_err-packed c =
    let a = c.args in
    law.long_5 a.node a.mem.now a.area.now a.client a.request a.leases a.key.now (sym c.if-not-is_ready.ensures) c.pack.result c.pack.ensures _ _ c.in_err-packed.ensures.value c.from_residual.ensures.1

pub returns-then-overfills : goal.returns-then-overfills
returns-then-overfills c =
    let a = c.args in
    law.full_19 a.node a.mem.now a.area.now a.client a.request a.leases a.key.now (sym c.if-not-is_ready.ensures) c.pack.result c.pack.ensures c.in_ok-packed.packed (law.ok_is _ _ c.in_ok-packed.ensures.value) c.read_answer-answer.result c.read_answer-answer.ensures.0 _ c.overfills.ensures c.if-overfills.true

pub returns-in_err-put_item : goal.returns-in_err-put_item
returns-in_err-put_item c =
    let a = c.args in
    law.few_20 a.node a.mem.now a.area.now a.client a.request a.leases a.key.now (sym c.if-not-is_ready.ensures) c.pack.result c.pack.ensures c.in_ok-packed.packed (law.ok_is _ _ c.in_ok-packed.ensures.value) c.read_answer-answer.result c.read_answer-answer.ensures.0
    _ c.overfills.ensures c.if-overfills.false c.item_of-item.result (c.item_of-item.ensures a.mem.now a.key.now) _ c.in_err-put_item.ensures.put _ _ c.in_err-put_item.ensures.answers c.from_residual-in_err-put_item.ensures.1

pub slice_bounds-hold-end : goal.slice_bounds-hold-end
slice_bounds-hold-end c = omega (arith, is_ready c.args.node c.args.mem.now _ c.if-not-is_ready.ensures refl)

pub hold-requires : goal.hold-requires
unfolding part
hold-requires c =
    let a = c.args in
    law.has_room a.node a.mem.now a.area.now a.client a.request a.leases a.key.now (sym c.if-not-is_ready.ensures) c.pack.result c.pack.ensures c.in_ok-packed.packed (law.ok_is _ _ c.in_ok-packed.ensures.value) c.read_answer-answer.result c.read_answer-answer.ensures.0
    _ c.overfills.ensures c.if-overfills.false c.item_of-item.result (c.item_of-item.ensures a.mem.now a.key.now) _ c.in_ok-put_item.ensures.put _ c.in_ok-put_item.ensures.answers _ c.in-HeldBy.is

pub returns-in-HeldBy : goal.returns-in-HeldBy
unfolding part
returns-in-HeldBy c =
    let a = c.args in
    law.held a.node a.mem.now a.area.now a.client a.request a.leases a.key.now (sym c.if-not-is_ready.ensures) c.pack.result c.pack.ensures c.in_ok-packed.packed (law.ok_is _ _ c.in_ok-packed.ensures.value) c.read_answer-answer.result c.read_answer-answer.ensures.0
    _ c.overfills.ensures c.if-overfills.false c.item_of-item.result (c.item_of-item.ensures a.mem.now a.key.now) _ c.in_ok-put_item.ensures.put _ c.in_ok-put_item.ensures.answers _ c.in-HeldBy.is _ c.hold.ensures

pub returns-in_default : goal.returns-in_default
returns-in_default c =
    let a = c.args in
    law.served a.node a.mem.now a.area.now a.client a.request a.leases a.key.now (sym c.if-not-is_ready.ensures) c.pack.result c.pack.ensures c.in_ok-packed.packed (law.ok_is _ _ c.in_ok-packed.ensures.value) c.read_answer-answer.result c.read_answer-answer.ensures.0
    _ c.overfills.ensures c.if-overfills.false c.item_of-item.result (c.item_of-item.ensures a.mem.now a.key.now) _ c.in_ok-put_item.ensures.put _ c.in_ok-put_item.ensures.answers c.in_default.not-HeldBy
