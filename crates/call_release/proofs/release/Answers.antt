use Rattle.std.proofs.Common.{refl, sym, arith}
use Rattle.words.specs.Part.{part}
use Rattle.bodega.specs.Replica.{Release}
use Rattle.node.proofs.Calls.{is_ready, not_ready}
use Rattle.call_release.proofs.Laws as law
use Rattle.call_release.proofs.release.Goals as goal

pub returns-then-not-is_ready : goal.returns-then-not-is_ready
returns-then-not-is_ready c =
    let a = c.args in
    not_ready (Release a.slot.0) a.node a.mem.now a.area.now _ c.if-not-is_ready.ensures refl

pub returns-in_err-release_refusal : goal.returns-in_err-release_refusal
returns-in_err-release_refusal c =
    let a = c.args in
    law.release_refused a.node a.mem.now a.area.now a.slot.0 (sym c.if-not-is_ready.ensures) _ _
    (rw (c.window.ensures.0, c.window.ensures.1) at c.in_err-release_refusal.ensures) c.from_residual.ensures.1

pub insts-requires : goal.insts-requires
insts-requires c = (is_ready c.args.node c.args.mem.now _ c.if-not-is_ready.ensures refl).long

pub returns-in_err-has_room : goal.returns-in_err-has_room
returns-in_err-has_room c =
    let a = c.args in
    law.release_20 a.node a.mem.now a.area.now a.slot.0 (sym c.if-not-is_ready.ensures) (rw (c.window.ensures.0, c.window.ensures.1) at c.in_ok-release_refusal.ensures) _
    (rw c.insts.ensures at c.holding-held.ensures) _ _ c.in_err-has_room.ensures c.from_residual-in_err-has_room.ensures.1

pub slice_bounds-release_in-end : goal.slice_bounds-release_in-end
slice_bounds-release_in-end c = omega (arith, is_ready c.args.node c.args.mem.now _ c.if-not-is_ready.ensures refl)

pub release_in-count-requires : goal.release_in-count-requires
unfolding part
release_in-count-requires c =
    let a = c.args in
    law.room a.node a.mem.now a.area.now a.slot.0 (sym c.if-not-is_ready.ensures) (rw (c.window.ensures.0, c.window.ensures.1) at c.in_ok-release_refusal.ensures) _
    (rw c.insts.ensures at c.holding-held.ensures) c.in_ok-has_room.ensures

pub returns : goal.returns
unfolding part
returns c =
    let a = c.args in
    law.release_taken a.node a.mem.now a.area.now a.slot.0 (sym c.if-not-is_ready.ensures) (rw (c.window.ensures.0, c.window.ensures.1) at c.in_ok-release_refusal.ensures) _
    (rw c.insts.ensures at c.holding-held.ensures) c.in_ok-has_room.ensures _ _ _ c.release_in-count.ensures
