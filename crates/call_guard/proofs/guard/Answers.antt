use mathlib.Core.Path.{sym, refl}
use Rattle.bodega.specs.Replica.{Guard}
use Rattle.node.specs.View.{view, ready}
use Rattle.node.proofs.Calls.{not_ready}
use Rattle.call_guard.proofs.Laws as law
use Rattle.call_guard.proofs.guard.Goals as goal

pub returns-then-not-is_ready : goal.returns-then-not-is_ready
returns-then-not-is_ready c =
    let a = c.args in
    not_ready (Guard a.peer.0 a.number.0 a.bar.0) a.node a.mem.now a.area.now _ c.if-not-is_ready.ensures refl

pub returns-in_err-guard_refusal : goal.returns-in_err-guard_refusal
returns-in_err-guard_refusal c =
    let a = c.args in
    law.guard_refused a.node a.mem.now (sym c.if-not-is_ready.ensures) a.peer.0 a.number.0 a.bar.0 a.area.now _ _ c.in_err-guard_refusal.ensures c.from_residual.ensures.1

pub slice_bounds-guard_accept_bar-end : goal.slice_bounds-guard_accept_bar-end
slice_bounds-guard_accept_bar-end c =
    let a = c.args in
    law.long a.node a.mem.now (sym c.if-not-is_ready.ensures) a.peer.0 a.number.0 a.bar.0

pub guard_accept_bar-peer_accept_max-requires : goal.guard_accept_bar-peer_accept_max-requires
guard_accept_bar-peer_accept_max-requires c =
    let a = c.args in
    law.asked a.node a.mem.now (sym c.if-not-is_ready.ensures) a.peer.0 a.number.0 a.bar.0 c.in_ok-guard_refusal.ensures

pub returns : goal.returns
unfolding view ready
returns c =
    let a = c.args in
    let p = c.guard_accept_bar-peer_accept_max.ensures in
    law.guard_taken a.node a.mem.now (sym c.if-not-is_ready.ensures) a.peer.0 a.number.0 a.bar.0 c.in_ok-guard_refusal.ensures a.area.now _ _ _ p.accepts p.long refl refl
