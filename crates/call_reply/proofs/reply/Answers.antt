use mathlib.Core.Path.{sym, refl}
use native.Mathlib.Omega.{arith}
use Rattle.bodega.specs.Replica.{Reply}
use Rattle.node.proofs.Calls as calls
use Rattle.call_reply.proofs.Replies as law
use Rattle.call_reply.proofs.reply.Goals as goal

pub returns-then-not-is_ready : goal.returns-then-not-is_ready
returns-then-not-is_ready c =
    let a = c.args in
    calls.not_ready (Reply a.peer.0 a.slot.0 a.ballot.0) a.node a.mem.now a.area.now _ c.if-not-is_ready.ensures refl

pub returns-in_err-reply_refusal : goal.returns-in_err-reply_refusal
returns-in_err-reply_refusal c =
    let a = c.args in
    law.reply_refused a.node a.mem.now a.area.now a.peer.0 a.slot.0 a.ballot.0 (sym c.if-not-is_ready.ensures) _ _ (rw (c.window-window.ensures.0, c.window-window.ensures.1) at c.in_err-reply_refusal.ensures) c.from_residual.ensures.1

pub returns-then-not-awaits : goal.returns-then-not-awaits
returns-then-not-awaits c =
    let a = c.args in
    law.not_awaited a.node a.mem.now a.area.now a.peer.0 a.slot.0 a.ballot.0 (sym c.if-not-is_ready.ensures) (rw (c.window-window.ensures.0, c.window-window.ensures.1) at c.in_ok-reply_refusal.ensures) _ c.awaits.ensures c.if-not-awaits.true

pub ack_in-ack-requires : goal.ack_in-ack-requires
ack_in-ack-requires c =
    let a = c.args in
    law.ack_asked a.node a.mem.now a.area.now a.peer.0 a.slot.0 a.ballot.0 (sym c.if-not-is_ready.ensures) (rw (c.window-window.ensures.0, c.window-window.ensures.1) at c.in_ok-reply_refusal.ensures) _ c.awaits.ensures c.if-not-awaits.false

pub slice_bounds-take_reply-end : goal.slice_bounds-take_reply-end
slice_bounds-take_reply-end c =
    let a = c.args in omega (arith, law.buffer a.node a.mem.now a.area.now a.peer.0 a.slot.0 a.ballot.0 (sym c.if-not-is_ready.ensures))

pub take_reply-requires : goal.take_reply-requires
take_reply-requires c =
    let a = c.args in
    law.reply_asked a.node a.mem.now a.area.now a.peer.0 a.slot.0 a.ballot.0 (sym c.if-not-is_ready.ensures) (rw (c.window-window.ensures.0, c.window-window.ensures.1) at c.in_ok-reply_refusal.ensures) _ c.awaits.ensures c.if-not-awaits.false

pub returns-in_err-count : goal.returns-in_err-count
returns-in_err-count c =
    let a = c.args in
    law.reply_full a.node a.mem.now a.area.now a.peer.0 a.slot.0 a.ballot.0 (sym c.if-not-is_ready.ensures) (rw (c.window-window.ensures.0, c.window-window.ensures.1) at c.in_ok-reply_refusal.ensures) _ c.awaits.ensures c.if-not-awaits.false _ c.ack_in-ack.ensures _ _ _ _ c.in_err-count.ensures c.from_residual-in_err-count.ensures.1

pub returns : goal.returns
returns c =
    let a = c.args in
    law.reply_taken a.node a.mem.now a.area.now a.peer.0 a.slot.0 a.ballot.0 (sym c.if-not-is_ready.ensures) (rw (c.window-window.ensures.0, c.window-window.ensures.1) at c.in_ok-reply_refusal.ensures) _ c.awaits.ensures c.if-not-awaits.false _ c.ack_in-ack.ensures _ _ _ c.in_ok-count.ensures
