use mathlib.Core.Path.{sym, refl}
use mathlib.Core.List.{[]}
use native.Mathlib.Omega.{arith}
use Rattle.std.proofs.lemmas.Map.Keys.{ge_from_not_lt}
use Rattle.words.specs.Part.{part}
use Rattle.bodega.specs.Replica.{Notice}
use Rattle.node.proofs.Calls.{not_ready}
use Rattle.call_notice.proofs.Laws as law
use Rattle.call_notice.proofs.notice.Goals as goal

pub returns-then-not-is_ready : goal.returns-then-not-is_ready
returns-then-not-is_ready c =
    let a = c.args in
    not_ready (Notice a.peer.0 a.slot.0 a.ballot.0) a.node a.mem.now a.area.now _ c.if-not-is_ready.ensures refl

pub returns-in_err-notice_refusal : goal.returns-in_err-notice_refusal
returns-in_err-notice_refusal c =
    let a = c.args in
    law.notice_refused a.node a.mem.now a.area.now a.peer.0 a.slot.0 a.ballot (sym c.if-not-is_ready.ensures) _ c.is_current-current.ensures _ _ (rw c.window-window.ensures.0 at c.in_err-notice_refusal.ensures) c.from_residual.ensures.1

pub returns-then-lt : goal.returns-then-lt
returns-then-lt c =
    let a = c.args in
    law.below_start a.node a.mem.now a.area.now a.peer.0 a.slot.0 a.ballot (sym c.if-not-is_ready.ensures) _ c.is_current-current.ensures (rw c.window-window.ensures.0 at c.in_ok-notice_refusal.ensures) (law.less _ _ c.if-lt.ensures)

pub returns-in_err-count : goal.returns-in_err-count
returns-in_err-count c =
    let a = c.args in
    law.higher_20 a.node a.mem.now a.area.now a.peer.0 a.slot.0 a.ballot (sym c.if-not-is_ready.ensures) _ c.is_current-current.ensures (rw c.window-window.ensures.0 at c.in_ok-notice_refusal.ensures) (ge_from_not_lt _ _ (sym c.if-lt.ensures)) (law.less _ _ c.if-lt-2.ensures) _ (law.leads_is a.node _ (c.is_leader.ensures [])) _ _ _ c.in_err-count.ensures c.from_residual-in_err-count.ensures.1

pub slice_bounds-filtered-end : goal.slice_bounds-filtered-end
slice_bounds-filtered-end c =
    let a = c.args in omega (arith, law.long a.node a.mem.now a.area.now a.peer.0 a.slot.0 a.ballot (sym c.if-not-is_ready.ensures) _ c.is_current-current.ensures)

pub filtered-bodega_conf-requires : goal.filtered-bodega_conf-requires
filtered-bodega_conf-requires c =
    let a = c.args in law.filter_room a.node a.mem.now a.area.now a.peer.0 a.slot.0 a.ballot (sym c.if-not-is_ready.ensures) _ c.is_current-current.ensures

pub returns-then-lt-2 : goal.returns-then-lt-2
returns-then-lt-2 c =
    let a = c.args in
    law.higher_taken a.node a.mem.now a.area.now a.peer.0 a.slot.0 a.ballot (sym c.if-not-is_ready.ensures) _ c.is_current-current.ensures (rw c.window-window.ensures.0 at c.in_ok-notice_refusal.ensures) (ge_from_not_lt _ _ (sym c.if-lt.ensures)) (law.less _ _ c.if-lt-2.ensures) _ (law.leads_is a.node _ (c.is_leader.ensures [])) _ _ c.filtered-bodega_conf.ensures _ _ c.in_ok-count.ensures

pub returns-then-not-current : goal.returns-then-not-current
returns-then-not-current c =
    let a = c.args in
    law.other_taken a.node a.mem.now a.area.now a.peer.0 a.slot.0 a.ballot (sym c.if-not-is_ready.ensures) _ c.is_current-current.ensures (rw c.window-window.ensures.0 at c.in_ok-notice_refusal.ensures) (ge_from_not_lt _ _ (sym c.if-lt.ensures)) (ge_from_not_lt _ _ (sym c.if-lt-2.ensures)) c.if-not-current.true

pub insts-requires : goal.insts-requires
insts-requires c =
    let a = c.args in law.long a.node a.mem.now a.area.now a.peer.0 a.slot.0 a.ballot (sym c.if-not-is_ready.ensures) _ c.is_current-current.ensures

pub returns-in_err-has_room : goal.returns-in_err-has_room
returns-in_err-has_room c =
    let a = c.args in
    law.notice_20 a.node a.mem.now a.area.now a.peer.0 a.slot.0 a.ballot (sym c.if-not-is_ready.ensures) _ c.is_current-current.ensures (rw c.window-window.ensures.0 at c.in_ok-notice_refusal.ensures) (ge_from_not_lt _ _ (sym c.if-lt.ensures)) (ge_from_not_lt _ _ (sym c.if-lt-2.ensures)) c.if-not-current.false _ (λ o. rw (c.number-k.ensures, c.window-window.ensures.0, c.window-window.ensures.1, c.insts.ensures) at (c.due-due.ensures o)) _ _ c.in_err-has_room.ensures c.from_residual-in_err-has_room.ensures.1

pub slice_bounds-notice_in-end : goal.slice_bounds-notice_in-end
slice_bounds-notice_in-end c =
    let a = c.args in omega (arith, law.long a.node a.mem.now a.area.now a.peer.0 a.slot.0 a.ballot (sym c.if-not-is_ready.ensures) _ c.is_current-current.ensures)

pub notice_in-count-requires : goal.notice_in-count-requires
unfolding part
notice_in-count-requires c =
    let a = c.args in
    record {
      below = rw (c.number-k.ensures, c.window-window.ensures.0) (law.below a.node a.mem.now a.area.now a.peer.0 a.slot.0 a.ballot (sym c.if-not-is_ready.ensures) _ c.is_current-current.ensures (rw c.window-window.ensures.0 at c.in_ok-notice_refusal.ensures) (ge_from_not_lt _ _ (sym c.if-lt.ensures)) (ge_from_not_lt _ _ (sym c.if-lt-2.ensures)) c.if-not-current.false);
      room = rw (c.number-k.ensures, c.window-window.ensures.0, c.window-window.ensures.1) (law.room a.node a.mem.now a.area.now a.peer.0 a.slot.0 a.ballot (sym c.if-not-is_ready.ensures) _ c.is_current-current.ensures (rw c.window-window.ensures.0 at c.in_ok-notice_refusal.ensures) (ge_from_not_lt _ _ (sym c.if-lt.ensures)) (ge_from_not_lt _ _ (sym c.if-lt-2.ensures)) c.if-not-current.false _ (λ o. rw (c.number-k.ensures, c.window-window.ensures.0, c.window-window.ensures.1, c.insts.ensures) at (c.due-due.ensures o)) c.in_ok-has_room.ensures);
    }

pub returns : goal.returns
unfolding part
returns c =
    let a = c.args in
    law.notice_taken a.node a.mem.now a.area.now a.peer.0 a.slot.0 a.ballot (sym c.if-not-is_ready.ensures) _ c.is_current-current.ensures (rw c.window-window.ensures.0 at c.in_ok-notice_refusal.ensures) (ge_from_not_lt _ _ (sym c.if-lt.ensures)) (ge_from_not_lt _ _ (sym c.if-lt-2.ensures)) c.if-not-current.false _ (λ o. rw (c.number-k.ensures, c.window-window.ensures.0, c.window-window.ensures.1, c.insts.ensures) at (c.due-due.ensures o)) c.in_ok-has_room.ensures _ _ _ (rw (c.number-k.ensures, c.window-window.ensures.0, c.window-window.ensures.1) at c.notice_in-count.ensures) _ (rw (c.number-k.ensures, c.window-window.ensures.0) at c.held_after-slots.ensures)
