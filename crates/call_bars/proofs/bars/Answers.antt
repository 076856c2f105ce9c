use mathlib.Core.Path.{sym, refl}
use Rattle.words.specs.Part.{part}
use Rattle.bodega.specs.Replica.{Bars}
use Rattle.node.proofs.Calls.{not_ready}
use Rattle.call_bars.proofs.Laws as law
use Rattle.call_bars.proofs.bars.Goals as goal

pub returns-then-not-is_ready : goal.returns-then-not-is_ready
returns-then-not-is_ready c =
    let a = c.args in
    not_ready (Bars a.start.0 a.accept.0 a.commit.0 a.exec.0) a.node a.mem.now a.area.now _ c.if-not-is_ready.ensures refl

pub insts-requires : goal.insts-requires
insts-requires c = let a = c.args in law.whole a.node a.mem.now a.area.now a.start a.accept a.commit a.exec (sym c.if-not-is_ready.ensures)

pub returns-in_err-bars_refusal : goal.returns-in_err-bars_refusal
unfolding part
returns-in_err-bars_refusal c =
    let a = c.args in
    law.bars_refused a.node a.mem.now a.area.now a.start a.accept a.commit a.exec (sym c.if-not-is_ready.ensures) _ _
    (rw (c.window-window.ensures.0, c.window-window.ensures.1, c.insts.ensures) at c.in_err-bars_refusal.ensures) c.from_residual.ensures.1

pub overflow_sub-result : goal.overflow_sub-result
unfolding part
overflow_sub-result c =
    let a = c.args in
    rw (c.number-2.ensures, c.window-window.ensures.0)
    (law.slots_left a.node a.mem.now a.area.now a.start a.accept a.commit a.exec (sym c.if-not-is_ready.ensures)
    (rw (c.window-window.ensures.0, c.window-window.ensures.1, c.insts.ensures) at c.in_ok-bars_refusal.ensures))

pub slice_bounds-execute-end : goal.slice_bounds-execute-end
slice_bounds-execute-end c =
    let a = c.args in law.long a.node a.mem.now a.area.now a.start a.accept a.commit a.exec (sym c.if-not-is_ready.ensures)

pub returns : goal.returns
unfolding part
returns c =
    let a = c.args in
    rw (c.number-2.ensures, c.window-window.ensures.0)
    (law.bars_moved a.node a.mem.now a.area.now a.start a.accept a.commit a.exec (sym c.if-not-is_ready.ensures)
    (rw (c.window-window.ensures.0, c.window-window.ensures.1, c.insts.ensures) at c.in_ok-bars_refusal.ensures) _
    (rw (c.first.ensures.0, c.first.ensures.1, c.number.ensures, c.window-window.ensures.0, c.window-window.ensures.1) at c.execute.ensures))
