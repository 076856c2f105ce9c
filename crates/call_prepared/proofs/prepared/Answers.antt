use mathlib.Core.Path.{sym, refl}
use Rattle.bodega.specs.Replica.{Prepared}
use Rattle.bodega.specs.Events.{prepared}
use Rattle.node.specs.View.{view, ready}
use Rattle.node.proofs.Calls.{not_ready}
use Rattle.call_prepared.proofs.Laws as law
use Rattle.call_prepared.proofs.prepared.Goals as goal

pub returns-then-not-is_ready : goal.returns-then-not-is_ready
returns-then-not-is_ready c =
    let a = c.args in
    not_ready (Prepared a.ballot.0) a.node a.mem.now a.area.now _ c.if-not-is_ready.ensures refl

pub returns-then-not-may_prepare : goal.returns-then-not-may_prepare
returns-then-not-may_prepare c =
    let a = c.args in
    law.prepared_13 a.node a.mem.now a.area.now a.ballot.0 (sym c.if-not-is_ready.ensures) _ c.may_prepare.ensures c.if-not-may_prepare.true

pub returns : goal.returns
unfolding view prepared ready
returns c =
    let a = c.args in
    law.prepared_taken a.node a.mem.now a.area.now a.ballot.0 (sym c.if-not-is_ready.ensures) _ c.may_prepare.ensures _ c.if-not-may_prepare.false refl refl
