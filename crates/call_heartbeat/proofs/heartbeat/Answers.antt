use mathlib.Core.Path.{sym}
use borrow.Author.Rules.{rules}
use Rattle.std.proofs.lemmas.Map.Keys.{ge_from_not_lt}
use Rattle.call_heartbeat.proofs.Call as law
use Rattle.call_heartbeat.proofs.heartbeat.Goals as goal
use Rattle.call_heartbeat.proofs.heartbeat.Goals.{then-not-is_ready-via-then-not-is_ready, then-not-is_ready-via-else-not-is_ready+then-not-is_fitting}

pub returns-then-not-is_ready : goal.returns-then-not-is_ready
returns-then-not-is_ready c =
    let a = c.args in
    elim c.then-not-is_ready.branch [
      | then-not-is_ready-via-then-not-is_ready w ↦ law.not_ready a.node a.mem.now a.area.now a.peer.0 a.ballot.0 a.conf a.rows.now a.commit.0 a.exec.0 a.snap.0 (sym w.if-not-is_ready.ensures)
      | then-not-is_ready-via-else-not-is_ready+then-not-is_fitting w ↦ law.not_fitting a.node a.mem.now a.area.now a.peer.0 a.ballot.0 a.conf a.rows.now a.commit.0 a.exec.0 a.snap.0 (sym w.if-not-is_fitting.ensures)
    ]

pub returns-in_err-early_refusal : goal.returns-in_err-early_refusal
returns-in_err-early_refusal c =
    let a = c.args in
    law.beat_refused a.node a.mem.now a.area.now a.peer.0 a.ballot.0 a.conf a.rows.now a.commit.0 a.exec.0 a.snap.0 (sym c.if-not-is_ready.ensures) (sym c.if-not-is_fitting.ensures) _ _ c.in_err-early_refusal.ensures c.from_residual.ensures.1

pub returns-then-lacks_slot : goal.returns-then-lacks_slot
returns-then-lacks_slot c =
    let a = c.args in
    law.beat_15 a.node a.mem.now a.area.now a.peer.0 a.ballot.0 a.conf a.rows.now a.commit.0 a.exec.0 a.snap.0 (sym c.if-not-is_ready.ensures) (sym c.if-not-is_fitting.ensures) c.in_ok-early_refusal.ensures _ c.installed-conf.ensures.0 _ (c.lacks_slot.ensures a.rows.now) c.if-lacks_slot.true

pub returns-then-lt : goal.returns-then-lt
returns-then-lt c =
    let a = c.args in
    law.lower_taken a.node a.mem.now a.area.now a.peer.0 a.ballot.0 a.conf a.rows.now a.commit.0 a.exec.0 a.snap.0 (sym c.if-not-is_ready.ensures) (sym c.if-not-is_fitting.ensures) c.in_ok-early_refusal.ensures _ c.installed-conf.ensures.0 _ (c.lacks_slot.ensures a.rows.now) c.if-lacks_slot.false (search rules)

pub returns-in_err-has_room : goal.returns-in_err-has_room
returns-in_err-has_room c =
    let a = c.args in
    law.beat_20 a.node a.mem.now a.area.now a.peer.0 a.ballot.0 a.conf a.rows.now a.commit.0 a.exec.0 a.snap.0 (sym c.if-not-is_ready.ensures) (sym c.if-not-is_fitting.ensures) c.in_ok-early_refusal.ensures _ c.installed-conf.ensures.0 _ (c.lacks_slot.ensures a.rows.now) c.if-lacks_slot.false (ge_from_not_lt _ _ (sym c.if-lt.ensures)) _ (c.count_items.ensures a.rows.now) _ _ c.in_err-has_room.ensures c.from_residual-in_err-has_room.ensures.1

pub heard-node-requires : goal.heard-node-requires
heard-node-requires c =
    let a = c.args in
    law.heard_room a.node a.mem.now a.area.now a.peer.0 a.ballot.0 a.conf a.rows.now a.commit.0 a.exec.0 a.snap.0 (sym c.if-not-is_ready.ensures) (sym c.if-not-is_fitting.ensures) _ c.installed-conf.ensures.1 c.in_ok-early_refusal.ensures c.installed-conf.ensures.0 _ (c.lacks_slot.ensures a.rows.now) c.if-lacks_slot.false (ge_from_not_lt _ _ (sym c.if-lt.ensures)) _ (c.count_items.ensures a.rows.now) c.in_ok-has_room.ensures

pub returns : goal.returns
returns c =
    let a = c.args in
    let p = law.beat_taken a.node a.mem.now a.area.now a.peer.0 a.ballot.0 a.conf a.rows.now a.commit.0 a.exec.0 a.snap.0 (sym c.if-not-is_ready.ensures) (sym c.if-not-is_fitting.ensures) c.in_ok-early_refusal.ensures _ c.installed-conf.ensures.0 _ (c.lacks_slot.ensures a.rows.now) c.if-lacks_slot.false (ge_from_not_lt _ _ (sym c.if-lt.ensures)) _ (c.count_items.ensures a.rows.now) c.in_ok-has_room.ensures _ _ _ _ c.heard-node.ensures.does in
    search rules
