use Rattle.std.proofs.Common.{rules, arith, sym, ap}
use Rattle.std.proofs.lemmas.Map.Keys.{ge_from_not_lt}
use Rattle.ids.specs.declared.Slot.{Slot}
use Rattle.words.specs.Part.{part}
use Rattle.call_heartbeat.proofs.Bars as law
use Rattle.heard_new_conf.proofs.Laws.{readied}
use Rattle.call_heartbeat.proofs.heard_bars.Goals as goal

pub returns-then-lt-clause-does : goal.returns-then-lt-clause-does
returns-then-lt-clause-does c =
    let a = c.args in
    law.low_does a.node a.mem.now c.requires.0 a.beat.ballot.0 a.beat.commit.0 a.beat.exec.0 a.items.now.area.now a.items.now.count a.beat.peer.0 c.requires.1 a.beat.snap.0 (search rules)

pub slice_bounds-advance-end : goal.slice_bounds-advance-end
slice_bounds-advance-end c =
    let a = c.args in
    omega (arith, (readied a.node a.mem.now c.requires.0).long)

pub advance-requires : goal.advance-requires
unfolding part
advance-requires c =
    let a = c.args in
    rw (ap (λ (x : Slot). x.0) c.window-window.ensures.0, c.window-window.ensures.1)
    (law.room a.node a.mem.now c.requires.0 a.beat.ballot.0 a.beat.commit.0 a.beat.exec.0 a.items.now.area.now a.items.now.count a.beat.peer.0 c.requires.1 a.beat.snap.0 (ge_from_not_lt _ _ (sym c.if-lt.ensures)) c.requires.2)

pub heard_peer-snap_bar-requires : goal.heard_peer-snap_bar-requires
unfolding part
heard_peer-snap_bar-requires c =
    let a = c.args in
    let e = rw (ap (λ (x : Slot). x.0) c.window-window.ensures.0, c.window-window.ensures.1) at c.advance.ensures.advances in
    law.heard_room a.node a.mem.now c.requires.0 a.beat.ballot.0 a.beat.commit.0 a.beat.exec.0 a.items.now.area.now a.items.now.count a.beat.peer.0 c.requires.1 a.beat.snap.0 (ge_from_not_lt _ _ (sym c.if-lt.ensures)) c.requires.2 _ _ _ e

pub returns-clause-does : goal.returns-clause-does
unfolding part
returns-clause-does c =
    let a = c.args in
    let e = rw (ap (λ (x : Slot). x.0) c.window-window.ensures.0, c.window-window.ensures.1) at c.advance.ensures.advances in
    law.high_does a.node a.mem.now c.requires.0 a.beat.ballot.0 a.beat.commit.0 a.beat.exec.0 a.items.now.area.now a.items.now.count a.beat.peer.0 c.requires.1 a.beat.snap.0 (ge_from_not_lt _ _ (sym c.if-lt.ensures)) c.requires.2 _ _ _ e _ _ (search rules) c.heard_peer-snap_bar.ensures
