use Rattle.std.proofs.Common.{rules, sym, refl, ap}
use Rattle.ids.specs.declared.Slot.{Slot}
use Rattle.words.specs.Part.{part}
use Rattle.bodega.specs.Replica.{CommitNotice}
use Rattle.node.proofs.Calls.{not_ready}
use Rattle.call_commit.proofs.Laws as law
use Rattle.call_commit.proofs.commit.Goals as goal

pub returns-then-not-is_ready : goal.returns-then-not-is_ready
returns-then-not-is_ready c =
    let a = c.args in
    not_ready (CommitNotice a.peer.0 a.ballot.0 a.bar.0) a.node a.mem.now a.area.now _ c.if-not-is_ready.ensures refl

pub returns-in_err-commit_refusal : goal.returns-in_err-commit_refusal
returns-in_err-commit_refusal c =
    let a = c.args in
    law.commit_refused a.node a.mem.now a.area.now a.peer.0 a.ballot.0 a.bar.0 (sym c.if-not-is_ready.ensures) _ _ c.in_err-commit_refusal.ensures c.from_residual.ensures.1

pub returns-then-ne : goal.returns-then-ne
returns-then-ne c =
    let a = c.args in
    law.other_ballot a.node a.mem.now a.area.now a.peer.0 a.ballot.0 a.bar.0 (sym c.if-not-is_ready.ensures) c.in_ok-commit_refusal.ensures c.if-ne.ensures

pub insts-requires : goal.insts-requires
insts-requires c =
    let a = c.args in law.whole a.node a.mem.now a.area.now a.peer.0 a.ballot.0 a.bar.0 (sym c.if-not-is_ready.ensures)

pub count_commits-count-requires : goal.count_commits-count-requires
count_commits-count-requires c =
    let a = c.args in
    rw (ap (λ (x : Slot). x.0) c.window-window.ensures.0, c.window-window.ensures.1) (law.asked a.node a.mem.now a.area.now a.peer.0 a.ballot.0 a.bar.0 (sym c.if-not-is_ready.ensures))

pub returns-in_err-has_room : goal.returns-in_err-has_room
returns-in_err-has_room c =
    let a = c.args in
    let e = rw (ap (λ (x : Slot). x.0) c.window-window.ensures.0, c.window-window.ensures.1, c.insts.ensures) at c.count_commits-count.ensures in
    law.commit_20 a.node a.mem.now a.area.now a.peer.0 a.ballot.0 a.bar.0 (sym c.if-not-is_ready.ensures) c.in_ok-commit_refusal.ensures c.if-ne.ensures _ e _ _ c.in_err-has_room.ensures c.from_residual-in_err-has_room.ensures.1

pub slice_bounds-advance-end : goal.slice_bounds-advance-end
slice_bounds-advance-end c =
    let a = c.args in law.long a.node a.mem.now a.area.now a.peer.0 a.ballot.0 a.bar.0 (sym c.if-not-is_ready.ensures)

pub advance-requires : goal.advance-requires
unfolding part
advance-requires c =
    let a = c.args in
    let e = rw (ap (λ (x : Slot). x.0) c.window-window.ensures.0, c.window-window.ensures.1, c.insts.ensures) at c.count_commits-count.ensures in
    rw (ap (λ (x : Slot). x.0) c.window-window.ensures.0, c.window-window.ensures.1)
    (law.room a.node a.mem.now a.area.now a.peer.0 a.ballot.0 a.bar.0 (sym c.if-not-is_ready.ensures) c.in_ok-commit_refusal.ensures c.if-ne.ensures _ e c.in_ok-has_room.ensures)

pub returns : goal.returns
unfolding part
returns c =
    let a = c.args in
    let e = rw (ap (λ (x : Slot). x.0) c.window-window.ensures.0, c.window-window.ensures.1, c.insts.ensures) at c.count_commits-count.ensures in
    let f = rw (ap (λ (x : Slot). x.0) c.window-window.ensures.0, c.window-window.ensures.1) at c.advance.ensures.advances in
    let p = law.commit_taken a.node a.mem.now a.area.now a.peer.0 a.ballot.0 a.bar.0 (sym c.if-not-is_ready.ensures) c.in_ok-commit_refusal.ensures c.if-ne.ensures _ e c.in_ok-has_room.ensures _ _ _ f in
    search rules
