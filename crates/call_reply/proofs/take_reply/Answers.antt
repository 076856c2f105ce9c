use Rattle.std.proofs.Common.{rules, ◌∙◌}
use native.Mathlib.Nat.{zero-add}
use Rattle.insts.specs.Slots.{place_of}
use Rattle.call_reply.proofs.Replies as law
use Rattle.call_reply.proofs.take_reply.Goals as goal

pub put_commit-requires : goal.put_commit-requires
put_commit-requires c =
    let a = c.args in
    law.commit_room a.words.now a.area.now a.node.id.0 a.node.bal_prepared.0 a.node.commit_bar.0 a.peer.0 a.slot.0 a.ack _ _ _ c.resends_to-to.ensures (rw c.as_ref.ensures at c.count_resends.ensures.0) c.commits.ensures c.in_ok-has_room.ensures
    _ ((rw c.as_ref-2.ensures at c.put_resends.ensures.counted) ∙ zero-add _) _ (rw c.as_ref-2.ensures at c.put_resends.ensures.put)

pub returns : goal.returns
returns c =
    let a = c.args in
    let z =
    law.all_put a.words.now a.area.now a.node.id.0 a.node.bal_prepared.0 a.node.commit_bar.0 a.peer.0 a.slot.0 a.ack _ _ _ c.resends_to-to.ensures (rw c.as_ref.ensures at c.count_resends.ensures.0) c.commits.ensures c.in_ok-has_room.ensures
    _ ((rw c.as_ref-2.ensures at c.put_resends.ensures.counted) ∙ zero-add _) _ (rw c.as_ref-2.ensures at c.put_resends.ensures.put) (place_of a.slot.0) _ _ c.put_commit.ensures.put c.act.ensures.acts in
    let n = c.act.ensures.same_reference in
    let m = c.put_commit.ensures.same_reference in
    let k = c.put_resends.ensures.same_reference in
    search rules
