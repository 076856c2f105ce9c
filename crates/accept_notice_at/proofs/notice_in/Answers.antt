use Rattle.std.proofs.Common.{rules}
use Rattle.ids.specs.Leader.{leader_of}
use Rattle.insts.specs.Slots.{place_of}
use Rattle.accept_notice_at.proofs.Laws as law
use Rattle.accept_notice_at.proofs.notice_in.Goals as goal

pub returns-then-not-is_for-clause-notes : goal.returns-then-not-is_for-clause-notes
returns-then-not-is_for-clause-notes c = let e = rw c.as_ref.ensures at c.load.ensures in search (rules, law.notes_none, e)

pub release-requires : goal.release-requires
release-requires c =
    let a = c.args in
    let e = rw c.as_ref.ensures at c.load.ensures in
    let f = rw c.as_ref-2.ensures at c.load-2.ensures in
    law.release_room a.insts.now.words.now (place_of a.slot.0) c.load.result e a.notice.peer.0 a.notice.ballot.0 a.group.quorum (leader_of a.group.leader) a.last _ c.is_for.ensures c.if-not-is_for.false
    _ c.put_notice.ensures.sets c.load-2.result f _ c.has_quorum.ensures c.if-has_quorum.true _ a.items.now.area.now c.requires

pub returns-then-has_quorum-clause-notes : goal.returns-then-has_quorum-clause-notes
returns-then-has_quorum-clause-notes c =
    let e = rw c.as_ref.ensures at c.load.ensures in
    let f = rw c.as_ref-2.ensures at c.load-2.ensures in
    search (rules, law.notes_released, e, f)

pub returns-else-has_quorum-clause-notes : goal.returns-else-has_quorum-clause-notes
returns-else-has_quorum-clause-notes c =
    let e = rw c.as_ref.ensures at c.load.ensures in
    let f = rw c.as_ref-2.ensures at c.load-2.ensures in
    search (rules, law.notes_open, e, f)
