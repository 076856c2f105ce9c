use Rattle.std.proofs.Common.{arith}
use Rattle.ids.specs.Leader.{leader_of}
use Rattle.accept_notice_at.proofs.Laws as law
use Rattle.accept_notice_at.proofs.notice_at.Goals as goal

pub notice_in-requires : goal.notice_in-requires
notice_in-requires c =
    let a = c.args in
    rw c.slot.ensures
    (law.room_in a.group.quorum (leader_of a.group.leader) a.notice.peer.0 a.notice.ballot.0 a.window.start.0 a.window.held a.k a.insts.now.words.now c.pad.new.self.words.now c.held_after-held.result c.held_after-held.ensures
    c.pad.ensures.pads.0 _ _ c.requires.room)

pub returns-clause-notes : goal.returns-clause-notes
returns-clause-notes c =
    let a = c.args in
    let y = rw c.slot.ensures at c.notice_in.ensures.notes in
    law.notes_at a.group.quorum (leader_of a.group.leader) a.notice.peer.0 a.notice.ballot.0 a.window.start.0 a.window.held a.k a.insts.now.words.now c.pad.new.self.words.now c.held_after-held.result c.held_after-held.ensures
    c.pad.ensures.pads.0 _ _ _ _ _ c.pad.ensures.pads.1 (omega (arith, c.held_after-held.ensures, (law.after_range a.window.held a.k a.window.few c.requires.below).1)) y
