use Rattle.accept_notice_at.proofs.Laws as law
use Rattle.accept_notice_at.proofs.due.Goals as goal

pub returns : goal.returns
returns c = λ leader.
    let a = c.args in
    law.due_held a.quorum leader a.notice.peer.0 a.notice.ballot.0 a.window.start.0 a.window.held a.k a.insts.words.now c.if-window-k.false _ (rw c.slot.ensures at (c.due_in.ensures leader))
