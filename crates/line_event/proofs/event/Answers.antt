use Rattle.line_event.proofs.Laws as law
use Rattle.line_event.proofs.event.Goals as goal

pub returns-then-out-lt-TEXT_BYTES-clause-answers : goal.returns-then-out-lt-TEXT_BYTES-clause-answers
returns-then-out-lt-TEXT_BYTES-clause-answers c =
    let a = c.args in law.small_out a.host.now a.buffers.now.mem.now a.buffers.now.rows.now a.buffers.now.area.now a.buffers.now.groups.now a.out.now a.line.now a.n c.if-out-lt-TEXT_BYTES.true

pub put_answer-end-requires : goal.put_answer-end-requires
put_answer-end-requires c =
    let a = c.args in (c.if-out-lt-TEXT_BYTES.false, law.few_items a.host.now a.buffers.now.mem.now a.buffers.now.rows.now a.buffers.now.area.now a.buffers.now.groups.now a.out.now a.line.now c.if-out-lt-TEXT_BYTES.false _ _ _ _ _ c.hear-acted.ensures.follows)

pub returns-clause-answers : goal.returns-clause-answers
returns-clause-answers c =
    let a = c.args in law.tells a.host.now a.buffers.now.mem.now a.buffers.now.rows.now a.buffers.now.area.now a.buffers.now.groups.now a.out.now a.line.now c.if-out-lt-TEXT_BYTES.false _ _ _ _ _ c.hear-acted.ensures.follows _ _ _ c.put_answer-end.ensures _ c.hear-acted.ensures.same.groups_size c.hear-acted.ensures.stays
