use Rattle.stream_events.proofs.Laws as law
use native.Mathlib.Omega.{arith}
use Rattle.stream_events.proofs.one.Goals as goal

pub returns-then-long-clause-writes : goal.returns-then-long-clause-writes
returns-then-long-clause-writes c =
    law.says_long _ _ _ _ _ _ _ _ _ c.requires.0 (law.counted _ _ (omega arith) c.saturating_add-state.ensures) _ _ c.if-long.true c.put_answer.ensures

pub returns-clause-writes : goal.returns-clause-writes
returns-clause-writes c =
    law.says_heard _ _ _ _ _ _ _ _ _ c.requires.0 (law.counted _ _ (omega arith) c.saturating_add-state.ensures) _ _ _ _ _ _ _ c.requires.1 c.if-long.false c.event.ensures.answers
