use Rattle.replay.proofs.Laws as law
use Rattle.replay.proofs.Program.step.Goals as goal

pub returns-then-from : goal.returns-then-from
returns-then-from c = law.turned _ _ _ _ _ _ _ _ _ _ _ _ c.turn-turned.auto.buf c.turn-turned.ensures.leaves

pub returns-in-Some : goal.returns-in-Some
returns-in-Some c = law.piece_read _ _ _ _ _ _ c.requires c.if-from.false _ _ (rw c.in-Some.is at c.in_ok-end.ensures)
