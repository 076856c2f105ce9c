use Rattle.line_calls.proofs.Laws as law
use Rattle.line_calls.proofs.heard_line.Goals as goal

pub returns : goal.returns
returns c = λ w. law.heard _ _ _ (rw c.in_ok-call.ensures.ok_part at c.heard_call.ensures) _ _ _ _ _ _ _ _ w c.apply.ensures
