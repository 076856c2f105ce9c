use Rattle.line_calls.proofs.Laws as law
use Rattle.line_calls.proofs.call_line.Goals as goal

pub returns : goal.returns
returns c = law.asked _ _ _ (rw c.in_ok-asked.ensures.ok_part at c.call_at.ensures) _ _ _ _ _ _ _ c.apply.ensures
