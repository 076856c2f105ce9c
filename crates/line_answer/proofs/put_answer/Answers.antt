use Rattle.std.proofs.Common.{refl}
use Rattle.line_answer.proofs.Items as items
use Rattle.line_answer.proofs.put_answer.Goals as goal

pub returns-in-Ok : goal.returns-in-Ok
returns-in-Ok c = rw c.in-Ok.is (items.answered_taken c.put_numbered.ensures refl)

pub returns-in-Err : goal.returns-in-Err
returns-in-Err c = rw c.in-Err.is (items.answered_refused c.put_numbered-in-Err.ensures _ c.number.ensures)
