use Rattle.line_answer.proofs.Laws as law
use native.Mathlib.Omega.{arith}
use Rattle.line_answer.proofs.put_retry.Goals as goal

pub returns : goal.returns
returns c =
    law.line_4 c.put_bytes.ensures c.put_field.ensures c.put_field-2.ensures c.put_leader.ensures c.put_byte.ensures _ (omega arith)
