use Rattle.line_answer.proofs.Laws as law
use native.Mathlib.Omega.{arith}
use Rattle.line_answer.proofs.put_head.Goals as goal
use Rattle.text.proofs.Laws.{then}

pub returns : goal.returns
returns c =
    law.line_3 c.put_u64.ensures (then c.put_byte.ensures c.put_bytes.ensures) c.put_field.ensures c.put_byte-2.ensures _ (omega arith)
