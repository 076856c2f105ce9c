use Rattle.std.proofs.Common.{arith}
use Rattle.line_answer.proofs.Laws as law
use Rattle.line_answer.proofs.put_numbers.Goals as goal

pub loop-n-preserved : goal.loop-n-preserved
loop-n-preserved c = law.named_more c.args.name.now _ _ c.loop-n.invariant (omega arith) c.put_field.ensures

pub returns : goal.returns
returns c = law.named_line c.args.name.now _ _ c.loop-n.invariant (omega arith) (omega arith) c.put_byte.ensures
