use Rattle.std.proofs.Common.{◌+◌, ◌*◌, ◌++◌, take}
use Rattle.text.specs.Puts.{Puts}
use Rattle.line_answer.proofs.Laws.{fields}
use Rattle.line_answer.proofs.put_numbers.Given as goal

abbrev pub invariant-loop-n : goal.invariant-loop-n
invariant-loop-n l = Puts l.fn.text (l.name ++ fields (take l.n-index l.numbers)) (8 + l.n-index * 21) l.text
