use lib.ListN.{length}
use Rattle.line_fields.proofs.Laws.{ReadSoFar}
use Rattle.line_fields.proofs.numbers_at.Given as goal

abbrev pub invariant-loop-word : goal.invariant-loop-word
invariant-loop-word l = ReadSoFar l.line l.at (length l.initial.out) l.initial.out l.out l.next l.word-index
