use Rattle.line_answer.specs.Wrote.{Listed}
use Rattle.line_answer.proofs.put_items.Given as goal

abbrev pub invariant-loop-words : goal.invariant-loop-words
invariant-loop-words l = Listed l.initial.text l.area l.words-index l.text
