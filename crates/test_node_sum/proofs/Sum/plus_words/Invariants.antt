use mathlib.Core.Path.{◌≡◌}
use Rattle.words.specs.Tab.{words_from}
use Rattle.test_node_sum.specs.Sum.{plus_numbers}
use Rattle.test_node_sum.proofs.Sum.plus_words.Given as goal

abbrev pub invariant-loop-i : goal.invariant-loop-i
invariant-loop-i l = l.value ≡ plus_numbers l.self.value (words_from l.i l.self.words.now l.at)
