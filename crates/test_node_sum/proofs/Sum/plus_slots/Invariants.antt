use mathlib.Core.Path.{◌≡◌}
use Rattle.test_node_sum.specs.Sum.{plus_numbers}
use Rattle.test_node_sum.specs.Numbers.{slots_of}
use Rattle.test_node_sum.proofs.Sum.plus_slots.Given as goal

abbrev pub invariant-loop-i : goal.invariant-loop-i
invariant-loop-i l = (l.sum.value ≡ plus_numbers l.self.value (slots_of l.self.words.now l.fn.start.0 l.i)) × (l.sum.words ≡ l.self.words)
