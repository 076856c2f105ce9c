use Rattle.std.proofs.Common.{◌≡◌, take}
use Rattle.words.specs.Writes.{writes}
use Rattle.words.proofs.copy_words.Given as goal

abbrev pub invariant-loop-i : goal.invariant-loop-i
invariant-loop-i l = l.to ≡ writes l.initial.to 0 (take l.i l.from)
