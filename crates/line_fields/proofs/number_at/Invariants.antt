use Prim.Native.Nat.{◌+◌}
use mathlib.Core.Path.{◌≡◌}
use Rattle.line_fields.proofs.Laws.{Digits}
use Rattle.line_fields.proofs.number_at.Given as goal

abbrev pub invariant-loop-c : goal.invariant-loop-c
invariant-loop-c l = Digits l.line l.at l.value l.end × (l.end ≡ l.at + l.c-index)
