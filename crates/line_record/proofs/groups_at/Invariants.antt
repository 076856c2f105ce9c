use mathlib.Core.Path.{◌≡◌}
use Rattle.line_record.proofs.Laws.{Grouped}
use Rattle.line_record.proofs.groups_at.Given as goal

abbrev pub invariant-loop-count : goal.invariant-loop-count
invariant-loop-count l = Grouped l.fn.reader.line.now l.fn.reader.at l.fn.groups l.groups l.reader.at l.count × (l.reader.line ≡ l.fn.reader.line)
