use Rattle.std.proofs.Common.{◌≡◌}
use Rattle.inty.specs.Value.{value_of}
use Rattle.roster_ranges.specs.Range.{at}
use Rattle.roster_map.specs.Rows.{ranges_of, rows_left}
use Rattle.roster_map.proofs.RangeMap.at.Given as goal

abbrev pub invariant-loop-i : goal.invariant-loop-i
invariant-loop-i l = at (rows_left l.self.rows.now l.i l.self.count) (value_of l.n) ≡ at (ranges_of l.self.rows.now l.self.count) (value_of l.n)
