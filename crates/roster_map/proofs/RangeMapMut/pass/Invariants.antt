use Rattle.roster_map.proofs.Laws as law
use mathlib.Core.Path.{◌≡◌}
use Prim.Native.Nat.{◌+◌, ◌≤◌}
use Rattle.roster_ranges.specs.Range.{push_all, each}
use Rattle.roster_map.specs.Rows.{ranges_of, SameWords}
use Rattle.roster_map.proofs.RangeMapMut.pass.Given as goal

abbrev pub invariant-loop-i : goal.invariant-loop-i
invariant-loop-i g l = record {
  words : SameWords l.initial.self.rows l.self.rows;
  few : l.self.count ≤ l.initial.self.count + l.i;
  rest : push_all (ranges_of l.self.rows.now l.self.count) (each g.kept (law.rows_from l.from.rows.now l.i l.from.count)) ≡ push_all (ranges_of l.initial.self.rows.now l.initial.self.count) (each g.kept (ranges_of l.from.rows.now l.from.count));
}
