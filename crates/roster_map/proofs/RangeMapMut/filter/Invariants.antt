use Rattle.roster_map.proofs.Laws as law
use mathlib.Core.Bool.{false}
use Prim.Native.Nat.{◌*◌, ◌≤◌}
use Rattle.words.specs.Part.{Untouched}
use Rattle.layout.specs.Layout.{roster_row}
use Rattle.bitmap.specs.Bitmap.{set_to}
use Rattle.roster_map.specs.Rows.{ranges_of, SameWords}
use Rattle.roster_map.proofs.RangeMapMut.filter.Given as goal

abbrev pub invariant-loop-i : goal.invariant-loop-i
invariant-loop-i l = record {
  words : SameWords l.initial.self.rows l.self.rows;
  few : l.self.count ≤ l.i;
  beyond : Untouched (l.i * roster_row) l.initial.self.rows.now l.self.rows.now;
  rest : law.FilterRest (λ m. set_to m l.fn.id.0 false) l.initial.self.rows.now l.i l.count (ranges_of l.self.rows.now l.self.count);
}
