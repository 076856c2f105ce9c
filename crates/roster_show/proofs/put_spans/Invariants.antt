use mathlib.Core.Path.{◌≡◌}
use Prim.Native.Nat.{◌+◌, ◌*◌}
use Rattle.words.specs.Writes.{writes}
use Rattle.items.specs.Item.{encode}
use Rattle.roster_map.specs.Rows.{ranges_of}
use Rattle.roster_show.specs.Show.{spans_of}
use Rattle.roster_show.proofs.put_spans.Given as goal

abbrev pub invariant-loop-i : goal.invariant-loop-i
invariant-loop-i l = record {
  same_reference : l.items.area.ghost_name ≡ l.initial.items.area.ghost_name;
  counted : l.items.count ≡ l.initial.items.count + l.i;
  put : l.items.area.now ≡ writes l.initial.items.area.now (l.initial.items.count * 6) (encode (spans_of (ranges_of l.map.rows.now l.i)));
}
