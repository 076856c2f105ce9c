use Rattle.roster_show.proofs.Listing as law
use Rattle.std.proofs.Common.{arith}
use mathlib.Core.Path.{ap, ◌∙◌}
use Rattle.items.specs.Item.{item_of}
use Rattle.roster_show.specs.Show.{span_of}
use Rattle.roster_show.proofs.put_spans.Goals as goal

pub loop-i-preserved : goal.loop-i-preserved
loop-i-preserved c =
    let l = c.loop-i in
    let a = c.args in
    let rows = a.map.rows.now in
    let area = a.items.now.area.now in
    let place = a.items.now.count in
    let p = rw l.invariant.counted at c.push.ensures.put in
    let t = law.taken_next rows area l.items.area.now _ place l.i a.map.count _ (item_of c.span.result) p l.invariant.put (omega (arith, c.loop-i-test.true, c.requires)) in
    record {
      same_reference = c.push.ensures.same_reference ∙ l.invariant.same_reference;
      counted = c.push.ensures.counted ∙ rw (t, l.invariant.counted) (omega arith);
      put = law.next_span rows area l.items.area.now _ place l.i a.map.count _ _ p l.invariant.put c.loop-i-test.true c.requires (c.span.ensures ∙ ap span_of c.get_row.ensures);
    }
