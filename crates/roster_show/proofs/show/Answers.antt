use Rattle.roster_show.proofs.Listing as law
use Rattle.std.proofs.Common.{rules}
use Rattle.roster_show.proofs.show.Goals as goal

pub returns : goal.returns
returns c =
    let a = c.args in
    let p = c.put_spans.ensures in
    let n = c.push.ensures.same_reference in
    let m = c.put_spans.ensures.same_reference in
    let z = law.show_all a.conf a.rows.now a.area.now _ c.is_whole.ensures c.if-not-is_whole.false _ _ _ _ _ c.in_ok-has_room.ensures p.put p.counted c.push.ensures.put c.push.ensures.counted in
    search rules
