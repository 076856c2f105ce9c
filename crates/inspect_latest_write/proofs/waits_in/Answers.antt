use Rattle.node.specs.View.{view}
use Rattle.inspect_latest_write.proofs.Laws as law
use Rattle.inspect_latest_write.proofs.waits_in.Goals as goal

pub returns-then-not-is_held : goal.returns-then-not-is_held
returns-then-not-is_held c = λ m d.
    let a = c.args in law.wait_none a.node m a.insts.words.now d a.slot _ c.is_held.ensures c.if-not-is_held.true

pub returns : goal.returns
returns c = λ m d.
    let a = c.args in
    let s = a.insts.words.now in
    let o = c.slot_at.ensures in
    let w = law.stands a.node m s d a.slot _ c.is_held.ensures c.if-not-is_held.false c.load.result c.load.ensures c.slot_at.result o.slot o.place o.waits in
    rw o.slot at (c.waits_at.ensures (view a.node m) s w).0
