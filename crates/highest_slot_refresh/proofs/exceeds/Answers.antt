use Rattle.std.proofs.Common.{arith}
use Rattle.highest_slot_refresh.proofs.Laws as law
use Rattle.highest_slot_refresh.proofs.exceeds.Goals as goal

pub loop-i-init : goal.loop-i-init
loop-i-init c = (omega arith, omega arith, law.after_start c.args.batch.words.now _ _ c.count-n.ensures.0)

pub returns-then-n-gt-KEYS : goal.returns-then-n-gt-KEYS
returns-then-n-gt-KEYS c =
    let l = c.loop-i in
    law.after_past _ _ l.n _ l.i _ _ l.invariant.2 c.adds.ensures c.from-n.ensures c.count-i-end.ensures.0 (omega arith) (omega arith)

pub loop-i-preserved : goal.loop-i-preserved
loop-i-preserved c =
    let l = c.loop-i in
    (omega arith, omega arith, law.after_next _ _ l.n l.i _ _ l.invariant.2 c.adds.ensures c.from-n.ensures)

pub returns : goal.returns
returns c =
    let l = c.loop-i in
    law.after_end _ _ l.n _ l.i l.invariant.2 c.count-i-end.ensures.0 (omega arith) (omega arith) (omega arith)
