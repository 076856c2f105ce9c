use Rattle.std.proofs.Common.{arith}
use Rattle.call_record.proofs.Laws as law
use Rattle.call_record.proofs.is_ended.Goals as goal

pub returns-then-lt-2 : goal.returns-then-lt-2
returns-then-lt-2 c =
    let a = c.args in
    law.held_slot a.window.start.0 a.window.held a.slot.0 a.insts.words.now (grind arith) (grind arith) _ c.is_open.ensures

pub returns-else-lt-2 : goal.returns-else-lt-2
returns-else-lt-2 c =
    let a = c.args in
    let e = law.past_end a.window.start.0 a.window.held a.slot.0 a.insts.words.now (grind arith) (grind arith) in
    grind arith
