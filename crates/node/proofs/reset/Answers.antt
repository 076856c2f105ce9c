use Rattle.std.proofs.Common.{length-take, arith}
use Rattle.node.proofs.Laws as law
use Rattle.node.proofs.reset.Goals as goal

pub slice_bounds-fill-end-2 : goal.slice_bounds-fill-end-2
slice_bounds-fill-end-2 c = simp length-take (omega arith)

pub returns : goal.returns
returns c =
    let f1 = c.fill in
    let f2 = c.fill-2 in
    let f3 = c.fill-3 in
    law.reset_is c.args.mem.now f1.new.self f2.new.self f3.new.self c.requires f1.ensures.len f2.ensures.len f3.ensures.len (f1.ensures.after (λ y e. e)) (f2.ensures.after (λ y e. e)) (f3.ensures.after (λ y e. e))
