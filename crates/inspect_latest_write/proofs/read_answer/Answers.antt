use Rattle.std.proofs.Common.{ap, ◌∙◌}
use Rattle.bodega.specs.Localread as local
use Rattle.bodega.specs.Request.{read_answer}
use Rattle.node.specs.View.{view}
use Rattle.inspect_latest_write.proofs.read_answer.Goals as goal

pub returns : goal.returns
unfolding read_answer
returns c =
    let a = c.args in
    let s = c.settled_by.ensures in
    let g = c.answer_of.ensures a.mem.now s.1 in
    (g.0 ∙ ap (local.answer_of (view a.node a.mem.now)) s.0, g.1)
