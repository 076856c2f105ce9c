use Rattle.std.proofs.Common.{rules, refl, ◌∙◌}
use Rattle.line_answer.proofs.Items as items
use Rattle.line_answer.proofs.put_numbered.Goals as goal

pub returns-then-number-ne0 : goal.returns-then-number-ne0
returns-then-number-ne0 c =
    items.answer_refused c.args.area.now refl c.requires.0 c.if-number-ne0.true c.put_head.ensures (search (rules, c.put_head.ensures.held))

pub returns-else-number-ne0 : goal.returns-else-number-ne0
returns-else-number-ne0 c =
    items.answer_taken c.args.area.now refl c.requires.0 c.if-number-ne0.false c.requires.1 c.put_head-else-number-ne0.ensures c.put_items.ensures (search (rules, c.put_items.ensures.held ∙ c.put_head-else-number-ne0.ensures.held))
