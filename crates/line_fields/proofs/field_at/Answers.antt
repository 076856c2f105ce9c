use Rattle.line_fields.proofs.Laws as law
use Rattle.line_fields.proofs.field_at.Goals as goal

pub returns-then-at-line : goal.returns-then-at-line
returns-then-at-line c = law.field_past _ _ c.if-at-line.true

pub returns : goal.returns
returns c = law.field_to _ _ _ _ c.if-at-line.false c.comma.ensures c.unwrap_or.ensures
