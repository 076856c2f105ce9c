use mathlib.Core.Path.{◌∙◌}
use Rattle.line_fields.proofs.Laws as law
use Rattle.line_fields.proofs.number_of.Goals as goal

pub returns-in_err-number : goal.returns-in_err-number
returns-in_err-number c = c.from_residual.ensures ∙ law.number_bad _ c.in_err-number.ensures

pub returns : goal.returns
returns c = c.then_some.ensures ∙ law.number_whole _ _ c.in_ok-number.ensures _ c.ended.ensures
