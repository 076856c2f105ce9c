use mathlib.Core.Path.{◌∙◌}
use Rattle.line_kind.proofs.Names as law
use Rattle.line_kind.proofs.is.Goals as goal

pub returns : goal.returns
returns c = c.eq.ensures ∙ law.same_is _ _
