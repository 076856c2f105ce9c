use native.Mathlib.Omega.{arith}
use Rattle.line_fields.proofs.Laws as law
use Rattle.line_fields.proofs.optional_at.Goals as goal
use Rattle.line_fields.proofs.optional_at.Goals.{then-at-line-2-via-then-at-line-2, then-at-line-2-via-else-at-line-2+then-line-at-eq44}

pub returns-then-at-line : goal.returns-then-at-line
returns-then-at-line c = law.past_optional _ _ c.if-at-line.true

pub returns-then-at-line-2 : goal.returns-then-at-line-2
returns-then-at-line-2 c =
    elim c.then-at-line-2.branch [
      | then-at-line-2-via-then-at-line-2 w ↦ law.end_optional _ _ w.if-at-line-2.true
      | then-at-line-2-via-else-at-line-2+then-line-at-eq44 w ↦ law.comma_optional _ _ (omega (arith, c.if-at-line.false, w.if-at-line-2.false)) w.if-line-at-eq44.true
    ]

pub returns-in_err-number : goal.returns-in_err-number
returns-in_err-number c =
    rw c.from_residual.ensures (law.no_optional _ _ (omega (arith, c.if-at-line.false, c.if-at-line-2.false)) c.if-line-at-eq44.false c.in_err-number.ensures)

pub returns : goal.returns
returns c = law.number_optional _ _ (omega (arith, c.if-at-line.false, c.if-at-line-2.false)) c.if-line-at-eq44.false _ c.in_ok-number.ensures
