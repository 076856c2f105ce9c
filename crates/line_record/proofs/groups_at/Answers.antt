use mathlib.Core.Path.{refl, ap, ◌∙◌}
use native.Mathlib.Omega.{arith}
use Rattle.line_reader.specs.declared.LineReader.{LineReader}
use Rattle.line_record.proofs.Laws as law
use Rattle.line_record.proofs.groups_at.Goals as goal

pub loop-count-init : goal.loop-count-init
loop-count-init c = (law.grouped_none _ _ _, refl)

pub returns-then-is_ended : goal.returns-then-is_ended
returns-then-is_ended c = law.grouped_all _ _ _ _ c.loop-count.reader _ c.loop-count.invariant.0 c.loop-count.invariant.1 c.if-is_ended.ensures c.requires.1

pub returns-in_err-group : goal.returns-in_err-group
returns-in_err-group c = rw c.from_residual.ensures (law.grouped_bad _ _ _ _ c.loop-count.reader _ c.loop-count.invariant.0 c.loop-count.invariant.1 c.if-is_ended.ensures c.in_err-group.ensures)

pub loop-count-preserved : goal.loop-count-preserved
loop-count-preserved c =
    (law.grouped_more _ _ _ _ c.loop-count.reader _ c.loop-count.invariant.0 c.loop-count.invariant.1 _ _ _ c.loop-count-test.true c.requires.1 c.in_ok-group.ensures.0 c.put_group.ensures, ap (λ (r : LineReader). r.line) c.in_ok-group.ensures.1 ∙ c.loop-count.invariant.1)

pub returns : goal.returns
returns c =
    law.grouped_full _ _ _ _ c.loop-count.reader _ c.loop-count.invariant.0 c.loop-count.invariant.1 (omega (arith, c.loop-count-test.false, c.loop-count.auto.count-end)) c.requires.0 c.requires.1
