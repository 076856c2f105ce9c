use Rattle.std.proofs.Common.{refl, rules, tests}
use Rattle.inst_cell.specs.Cell.{with_status}
use Rattle.bodega.specs.Replica.{Committed}
use Rattle.advance_commit_bar.proofs.Laws as law
use Rattle.advance_commit_bar.proofs.mark.Goals as goal

pub returns-clause-marks : goal.returns-clause-marks
returns-clause-marks c =
    law.changes (with_status Committed) _ _ _ c.is_open.result (rw c.as_ref.ensures at c.is_open.ensures) _ _ (search (rules, tests)) c.requires _ _ _ _ _
    refl c.set_status.ensures.puts c.push.ensures.put c.push.ensures.counted

pub returns-then-not-is_open-clause-marks : goal.returns-then-not-is_open-clause-marks
returns-then-not-is_open-clause-marks c = law.stays (with_status Committed) _ _ _ c.is_open.result (rw c.as_ref.ensures at c.is_open.ensures) _ _ (search (rules, tests))
