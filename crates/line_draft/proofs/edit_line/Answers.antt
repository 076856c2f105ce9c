use native.Mathlib.Omega.{arith}
use lib.ListN.{get_or}
use Rattle.std.proofs.lemmas.Grind.{common_steps}
use Rattle.line_draft.proofs.Laws as law
use Rattle.line_draft.proofs.edit_line.Goals as goal

pub returns-in_ok-leader-in-Lead : goal.returns-in_ok-leader-in-Lead
returns-in_ok-leader-in-Lead c =
    let a = c.args in
    let h = law.to_leader a.population a.draft a.rows.now c.replica.result.0 (get_or c.in_ok-leader-in-Lead.field-0 0 0) c.set_leader.result a.rows.now c.replica.ensures c.set_leader.ensures in
    rw c.in-Lead.is (grind (arith, common_steps, h))

pub returns-in_ok-dropped-in-Drop : goal.returns-in_ok-dropped-in-Drop
returns-in_ok-dropped-in-Drop c =
    let a = c.args in
    let h = law.to_dropped a.population a.draft a.rows.now c.replica-in-Drop.result.0 (get_or c.in_ok-dropped-in-Drop.field-0 0 0) c.into_filtered.result c.into_filtered.new.rows c.replica-in-Drop.ensures c.into_filtered.ensures in
    rw c.in-Drop.is (grind (arith, common_steps, h))
