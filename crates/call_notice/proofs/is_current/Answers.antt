use mathlib.Core.List.{[]}
use native.Mathlib.Omega.{arith}
use Rattle.std.proofs.lemmas.Grind.{common_steps}
use Rattle.call_notice.proofs.Laws as law
use Rattle.call_notice.proofs.is_current.Goals as goal

pub returns-then-not-is_leader : goal.returns-then-not-is_leader
returns-then-not-is_leader c =
    let e = law.leads_is c.args.node _ (c.is_leader.ensures []) in grind (arith, common_steps)

pub returns-else-not-is_leader : goal.returns-else-not-is_leader
returns-else-not-is_leader c =
    let e = law.leads_is c.args.node _ (c.is_leader.ensures []) in grind (arith, common_steps)
