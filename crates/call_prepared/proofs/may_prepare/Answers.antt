use mathlib.Core.List.{[]}
use native.Mathlib.Omega.{arith}
use Rattle.std.proofs.lemmas.Grind.{common_steps}
use Rattle.call_prepared.proofs.Laws as law
use Rattle.call_prepared.proofs.may_prepare.Goals as goal

pub returns-then-ballot-ne0 : goal.returns-then-ballot-ne0
returns-then-ballot-ne0 c =
    let e = law.leads_is c.args.node _ (c.is_leader.ensures []) in grind (arith, common_steps)

pub returns-else-ballot-ne0 : goal.returns-else-ballot-ne0
returns-else-ballot-ne0 c =
    let e = law.leads_is c.args.node _ (c.is_leader.ensures []) in grind (arith, common_steps)
