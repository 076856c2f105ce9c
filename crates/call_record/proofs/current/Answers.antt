use mathlib.Core.List.{[]}
use native.Mathlib.Omega.{arith}
use Rattle.std.proofs.lemmas.Grind.{common_steps}
use Rattle.call_record.proofs.Laws as law
use Rattle.call_record.proofs.current.Goals as goal

pub returns-then-is_leader : goal.returns-then-is_leader
returns-then-is_leader c =
    let e = law.leads_is c.args.node _ (c.is_leader.ensures []) in grind (arith, common_steps)

pub returns-else-is_leader : goal.returns-else-is_leader
returns-else-is_leader c =
    let e = law.leads_is c.args.node _ (c.is_leader.ensures []) in grind (arith, common_steps)
