use mathlib.Core.List.{[]}
use native.Mathlib.Omega.{arith}
use Rattle.std.proofs.lemmas.Grind.{common_steps}
use Rattle.call_reply.proofs.Replies as law
use Rattle.call_reply.proofs.awaits.Goals as goal

pub returns-then-eq : goal.returns-then-eq
returns-then-eq c =
    let e = law.leads_is c.args.node _ (c.is_leader.ensures []) in grind (arith, common_steps)
