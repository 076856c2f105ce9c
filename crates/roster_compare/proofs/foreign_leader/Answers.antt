use borrow.Author.Rules.{rules}
use Rattle.roster_compare.proofs.Laws as law
use Rattle.roster_compare.proofs.foreign_leader.Goals as goal

pub returns : goal.returns
returns c = law.leader_is _ _ _ _ c.is_some_and.ensures (λ l p. search rules)
