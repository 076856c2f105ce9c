use Rattle.roster_map.proofs.Laws as law
use borrow.Author.Rules.{rules}
use Rattle.roster_map.proofs.RangeMapMut.set.Goals as goal

pub returns-clause-stored : goal.returns-clause-stored
returns-clause-stored c = search (rules, law.stores_over)
