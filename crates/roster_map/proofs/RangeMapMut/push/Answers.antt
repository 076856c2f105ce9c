use Rattle.roster_map.proofs.Laws as law
use borrow.Author.Rules.{rules}
use Rattle.roster_map.proofs.RangeMapMut.push.Goals as goal

pub returns-then-extends_last-clause-pushed : goal.returns-then-extends_last-clause-pushed
returns-then-extends_last-clause-pushed c = search (rules, law.push_joins)
