use Rattle.roster_map.proofs.Laws as law
use borrow.Author.Rules.{rules}
use Rattle.roster_map.proofs.RangeMapMut.store.Goals as goal

pub returns-then-out-gt-RANGES-clause-stored : goal.returns-then-out-gt-RANGES-clause-stored
returns-then-out-gt-RANGES-clause-stored c = search (rules, law.stores_full)

pub returns-clause-stored : goal.returns-clause-stored
returns-clause-stored c = search (rules, law.stores_rows)
