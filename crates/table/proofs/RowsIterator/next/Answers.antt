use Rattle.std.proofs.Common.{arith}
use Rattle.table.proofs.Laws as law
use Rattle.table.proofs.RowsIterator.next.Goals as goal

pub get-requires : goal.get-requires
get-requires g c = let s = c.args.self.now in (omega arith, law.below _ _ _ s.table.words.now s.next (rw s.counts at c.if-i-self.false))

pub returns-clause-steps : goal.returns-clause-steps
returns-clause-steps g c = let s = c.args.self.now in law.first_row _ _ _ s.table.words.now s.next s.count _ s.counts c.if-i-self.false c.get.ensures
