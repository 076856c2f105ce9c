use Rattle.rank.proofs.Laws as law
use native.Mathlib.Omega.{arith}
use borrow.Author.Rules.{rules}
use Rattle.rank.proofs.kth.Goals as goal

pub returns-then-count_le-k : goal.returns-then-count_le-k
returns-then-count_le-k c =
    let a = c.args in
    law.top_is a.b.now a.k c.requires.0 c.requires.1 _ _ c.largest-to.ensures c.count_le.ensures c.if-count_le-k.true (λ i. omega (arith, c.type_inv.b i))

pub search-requires : goal.search-requires
search-requires c = search (rules, law.not_below, law.enough)
