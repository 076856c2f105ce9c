use Rattle.exports.proofs.Laws as law
use borrow.Author.Rules.{rules}
use Rattle.exports.proofs.bodega_fresh.Goals as goal

pub returns : goal.returns
returns c = search (rules, law.fresh_begins, law.fresh_back, law.fresh_count)
