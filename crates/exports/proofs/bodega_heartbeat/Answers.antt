use Rattle.exports.proofs.Laws as law
use borrow.Author.Rules.{rules}
use Rattle.exports.proofs.bodega_heartbeat.Goals as goal

pub returns : goal.returns
returns c = search (rules, law.heard, law.gives_back)
