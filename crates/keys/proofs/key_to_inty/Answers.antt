use Rattle.std.proofs.Common.{rules}
use Rattle.keys.proofs.Laws as law
use Rattle.keys.proofs.key_to_inty.Goals as goal

pub returns-then-is_empty : goal.returns-then-is_empty
returns-then-is_empty c = search (rules, law.key_empty)

pub returns : goal.returns
returns c = search (rules, law.key_read)
