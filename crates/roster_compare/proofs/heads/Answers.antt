use Rattle.std.proofs.Common.{◌+◌, rules, arith}
use Rattle.roster_map.proofs.Laws.{from_first}
use Rattle.roster_compare.proofs.heads.Goals as goal

pub returns-else-i-n : goal.returns-else-i-n
returns-else-i-n c = rw (from_first c.args.rows.now (c.args.i + 1) c.args.n (omega arith)) (search rules)
