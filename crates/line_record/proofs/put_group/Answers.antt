use Rattle.std.proofs.Common.{◌*◌, rules, arith}
use Rattle.words.proofs.Laws.{mid_writes}
use Rattle.line_record.specs.Groups.{row_of}
use Rattle.line_record.proofs.put_group.Goals as goal

pub returns : goal.returns
returns c = mid_writes c.args.groups.now (c.args.i * 6) _ _ (row_of c.args.g) (omega arith) (omega arith) (search rules)
