use Rattle.std.proofs.Common.{◌*◌, rules, arith}
use Rattle.words.proofs.Laws.{mid_writes}
use Rattle.layout.specs.Layout.{roster_row}
use Rattle.roster_map.specs.Rows.{row_words}
use Rattle.roster_map.proofs.put_row.Goals as goal

pub returns : goal.returns
returns c = mid_writes c.args.rows.now (c.args.i * roster_row) _ _ (row_words c.args.row) c.requires (omega arith) (search rules)
