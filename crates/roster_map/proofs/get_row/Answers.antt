use Rattle.roster_map.proofs.Laws as law
use Rattle.roster_map.proofs.get_row.Goals as goal

pub returns : goal.returns
returns c = law.row_in c.args.rows.now c.args.i _ c.as_chunks.ensures.front c.requires
