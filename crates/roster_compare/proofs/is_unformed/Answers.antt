use Rattle.std.proofs.Common.{refl, rules, arith}
use Rattle.std.proofs.lemmas.Iterator.{YieldsList-from_range}
use Rattle.std.proofs.lemmas.Iterator.Search.{all_from_yields_List}
use Rattle.roster_compare.proofs.Laws as law
use Rattle.roster_compare.proofs.is_unformed.Goals as goal

pub returns : goal.returns
returns c =
    let n = c.args.c.count in
    law.unformed_is c.args.c c.args.rows.now c.all.result c.requires.0
    (all_from_yields_List (law.heads_at c.args.rows.now n) _ _ _ c.all.ensures.ran (YieldsList-from_range 0 n n refl (omega arith)) (λ x b q k. search rules))
