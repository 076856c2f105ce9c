use Rattle.std.proofs.Common.{◌*◌, refl, rules, arith}
use Rattle.std.proofs.lemmas.Iterator.{YieldsList-from_range}
use Rattle.std.proofs.lemmas.Iterator.Search.{any_from_yields_List}
use Rattle.layout.specs.Layout.{roster_row}
use Rattle.roster_map.specs.Rows.{range_at}
use Rattle.roster_compare.proofs.Laws as law
use Rattle.roster_compare.proofs.foreign_mask.Goals as goal

pub returns-then-any : goal.returns-then-any
returns-then-any c =
    let a = c.args in
    law.row_misfits a.population a.c a.rows.now c.any.result
    (any_from_yields_List (λ i. law.misfit a.population (range_at a.rows.now (i * roster_row))) _ _ _ c.any.ensures.ran (YieldsList-from_range 0 a.c.count a.c.count refl (omega arith)) (λ x b q k. search rules))
    c.if-any.true

pub returns-else-any : goal.returns-else-any
returns-else-any c =
    let a = c.args in
    law.rows_fit a.population a.c a.rows.now c.any.result
    (any_from_yields_List (λ i. law.misfit a.population (range_at a.rows.now (i * roster_row))) _ _ _ c.any.ensures.ran (YieldsList-from_range 0 a.c.count a.c.count refl (omega arith)) (λ x b q k. search rules))
    c.fits.result c.if-any.false c.fits.ensures
