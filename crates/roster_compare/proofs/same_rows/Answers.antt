use Rattle.std.proofs.Common.{◌∙◌, ◌*◌, refl, rules, tests, arith}
use Rattle.std.proofs.lemmas.Iterator.{YieldsList-from_range}
use Rattle.std.proofs.lemmas.Iterator.Search.{all_from_yields_List}
use Rattle.layout.specs.Layout.{roster_row}
use Rattle.roster_map.specs.Rows.{range_at}
use Rattle.roster_conf.specs.Conf.{same_range}
use Rattle.roster_compare.proofs.Laws as law
use Rattle.roster_compare.proofs.same_rows.Goals as goal

pub returns-then-c-d : goal.returns-then-c-d
returns-then-c-d c =
    let s = c.args.crows.now in
    let u = c.args.drows.now in
    all_from_yields_List (λ i. same_range (range_at s (i * roster_row)) (range_at u (i * roster_row))) _ _ _ c.all.ensures.ran
    (YieldsList-from_range 0 c.args.c.count c.args.c.count refl (omega arith)) (λ x b q k. search (rules, tests))
    ∙ law.same_rows_are s u c.args.c.count c.args.d.count c.if-c-d.true

pub returns-else-c-d : goal.returns-else-c-d
returns-else-c-d c = law.counts_differ _ _ _ _ c.if-c-d.false
