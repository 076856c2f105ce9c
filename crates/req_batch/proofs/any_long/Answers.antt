use Rattle.std.proofs.Common.{refl, ◌∙◌, rules, tests, arith}
use Rattle.std.proofs.lemmas.Iterator.{YieldsList-from_range}
use Rattle.std.proofs.lemmas.Iterator.Search.{any_from_yields_List}
use Rattle.roster_conf.specs.Edit.{long_key}
use Rattle.req_batch.specs.Given.{given_at}
use Rattle.req_batch.proofs.Laws as law
use Rattle.req_batch.proofs.any_long.Goals as goal

pub returns : goal.returns
returns c =
    let a = c.args in
    any_from_yields_List (λ k. long_key (given_at a.rows.now a.text.now k).key) _ _ _ c.any.ensures.ran (YieldsList-from_range 0 _ _ refl (omega arith)) (λ x b q k. search (rules, tests))
    ∙ law.some_long a.rows.now a.text.now
