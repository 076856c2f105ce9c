use Rattle.std.proofs.Common.{◌∙◌, ◌||◌, eqb, leb, get_or, refl, rules, tests, arith}
use Rattle.std.proofs.lemmas.Iterator.{YieldsList-from_range}
use Rattle.std.proofs.lemmas.Iterator.Search.{all_from_yields_List}
use Rattle.peer_exec_bar.proofs.Laws as law
use Rattle.peer_exec_bar.proofs.passed.Goals as goal

pub returns : goal.returns
returns c =
    let a = c.args in
    all_from_yields_List (λ p. eqb p a.id.0 || leb a.exec.0 (get_or a.execs.now p 0)) _ _ _ c.all.ensures.ran
    (YieldsList-from_range 0 a.population a.population refl (omega arith)) (λ x b q k. search (rules, tests))
    ∙ law.passed_by a.execs.now a.population a.id.0 a.exec.0
