use Rattle.roster_map.proofs.Laws as law
use borrow.Author.Rules.{rules}
use native.Mathlib.Omega.{arith}
use mathlib.Core.Path.{◌∙◌}
use Rattle.roster_map.proofs.RangeMapMut.filter.Goals as goal

pub loop-i-preserved : goal.loop-i-preserved
loop-i-preserved c =
    let l = c.loop-i.invariant in
    record {
      words = search rules;
      few = omega arith;
      beyond = λ j h. c.push.ensures.beyond j (omega arith) ∙ l.beyond j (omega arith);
      rest = law.filter_on _ _ _ _ _ _ _ _ _ (omega arith) c.without.ensures c.row-row.ensures l.beyond c.push.ensures.pushed l.rest;
    }
