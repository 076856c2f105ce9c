use Rattle.std.proofs.Common.{ap, sym, ◌∙◌, List}
use Rattle.inty.specs.Value.{value_of}
use Rattle.roster_ranges.specs.Range.{Range, at}
use Rattle.roster_map.specs.Rows.{range_at}
use Rattle.roster_map.proofs.Laws as law
use Rattle.roster_map.proofs.RangeMap.at.Goals as goal

pub loop-i-init : goal.loop-i-init
loop-i-init c = ap (λ (l : List Range). at l (value_of c.args.n)) (law.all_left _ _)

pub returns-then-holds : goal.returns-then-holds
unfolding range_at
returns-then-holds c = sym (law.hit _ _ _ _ c.loop-i-test.true (sym c.holds.ensures ∙ c.if-holds.true)) ∙ c.loop-i.invariant

pub loop-i-preserved : goal.loop-i-preserved
loop-i-preserved c = sym (law.miss _ _ _ _ c.loop-i-test.true (sym c.holds.ensures ∙ c.if-holds.false)) ∙ c.loop-i.invariant

pub returns : goal.returns
returns c = sym (ap (λ (l : List Range). at l (value_of c.args.n)) (law.none_left _ _ _ c.loop-i-test.false)) ∙ c.loop-i.invariant
