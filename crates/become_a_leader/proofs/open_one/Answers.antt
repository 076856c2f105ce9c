use Rattle.std.proofs.Common.{arith}
use Rattle.become_a_leader.proofs.Laws as law
use Rattle.become_a_leader.proofs.open_one.Goals as goal

pub returns-then-any_open-clause-opens : goal.returns-then-any_open-clause-opens
returns-then-any_open-clause-opens c = law.as_many _ _ _ _ (rw c.as_ref.ensures at c.any_open.ensures) c.if-any_open.true

pub pad-requires : goal.pad-requires
pad-requires c = (omega arith, law.one_more_fits _ _ _ _ (rw c.as_ref.ensures at c.any_open.ensures) c.if-any_open.false c.requires)

pub invariant_of-result : goal.invariant_of-result
invariant_of-result c = record { low = c.args.window.low; few = law.one_more_fits _ _ _ _ (rw c.as_ref.ensures at c.any_open.ensures) c.if-any_open.false c.requires }

pub returns-clause-opens : goal.returns-clause-opens
returns-clause-opens c = law.one_slot_more _ _ _ _ (rw c.as_ref.ensures at c.any_open.ensures) c.if-any_open.false _ c.pad.ensures.pads
