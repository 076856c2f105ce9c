-- A call that is taken meets none of its grounds; one that is refused is refused by the lowest.
use Prim.Native.Nat.{ℕ, ◌<◌}
use mathlib.Core.Bool.{true}
use mathlib.Core.List.{List, [], ◌∷◌, ◌++◌}
use Rattle.std.specs.Prelude.{Option, None, Some}
use mathlib.Core.Path.{◌≡◌, refl}
use native.Mathlib.Omega.{arith}
use Rattle.roster_conf.specs.Ground.{Ground, Ascends}
use Rattle.roster_conf.proofs.Grounds.{zero_one, lowest, NoneApply, none_apply, none_before, Positive, not_0}
use Rattle.bodega.specs.Replica.{Replica, Call, Heartbeat, Guard, Prepared, Record, Reply, Notice, CommitNotice, Bars, Read, Release, Done}
use Rattle.bodega.specs.Grounds.{grounds}
use Rattle.bodega.specs.Step.{effect, all_grounds, refusal_of, LowestFirst, step, step_by, is_taken}

is_none : (o : Option ℕ) (d : Done) → is_taken (step_by o d) ≡ true → o ≡ None
is_none None d h = refl
is_none (Some n) d h = let z : ◌≡◌ {A = ℕ} 0 1 = cc in absurd (zero_one z)

pub taken_none : (r : Replica) (c : Call) (places : ℕ) → is_taken (step r c places) ≡ true → NoneApply (grounds r c)
unfolding step refusal_of
taken_none r c places h = none_before (grounds r c) _ (none_apply (all_grounds r c places) (is_none (refusal_of r c places) (effect r c) h))

-- the numbers ascend
ascends : (r : Replica) (c : Call) (places : ℕ) → Ascends (all_grounds r c places)
unfolding grounds
ascends r (Heartbeat peer ballot conf commit exec snap) places = (omega arith, (omega arith, (omega arith, (omega arith, (omega arith, (omega arith, (tt, tt)))))))
ascends r (Guard peer number bar) places = (omega arith, (omega arith, (omega arith, (tt, tt))))
ascends r (Prepared ballot) places = (omega arith, (tt, tt))
ascends r (Record slot ballot reqs) places = (omega arith, (omega arith, (omega arith, (omega arith, (omega arith, (omega arith, (omega arith, (tt, tt))))))))
ascends r (Reply peer slot ballot) places = (omega arith, (omega arith, (omega arith, (tt, tt))))
ascends r (Notice peer slot ballot) places = (omega arith, (omega arith, (omega arith, (tt, tt))))
ascends r (CommitNotice peer ballot bar) places = (omega arith, (omega arith, (tt, tt)))
ascends r (Bars start accept commit exec) places = (omega arith, (omega arith, (tt, tt)))
ascends r (Read leases q) places = (omega arith, (omega arith, (tt, tt)))
ascends r (Release slot) places = (omega arith, (omega arith, (tt, tt)))

-- the number of a refusal is the lowest that applies
pub lowest_first : LowestFirst
unfolding refusal_of
lowest_first r c places n e = lowest (all_grounds r c places) n (ascends r c places) e

-- no ground has the number 0
pub positive : (r : Replica) (c : Call) → Positive (grounds r c)
unfolding grounds
positive r (Heartbeat peer ballot conf commit exec snap) = (omega arith, (omega arith, (omega arith, (omega arith, (omega arith, (omega arith, tt))))))
positive r (Guard peer number bar) = (omega arith, (omega arith, (omega arith, tt)))
positive r (Prepared ballot) = (omega arith, tt)
positive r (Record slot ballot reqs) = (omega arith, (omega arith, (omega arith, (omega arith, (omega arith, (omega arith, (omega arith, tt)))))))
positive r (Reply peer slot ballot) = (omega arith, (omega arith, (omega arith, tt)))
positive r (Notice peer slot ballot) = (omega arith, (omega arith, (omega arith, tt)))
positive r (CommitNotice peer ballot bar) = (omega arith, (omega arith, tt))
positive r (Bars start accept commit exec) = (omega arith, (omega arith, tt))
positive r (Read leases q) = (omega arith, (omega arith, tt))
positive r (Release slot) = (omega arith, (omega arith, tt))

both_positive : (gs hs : List Ground) → Positive gs → Positive hs → Positive (gs ++ hs)
both_positive [] hs p q = q
both_positive (g ∷ gs) hs p q = (p.0, both_positive gs hs p.1 q)

pub refused_not_0 : (r : Replica) (c : Call) (places n : ℕ) → refusal_of r c places ≡ Some n → 0 < n
unfolding refusal_of
refused_not_0 r c places n e = not_0 (all_grounds r c places) n (both_positive (grounds r c) _ (positive r c) (omega arith, tt)) e
