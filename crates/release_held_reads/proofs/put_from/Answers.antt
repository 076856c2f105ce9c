use Rattle.std.proofs.Common.{◌∙◌, refl}
use Rattle.ids.specs.Leader.{leader_of}
use Rattle.insts.specs.Slots.{place_of}
use Rattle.release_held_reads.proofs.Laws as law
use Rattle.release_held_reads.proofs.put_from.Goals as goal

pub returns-then-is_none : goal.returns-then-is_none
returns-then-is_none c =
    let a = c.args in
    rw (law.no_answers a.insts.words.now (place_of a.slot.0) c.load-cell.result c.load-cell.ensures a.group.quorum (leader_of a.group.leader) c.if-is_none.ensures) law.none_put

pub loop-read-init : goal.loop-read-init
loop-read-init c =
    let a = c.args in
    let all =
    law.answers_are a.insts.words.now (place_of a.slot.0) c.load-cell.result c.load-cell.ensures a.group.quorum (leader_of a.group.leader) c.is_bound-bound.result c.batch-batch.result.words.now c.reads.result.words.now
    c.is_bound-bound.ensures c.batch-batch.ensures c.reads.ensures c.if-is_none.ensures in
    record { same_reference = refl; left = rw (c.into_iter-read-iterator.ensures.into_iter_gives, c.iter-read-items.ensures) (law.left_start _ _ all) }

pub loop-read-preserved : goal.loop-read-preserved
loop-read-preserved c =
    let l = c.loop-read in
    record {
      same_reference = c.push.ensures.same_reference ∙ l.invariant.same_reference;
      left = law.left_next _ _ _ _ _ (rw (law.length_answers _ _ _) c.requires) (rw c.in-Some.ensures.steps at l.invariant.left) _ _ _ (rw c.answer_to.ensures at c.push.ensures.put) c.push.ensures.counted;
    }
