use Rattle.std.proofs.Common.{refl, ◌∙◌, arith}
use Rattle.bodega.specs.Conflease.{reprepared}
use Rattle.advance_commit_bar.proofs.Pass as pass
use Rattle.become_a_leader.specs.StepUp.{prelog_of}
use Rattle.become_a_leader.proofs.Laws as law
use Rattle.become_a_leader.proofs.Lists.{never}
use Rattle.become_a_leader.proofs.prelog_all.Goals as goal

pub loop-k-init : goal.loop-k-init
loop-k-init c =
    let a = c.args in
    record { same_words = refl; same_area = refl; going = pass.going_start never (reprepared a.ballot.0) prelog_of _ _ a.window.held 0 a.items.now.count a.insts.now.words.now a.items.now.area.now }

pub prelog-requires : goal.prelog-requires
prelog-requires c =
    let l = c.loop-k in
    rw c.slot.ensures (law.prelog_fits _ _ _ _ _ _ l.k l.items.count l.insts.words.now l.items.area.now l.invariant.going (omega arith) c.requires)

pub loop-k-preserved : goal.loop-k-preserved
loop-k-preserved c =
    let l = c.loop-k in
    record {
      same_words = c.prelog.ensures.same_words ∙ l.invariant.same_words;
      same_area = c.prelog.ensures.same_area ∙ l.invariant.same_area;
      going = law.prelog_step _ _ _ _ _ _ l.k l.items.count l.insts.words.now l.items.area.now l.invariant.going (omega arith) c.args.window.few _ _ _ (rw c.slot.ensures at c.prelog.ensures.prelogs);
    }

pub returns-clause-passes : goal.returns-clause-passes
returns-clause-passes c =
    let a = c.args in
    let l = c.loop-k in
    law.passes _ never (reprepared a.ballot.0) prelog_of _ _ a.window.held 0 _ _ _ (omega arith) (law.prelog_left_lem a.window.start.0 a.window.held a.ballot.0 a.insts.now.words.now)
    (pass.going_end never (reprepared a.ballot.0) prelog_of _ _ a.window.held 0 a.items.now.count a.insts.now.words.now a.items.now.area.now l.k l.items.count l.insts.words.now l.items.area.now l.invariant.going (omega arith) (omega arith))
