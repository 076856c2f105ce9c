use Rattle.std.proofs.Common.{refl, ◌∙◌, arith}
use Rattle.ids.specs.Leader.{leader_of}
use Rattle.release_held_reads.specs.Release.{emptied}
use Rattle.advance_commit_bar.proofs.Pass as pass
use Rattle.become_a_leader.proofs.Laws as law
use Rattle.become_a_leader.proofs.Lists.{never, answers_at}
use Rattle.become_a_leader.proofs.release_all.Goals as goal

pub loop-k-init : goal.loop-k-init
loop-k-init c =
    let a = c.args in
    record { same_words = refl; same_area = refl; going = pass.going_start never emptied (answers_at a.group.quorum (leader_of a.group.leader)) _ _ a.numbers.end a.numbers.start a.items.now.count a.insts.now.words.now a.items.now.area.now }

pub slot-requires : goal.slot-requires
slot-requires c = let f = c.args.window.few in omega arith

pub release-requires : goal.release-requires
release-requires c =
    let l = c.loop-k in
    rw c.slot.ensures (law.release_fits _ _ _ _ _ _ _ _ _ l.k l.items.count l.insts.words.now l.items.area.now l.invariant.going (omega arith) (omega arith) (omega arith) c.requires.2)

pub loop-k-preserved : goal.loop-k-preserved
loop-k-preserved c =
    let l = c.loop-k in
    record {
      same_words = c.release.ensures.same_words ∙ l.invariant.same_words;
      same_area = c.release.ensures.same_area ∙ l.invariant.same_area;
      going = law.release_step _ _ _ _ _ _ _ _ _ l.k l.items.count l.insts.words.now l.items.area.now l.invariant.going (omega arith) (omega arith) c.args.window.few _ _ _ (rw c.slot.ensures at c.release.ensures.releases);
    }

pub returns-clause-passes : goal.returns-clause-passes
returns-clause-passes c =
    let a = c.args in
    let l = c.loop-k in
    law.passes _ never emptied (answers_at a.group.quorum (leader_of a.group.leader)) _ _ a.numbers.end a.numbers.start _ _ _ (omega arith) (law.held_left_lem a.window.start.0 a.window.held a.numbers.end a.group.quorum (leader_of a.group.leader) a.numbers.start a.insts.now.words.now (omega arith))
    (pass.going_end never emptied (answers_at a.group.quorum (leader_of a.group.leader)) _ _ a.numbers.end a.numbers.start a.items.now.count a.insts.now.words.now a.items.now.area.now l.k l.items.count l.insts.words.now l.items.area.now l.invariant.going (omega arith) (omega arith))
