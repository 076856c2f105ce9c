use Rattle.std.proofs.Common.{arith, refl, ◌∙◌}
use Rattle.insts.proofs.Laws as law
use Rattle.insts.proofs.InstsMut.pad.Goals as goal

pub loop-k-init : goal.loop-k-init
loop-k-init c = let a = c.args in (refl, law.pad_start a.window.start.0 a.window.held a.self.now.words.now, refl)

pub loop-k-preserved : goal.loop-k-preserved
loop-k-preserved c =
    let a = c.args in
    let p = rw c.slot.ensures at c.null_slot.ensures.puts in
    (p.size ∙ c.loop-k.invariant.0, law.pad_step a.window.start.0 a.window.held c.loop-k.k a.self.now.words.now c.loop-k.self.words.now _ (omega arith) (omega arith) p c.loop-k.invariant.1, c.null_slot.ensures.same_reference ∙ c.loop-k.invariant.2)

pub returns : goal.returns
returns c =
    let l = c.loop-k in
    let a = c.args in
    record {
      same_reference = l.invariant.2;
      pads = (law.pad_end a.window.start.0 a.window.held l.k a.to a.self.now.words.now l.self.words.now (omega arith) (omega arith) l.invariant.1, l.invariant.0);
    }
