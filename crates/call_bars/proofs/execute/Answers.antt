use Rattle.std.proofs.Common.{arith, refl, ◌∙◌}
use Rattle.call_bars.proofs.Laws as law
use Rattle.call_bars.proofs.execute.Goals as goal

pub loop-k-init : goal.loop-k-init
loop-k-init c = record { same_reference = refl; executes = law.execute_start _ _ }

pub loop-k-preserved : goal.loop-k-preserved
loop-k-preserved c =
    let l = c.loop-k in record {
      same_reference = c.set_status.ensures.same_reference ∙ l.invariant.same_reference;
      executes = law.execute_step _ l.k (omega (arith, c.args.window.few)) l.invariant.executes (rw c.slot.ensures at c.set_status.ensures.puts);
    }
