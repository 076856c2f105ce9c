use Rattle.std.proofs.Common.{◌∙◌, ap, arith, length, length-set}
use Rattle.req_batch.proofs.Laws as law
use Rattle.req_batch.proofs.load.Goals as goal

pub loop-i-init : goal.loop-i-init
loop-i-init c =
    record {
      few = omega (arith, law.how_many c.args.rows.now c.args.text.now);
      same = c.clear.ensures.same_reference;
      long = ap length c.clear.ensures.first ∙ length-set _ 0 0;
      loaded = law.loaded_start _ _ _ c.clear.ensures.empty;
    }

pub request_at-requires : goal.request_at-requires
request_at-requires c =
    record { in_rows = omega arith; short = law.short_at_lem _ _ c.loop-i.i c.requires.short (omega arith) }

pub loop-i-preserved : goal.loop-i-preserved
loop-i-preserved c =
    let l = c.loop-i in
    record {
      few = omega arith;
      same = c.push.ensures.same_reference ∙ l.invariant.same;
      long = c.push.ensures.long ∙ l.invariant.long;
      loaded = law.loaded_next _ _ _ _ _ l.i _ _ l.invariant.loaded (omega arith) c.request_at.ensures c.push.ensures.pushes;
    }

pub returns-clause-loads : goal.returns-clause-loads
returns-clause-loads c =
    let l = c.loop-i in
    law.loaded_end _ _ _ _ _ l.i c.clear.ensures.first l.invariant.loaded (omega arith) (omega arith)
