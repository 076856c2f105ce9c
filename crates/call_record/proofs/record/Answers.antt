use Rattle.std.proofs.Common.{refl, sym, ap, ◌∙◌}
use Rattle.inst_reqs.specs.Batch.{requests_of}
use Rattle.bodega.specs.Replica.{Record}
use Rattle.req_batch.specs.Given.{given}
use Rattle.node.proofs.Calls.{not_ready}
use Rattle.call_record.proofs.Laws as law
use Rattle.call_record.proofs.record.Goals as goal

pub returns-then-not-is_ready : goal.returns-then-not-is_ready
returns-then-not-is_ready c =
    let a = c.args in
    not_ready (Record a.slot.0 a.ballot.0 (given a.rows.now a.text.now)) a.node a.mem.now a.area.now _ c.if-not-is_ready.ensures refl

pub returns-in_err-batch_refusal : goal.returns-in_err-batch_refusal
returns-in_err-batch_refusal c =
    let a = c.args in
    law.early_refused a.node a.mem.now a.area.now a.slot.0 a.ballot.0 a.rows.now a.text.now (sym c.if-not-is_ready.ensures) _ _ c.in_err-batch_refusal.ensures c.from_residual.ensures.1

pub load-requires-clause-few : goal.load-requires-clause-few
load-requires-clause-few c =
    let a = c.args in
    law.few_requests a.node a.mem.now a.area.now a.slot.0 a.ballot.0 a.rows.now a.text.now (sym c.if-not-is_ready.ensures) c.in_ok-batch_refusal.ensures

pub load-requires-clause-short : goal.load-requires-clause-short
load-requires-clause-short c =
    let a = c.args in
    law.short_keys a.node a.mem.now a.area.now a.slot.0 a.ballot.0 a.rows.now a.text.now (sym c.if-not-is_ready.ensures) c.in_ok-batch_refusal.ensures

pub returns-in_err-late_refusal : goal.returns-in_err-late_refusal
returns-in_err-late_refusal c =
    let a = c.args in
    law.late_refused a.node a.mem.now a.area.now a.slot.0 a.ballot.0 a.rows.now a.text.now (sym c.if-not-is_ready.ensures) c.in_ok-batch_refusal.ensures _ (ap requests_of c.as_ref-batch.ensures ∙ c.load.ensures.loads.requests) _ _ c.in_err-late_refusal.ensures c.from_residual-in_err-late_refusal.ensures.1

pub returns : goal.returns
returns c =
    let a = c.args in
    law.is_recorded a.node a.mem.now a.area.now a.slot.0 a.ballot.0 a.rows.now a.text.now (sym c.if-not-is_ready.ensures) c.in_ok-batch_refusal.ensures _ (ap requests_of c.as_ref-batch.ensures ∙ c.load.ensures.loads.requests) c.in_ok-late_refusal.ensures _ _ c.recorded-node.ensures
