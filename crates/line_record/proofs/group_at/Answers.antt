use Rattle.line_record.proofs.Laws as law
use Rattle.line_record.proofs.group_at.Goals as goal

pub returns-in_err-client : goal.returns-in_err-client
returns-in_err-client c = rw c.from_residual.ensures (law.other_client c.args.reader.now c.in_err-client.ensures.0)

pub returns-in_err-request : goal.returns-in_err-request
returns-in_err-request c =
    rw c.from_residual-in_err-request.ensures (law.other_request c.args.reader.now _ _ c.in_ok-client.ensures c.in_err-request.ensures.0)

pub returns-in_err-value : goal.returns-in_err-value
returns-in_err-value c =
    rw c.from_residual-in_err-value.ensures (law.other_value c.args.reader.now _ _ c.in_ok-client.ensures _ _ c.in_ok-request.ensures _ _ c.next_field-key.ensures c.in_err-value.ensures.0)

pub returns : goal.returns
returns c = law.whole_group c.args.reader.now _ _ c.in_ok-client.ensures _ _ c.in_ok-request.ensures _ _ c.next_field-key.ensures _ _ c.in_ok-value.ensures
