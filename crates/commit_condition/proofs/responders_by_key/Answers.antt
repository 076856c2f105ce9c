use Rattle.commit_condition.proofs.Laws as law
use Rattle.commit_condition.proofs.responders_by_key.Goals as goal

pub returns-in_err-n : goal.returns-in_err-n
returns-in_err-n c = rw c.from_residual.ensures (law.no_bytes _ _ c.args.key c.unpack.new.out c.in_err-n.ensures.told)

pub returns : goal.returns
returns c =
    law.looked_up c.args.conf c.args.rows.now c.args.key c.unpack.new.out c.in_ok-n.n c.in_ok-n.ensures.told c.requires.0 c.requires.1 _ (rw c.get_responders_by_key.ensures at c.unwrap_or.ensures)
