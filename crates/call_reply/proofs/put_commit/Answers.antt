use Rattle.std.proofs.Common.{refl}
use Rattle.call_reply.proofs.Acks as law
use Rattle.call_reply.proofs.put_commit.Goals as goal

pub returns-in-Commits-clause-put : goal.returns-in-Commits-clause-put
returns-in-Commits-clause-put c =
    law.one_commit c.args.items.now.area.now c.args.items.now.count c.args.slot.0 c.args.ack _ c.in-Commits.is c.requires _ _ c.push.ensures.put

pub returns-in_default : goal.returns-in_default
returns-in_default c = record {
  same_reference = refl;
  put = law.no_commit c.args.items.now.area.now c.args.items.now.count c.args.slot.0 c.args.ack c.in_default.not-Commits;
}
