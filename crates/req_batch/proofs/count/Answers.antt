use Rattle.std.proofs.Common.{sym}
use Rattle.req_batch.proofs.Laws as law
use Rattle.req_batch.proofs.count.Goals as goal

pub returns : goal.returns
returns c text = sym (law.how_many _ text)
