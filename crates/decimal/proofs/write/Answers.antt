use Rattle.std.proofs.Common.{arith}
use Rattle.decimal.proofs.Laws as law
use Rattle.decimal.proofs.write.Goals as goal

pub returns : goal.returns
returns c = law.put_there _ _ _ _ _ (omega (arith, c.in_ok-room.ensures.0, c.in_ok-room.ensures.1)) c.put.ensures.0 c.put.ensures.1
