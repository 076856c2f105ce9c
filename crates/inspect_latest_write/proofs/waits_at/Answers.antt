use Rattle.inspect_latest_write.proofs.Laws as law
use Rattle.inspect_latest_write.proofs.waits_at.Goals as goal

pub returns-then-x : goal.returns-then-x
returns-then-x c = λ y s e. law.wait_held y s c.args.x e c.if-x.true

pub returns-else-x : goal.returns-else-x
returns-else-x c = λ y s e. law.wait_again y s c.args.x e c.if-x.false
