use Rattle.std.proofs.Common.{arith}
use Rattle.text.proofs.Laws as law
use Rattle.text.proofs.TextMut.+put_u64.Goals as goal

pub returns-then-n-lt10 : goal.returns-then-n-lt10
returns-then-n-lt10 t c = law.few_put c.args.n c.if-n-lt10.true c.put_byte.ensures

pub returns-then-n-lt100 : goal.returns-then-n-lt100
returns-then-n-lt100 t c = law.pair_put c.args.n c.if-n-lt10.false c.if-n-lt100.true c.put_pair.ensures

pub put_pair-requires-2 : goal.put_pair-requires-2
put_pair-requires-2 t c = (law.tail_room c.args.n c.if-n-lt100.false c.ranges.n.fits c.put_u64.ensures c.requires, omega arith)

pub returns : goal.returns
returns t c = law.more_put c.args.n c.if-n-lt100.false c.ranges.n.fits c.put_u64.ensures c.put_pair-2.ensures
