use Rattle.std.proofs.Common.{rules}
use Rattle.key_words.proofs.Laws as law
use Rattle.key_words.proofs.is_short.Goals as goal

pub returns-then-k-lt8 : goal.returns-then-k-lt8
returns-then-k-lt8 c = law.short_shifted c.args.k _ c.eq.ensures c.if-eq.true c.if-k-lt8.true

pub returns-else-k-lt8 : goal.returns-else-k-lt8
returns-else-k-lt8 c = law.short_eight c.args.k _ c.eq.ensures c.if-eq.true (search rules)
