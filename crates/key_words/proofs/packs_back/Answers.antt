use Rattle.key_words.proofs.Laws as law
use Rattle.key_words.proofs.packs_back.Goals as goal

pub returns-then-k : goal.returns-then-k
returns-then-k c =
    law.packed_again c.args.k c.args.out.now _ _ c.if-k.true c.requires.1 c.key_of.ensures (law.same_eq _ _ _ c.eq.ensures)

pub returns-else-k : goal.returns-else-k
returns-else-k c = law.packed_long c.args.k c.if-k.false
