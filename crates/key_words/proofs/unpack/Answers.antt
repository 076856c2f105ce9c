use Rattle.std.proofs.Common.{rules}
use Rattle.key_words.proofs.Laws as law
use Rattle.key_words.proofs.unpack.Goals as goal

pub is_packed-requires : goal.is_packed-requires
is_packed-requires c = (search rules, law.stored_front c.args.k c.args.out.now _ c.requires c.put_words.ensures)

pub returns : goal.returns
returns c = law.unpacks _ _ _ c.requires c.put_words.ensures _ _ c.is_packed.ensures c.then_some.ensures
