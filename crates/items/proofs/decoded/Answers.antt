use Rattle.items.proofs.Laws as law
use Rattle.items.proofs.decoded.Goals as goal

pub returns : goal.returns
returns c = law.decoded_is _ _ _ _ _ c.item_named-item.ensures c.words_of.ensures c.eq.ensures c.then_some.ensures
