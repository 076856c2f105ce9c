use Rattle.key_words.specs.Key.{pack_of}
use Rattle.key_words.proofs.key_of.Goals as goal

pub returns : goal.returns
unfolding pack_of
returns c = cc
