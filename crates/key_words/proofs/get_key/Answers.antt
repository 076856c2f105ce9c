use Rattle.std.proofs.Common.{add_assoc}
use Rattle.key_words.specs.Key.{key_at}
use Rattle.key_words.proofs.get_key.Goals as goal

pub returns : goal.returns
unfolding key_at
returns c = simp add_assoc
