use Rattle.std.proofs.Common.{rules, arith}
use Rattle.words.proofs.Laws.{mid_writes}
use Rattle.key_words.specs.Key.{words_of}
use Rattle.key_words.proofs.put_key.Goals as goal

pub returns : goal.returns
returns c = mid_writes _ _ _ _ (words_of c.args.k) c.requires (omega arith) (search rules)
