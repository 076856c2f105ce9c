use Rattle.std.proofs.Common.{rules, arith, ◌∙◌}
use Rattle.words.proofs.Laws.{mid_writes}
use Rattle.key_words.specs.Key.{le_bytes}
use Rattle.key_words.proofs.Laws as law
use Rattle.key_words.proofs.put_word.Goals as goal

pub returns : goal.returns
returns c = mid_writes c.args.out.now c.args.at _ _ (le_bytes 8 c.args.v) c.requires (omega arith) (search rules ∙ law.low_first c.args.v)
