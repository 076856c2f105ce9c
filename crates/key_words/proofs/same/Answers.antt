use Rattle.std.proofs.Common.{sym, ◌∙◌}
use Rattle.key_words.proofs.Laws as law
use Rattle.key_words.proofs.same.Goals as goal

pub returns : goal.returns
returns c = law.same_eq c.args.a c.args.b _ c.eq.ensures ∙ sym (law.same_is _ _)
