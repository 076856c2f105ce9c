use Rattle.std.proofs.Common.{rules, ◌≡◌, ◌∙◌}
use Rattle.std.specs.Prelude.{fold}
use Rattle.test_node_sum.specs.Sum.{plus_number}
use Rattle.test_node_sum.proofs.Laws as law
use Rattle.test_node_sum.proofs.plus_all.Goals as goal

pub returns : goal.returns
returns c = let e : c.fold.result ≡ fold plus_number c.args.sum c.args.numbers.now = search rules in e ∙ law.folded c.args.sum c.args.numbers.now
