use Rattle.std.proofs.Common.{rules}
use Rattle.line_host.proofs.Laws as law
use Rattle.line_host.proofs.no_node.Goals as goal

pub returns : goal.returns
returns c = λ mem. law.unready _ mem (search rules)
