use Rattle.std.proofs.Common.{rules}
use Rattle.peer_exec_bar.proofs.Laws as law
use Rattle.peer_exec_bar.proofs.heard_exec.Goals as goal

pub returns-then-exec-execs : goal.returns-then-exec-execs
returns-then-exec-execs c = search (rules, law.not_larger)

pub returns-then-passed : goal.returns-then-passed
returns-then-passed c = search (rules, law.all_have)

pub returns-else-passed : goal.returns-else-passed
returns-else-passed c = search (rules, law.not_all)
