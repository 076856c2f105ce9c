use Rattle.std.proofs.Common.{arith}
use Rattle.stream_events.proofs.Laws.{fresh_lent}
use Rattle.test_scripts.proofs.run.Goals as goal

pub hear-q-requires : goal.hear-q-requires
hear-q-requires c = (
  omega arith,
  omega arith,
  fresh_lent _ _ _ _ _ c.fresh.ensures.1 (omega arith) (omega arith) (omega arith) (omega arith),
  omega arith,
)
