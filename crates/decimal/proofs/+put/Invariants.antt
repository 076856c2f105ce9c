use Rattle.inty.specs.Value.{value_of}
use Rattle.decimal.proofs.+put.Given as goal

abbrev pub decreases-put : goal.decreases-put
decreases-put l = value_of l.x
