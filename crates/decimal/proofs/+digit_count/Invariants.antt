use Rattle.inty.specs.Value.{value_of}
use Rattle.decimal.proofs.+digit_count.Given as goal

abbrev pub decreases-digit_count : goal.decreases-digit_count
decreases-digit_count l = value_of l.x
