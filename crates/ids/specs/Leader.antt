-- Trusted: a leader, where there is one, by number.
use Rattle.std.specs.Prelude.{ℕ, Option, option_map}
use Rattle.ids.specs.declared.Replica.{Replica}

abbrev pub leader_of : Option Replica → Option ℕ
leader_of o = option_map (λ r. r.0) o
