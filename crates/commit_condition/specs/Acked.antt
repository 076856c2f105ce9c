-- Bridge: what a written key asks of the acks; tied to `commit_condition` by proofs/Laws.
use Rattle.std.specs.Prelude.{ℕ, Bool, List}
use Rattle.roster_conf.specs.Conf.{Conf}
use Rattle.bodega.specs.Replica.{Put}
use Rattle.bodega.specs.Localread.{acked}

-- `acked` of any Put of the key: who asked for it and what it puts do not matter
abbrev pub write_acked : Conf → ℕ → List ℕ → Bool
write_acked c acks key = acked c acks (record { client = 0; request = 0; key = key; command = Put 0 })
