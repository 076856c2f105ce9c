-- Bridge: *release*, what the code tests; tied to `grounds` by proofs/Laws.
use Rattle.std.specs.Prelude.{◌||◌, [], ℕ, ◌+◌, ltb, leb}
use Rattle.ids.specs.Limits.{top}
use Rattle.roster_conf.specs.Ground.{◌when◌or◌}
use Rattle.node.specs.View.{lowest}

-- a slot is held from start on, so many of them
abbrev pub release_refusal : ℕ → ℕ → ℕ → ℕ
release_refusal start slots slot = lowest (8 when ltb top slot or 16 when ltb slot start || leb (start + slots) slot or [])
