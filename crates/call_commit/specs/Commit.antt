-- Bridge: *commit*, what the code tests; tied to `grounds` by proofs/Laws.
use Rattle.std.specs.Prelude.{[], ℕ, leb}
use Rattle.roster_conf.specs.Ground.{◌when◌or◌}
use Rattle.bodega.specs.Grounds.{far}
use Rattle.node.specs.View.{lowest}

abbrev pub commit_refusal : ℕ → ℕ → ℕ → ℕ
commit_refusal population peer bar = lowest (3 when leb population peer or 8 when far bar or [])
