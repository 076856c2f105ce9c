-- Bridge: *guard*, what the code tests; tied to `grounds` by proofs/Laws.
use Rattle.std.specs.Prelude.{[], ℕ, ltb, leb, eqb}
use Rattle.ids.specs.Limits.{top}
use Rattle.roster_conf.specs.Ground.{◌when◌or◌}
use Rattle.node.specs.View.{lowest}

abbrev pub guard_refusal : ℕ → ℕ → ℕ → ℕ → ℕ
guard_refusal population id peer bar = lowest (3 when leb population peer or 8 when ltb top bar or 10 when eqb peer id or [])
