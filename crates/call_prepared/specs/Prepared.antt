-- Bridge: *prepared*, what the code tests; tied to `grounds` by proofs/Laws.
use Rattle.std.specs.Prelude.{Bool, ◌&&◌, not, ℕ, eqb}
use Rattle.std.specs.Prelude.{Option}
use Rattle.node.specs.View.{leads_it}

-- ground 13 does not apply
abbrev pub may_prepare : Option ℕ → ℕ → ℕ → ℕ → Bool
may_prepare leader id sent ballot = leads_it leader id && (not (eqb ballot 0) && eqb ballot sent)
