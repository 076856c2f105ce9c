-- Bridge: *notice*, what the code tests, and a leader that steps down; tied to `grounds` and `check_ballot` by
-- proofs/Laws.
use Rattle.std.specs.Prelude.{◌≡◌, Bool, false, ◌&&◌, List, [], ◌∷◌, ℕ, ◌+◌, ◌≤◌, ◌<◌, ltb, leb, length, if◌then◌else◌, Result, Ok, Err}
use Rattle.words.specs.Writes.{writes}
use Rattle.ids.specs.Limits.{window, top}
use Rattle.ids.specs.declared.Refusal.{Refusal}
use Rattle.ids.specs.declared.Refusal.TheVariants.{AreaTooSmall}
use Rattle.items.specs.Item.{Item, Lead, encode, places}
use Rattle.roster_conf.specs.Ground.{◌when◌or◌}
use Rattle.node.specs.View.{lowest}

-- 15 for a notice of the ballot of a replica that does not lead
abbrev pub notice_refusal : ℕ → Bool → ℕ → ℕ → ℕ → ℕ
notice_refusal population current start peer slot =
    lowest (3 when leb population peer or 8 when ltb top slot or 15 when current && leb (start + window) slot or [])

-- `check_ballot`: the items, and what putting them leaves
abbrev pub step_down : Bool → List Item
step_down led = if led then Lead false ∷ [] else []

abbrev pub StepsDown : Bool → List ℕ → Result ℕ Refusal → List ℕ → Type 0
StepsDown led area (Ok k) area' = (k ≡ length (step_down led)) × (k ≤ places area) × (area' ≡ writes area 0 (encode (step_down led)))
StepsDown led area (Err x) area' = (x ≡ AreaTooSmall) × (places area < length (step_down led)) × (area' ≡ area)
