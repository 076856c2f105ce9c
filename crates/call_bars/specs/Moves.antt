-- Bridge: what the code of *bars* tests, from the bars as they are and the slots held, and what it does to the slots'
-- words; tied to `grounds` and `bars` by proofs/Laws.
use Rattle.std.specs.Prelude.{◌≡◌, Bool, ◌&&◌, ◌||◌, not, List, [], ℕ, ◌+◌, ◌-◌, ◌≤◌, ltb, leb, length, take}
use Rattle.layout.specs.Layout.{slot_places}
use Rattle.roster_conf.specs.Ground.{◌when◌or◌}
use Rattle.bodega.specs.Replica.{Instance, is_open}
use Rattle.bodega.specs.Events.{executed}
use Rattle.bodega.specs.Grounds.{any, far, holds}
use Rattle.insts.specs.Slots.{insts_of}
use Rattle.node.specs.View.{lowest}

-- 8
abbrev pub any_far : ℕ → ℕ → ℕ → ℕ → Bool
any_far start accept commit exec = far start || far accept || far commit || far exec

-- 11: the four tests of `grounds` on numbers and slots alone
abbrev pub lowered : ℕ → ℕ → ℕ → ℕ → ℕ → ℕ → Bool
lowered start₀ commit₀ exec₀ start commit exec = ltb start start₀ || ltb commit commit₀ || ltb exec exec₀

abbrev pub in_order : ℕ → ℕ → ℕ → ℕ → Bool
in_order start exec commit end = leb start exec && leb exec commit && leb commit end

abbrev pub open_below : ℕ → List Instance → ℕ → Bool
open_below start₀ insts commit = any (λ (i : Instance). is_open i.status) (take (commit - start₀) insts)

abbrev pub holds_below : ℕ → List Instance → ℕ → Bool
holds_below start₀ insts start = any holds (take (start - start₀) insts)

abbrev pub broken : ℕ → ℕ → ℕ → List Instance → ℕ → ℕ → ℕ → Bool
broken start₀ commit₀ exec₀ insts start commit exec =
    lowered start₀ commit₀ exec₀ start commit exec || not (in_order start exec commit (start₀ + length insts)) || open_below start₀ insts commit || holds_below start₀ insts start

abbrev pub bars_refusal : ℕ → ℕ → ℕ → List Instance → ℕ → ℕ → ℕ → ℕ → ℕ
bars_refusal start₀ commit₀ exec₀ insts start accept commit exec =
    lowest (8 when any_far start accept commit exec or 11 when broken start₀ commit₀ exec₀ insts start commit exec or [])

-- the first n of k slots executed, whatever k is
pub record Executes (start n : ℕ) (s t : List ℕ) : Type 0 where
  pub insts : (k : ℕ) → n ≤ k → k ≤ slot_places → insts_of start k t ≡ executed n (insts_of start k s)
  pub size : length t ≡ length s
