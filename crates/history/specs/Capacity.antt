-- Trusted: document 01, "What a node holds, and how much", and refusal 20: what no list of calls exceeds.
use Rattle.std.specs.Prelude.{ℕ, ◌≤◌, List, ◌≡◌, length}
use Rattle.std.specs.Prelude.{Option}
use Rattle.words.specs.Choice.{if_none◌then◌else◌}
use Rattle.roster_conf.specs.Ground.{refusal}
use Rattle.roster_conf.specs.EditList.{Good}
use Rattle.ids.specs.Limits.{hold, keys, batch, items}
use Rattle.bodega.specs.Replica.{Book, Instance, Replica, fresh, Call}
use Rattle.bodega.specs.Grounds.{grounds}
use Rattle.bodega.specs.Step.{Event, effect, refusal_of, run}
use Rattle.history.specs.Invariant.{EachSlot}

-- ---- "8 requests a batch, 16 held reads a slot, 256 written keys"

abbrev pub held_reads : Option Book → ℕ
held_reads o = if_none o then 0 else λ b. length b.holding

pub record SlotSmall (i : Instance) : Type 0 where
  pub reads : held_reads i.replica_bk ≤ hold
  pub requests : length i.reqs ≤ batch

-- of each slot held
abbrev pub Each : (Instance → Type 0) → Replica → Type 0
Each P r = EachSlot (λ slot. P) r.bar.start r.insts

abbrev pub Small : Replica → Type 0
Small r = Each SlotSmall r × (length r.highest_slot ≤ keys)

-- Every replica that calls reach is within these limits.
abbrev pub Capacity : Type 0
Capacity = (id population quorum : ℕ) (es : List Event) → Small (run (fresh id population quorum) es)

-- ---- "at most 64 stored ranges"

-- Every roster that calls reach is one that edits make: ascending, disjoint and joined, at most 64 ranges.
abbrev pub RosterStaysGood : Type 0
RosterStaysGood = (id population quorum : ℕ) (es : List Event) → Good (run (fresh id population quorum) es).conf

-- ---- "fewer places than the call has items (at most 546)"

-- No call at a replica that calls reach has more items, whether it is taken or not.
abbrev pub Bounded : Type 0
Bounded = (id population quorum : ℕ) (es : List Event) (c : Call) → length (effect (run (fresh id population quorum) es) c).items ≤ items

-- With so many places refusal 20 is never met.
abbrev pub PlacesSuffice : Type 0
PlacesSuffice = (id population quorum : ℕ) (es : List Event) (c : Call) (places : ℕ) → items ≤ places
    → refusal_of (run (fresh id population quorum) es) c places ≡ refusal (grounds (run (fresh id population quorum) es) c)
