-- The roster of a heartbeat, and the grounds that turn it away, at the node's view.
use Rattle.std.specs.Prelude.{if◌then◌else◌}
use mathlib.Core.Path.{◌≡◌, refl, ap, ◌∙◌}
use mathlib.Core.Bool.{Bool, true, false, not, ◌&&◌, ◌||◌}
use mathlib.Core.List.{List, []}
use Rattle.std.specs.Prelude.{Option, None, Some}
use Prim.Native.Nat.{ℕ, ◌+◌, ◌*◌, ◌≤◌}
use native.Mathlib.Omega.{arith}
use lib.Dec.{ltb, leb}
use lib.ListN.{length, take, drop}
use Rattle.layout.specs.Layout.{slots_at, slot_words}
use Rattle.words.specs.Choice.{if_none◌then◌else◌}
use Rattle.words.specs.Part.{part}
use Rattle.ids.specs.Leader.{leader_of}
use Rattle.roster_conf.specs.Conf.{Conf, leads, same}
use Rattle.roster_conf.specs.Edits.{view as roster_of}
use Rattle.roster_conf.specs.Ground.{◌when◌or◌}
use Rattle.roster_conf.specs.declared.RespondersConf.{RespondersConf}
use Rattle.bodega.specs.Replica as machine
use Rattle.bodega.specs.Conflease.{any_open}
use Rattle.bodega.specs.Heartbeat.{from_proposer, installs}
use Rattle.bodega.specs.Grounds.{any, far, unformed, foreign_leader, foreign_mask, appends, no_room, grounds}
use Rattle.insts.specs.Slots.{insts_of}
use Rattle.insts.proofs.Laws.{length_insts}
use Rattle.node.specs.declared.Node.{Node}
use Rattle.node.specs.View.{view, ready, lowest, leads_it}
use Rattle.become_a_leader.proofs.Open.{any_is}
use Rattle.heard_new_conf.specs.Does.{whole}
use Rattle.heard_new_conf.proofs.Laws.{readied, few_ranges, rows_long}
use Rattle.call_heartbeat.specs.Heartbeat.{lacks_roster, early, installed, appending}

-- ---- the roster

module _ (n : Node) (m : List ℕ) (y : ready n m ≡ true) (peer ballot : ℕ) (c : RespondersConf) (rows : List ℕ) (w : whole c.count rows ≡ true) where
  pub roster_room : (c.count * 5 ≤ length rows) × (n.bodega_conf.count * 5 ≤ length (take 320 (drop 192 m)))
  roster_room =
      let v = few_ranges c.count rows w in
      let r = readied n m y in
      (omega (arith, v.0, v.1), rw (rows_long m r.long) (omega (arith, r.ranges)))

  pub installs_is : installs (view n m) peer ballot (roster_of c rows)
      ≡ ltb n.bal_max_seen.0 ballot || (from_proposer peer ballot && not (same (roster_of c rows) (roster_of n.bodega_conf (take 320 (drop 192 m)))))
  unfolding installs view part
  installs_is = refl

-- ---- 15

pub open_is : (n : Node) (m : List ℕ) (t : Bool) → t ≡ any (λ (j : machine.Instance). machine.is_open j.status) (insts_of n.start_slot.0 n.slots (part m slots_at slot_words)) → t ≡ any_open (view n m).insts
unfolding view
open_is n m t e = e ∙ any_is (insts_of n.start_slot.0 n.slots (part m slots_at slot_words))

-- what the code tests
pub lacks_is : (n : Node) (m : List ℕ) (ballot : ℕ) (c : RespondersConf) (rows : List ℕ) → appending (view n m) ballot (Some (roster_of c rows)) && no_room (view n m)
    ≡ leb n.bal_max_seen.0 ballot && leads_it (leader_of c.leader) n.id.0 && not (any_open (view n m).insts) && (leb 32 n.slots || ltb 281474976710655 (n.start_slot.0 + n.slots))
unfolding view roster_of
lacks_is n m ballot c rows = rw (length_insts n.start_slot.0 n.slots (part m slots_at slot_words))

-- ---- all of them

appends_is : (r : machine.Replica) (peer ballot : ℕ) (conf : Option Conf) → appending r ballot (installed r peer ballot conf) ≡ appends r peer ballot conf
appends_is r peer ballot None = refl
appends_is r peer ballot (Some c) = go (leb r.bal.max_seen ballot) (installs r peer ballot c)
  where
    go : (a b : Bool) → (if_none (if b then Some c else None) then false else λ x. a && leads x r.me.id && not (any_open r.insts)) ≡ a && b && leads c r.me.id && not (any_open r.insts)
    go true true = refl
    go true false = refl
    go false true = refl
    go false false = refl

-- 2 to 12 alone, and with 15
some_first : (a b d f h g : Bool) (k : ℕ) → k ≡ lowest (2 when a or 3 when b or 4 when d or 8 when f or 12 when h or []) → (k ≡ 0 → ⊥)
    → k ≡ lowest (2 when a or 3 when b or 4 when d or 8 when f or 12 when h or 15 when g or [])
some_first true b d f h g k e z = e
some_first false true d f h g k e z = e
some_first false false true f h g k e z = e
some_first false false false true h g k e z = e
some_first false false false false true g k e z = e
some_first false false false false false g k e z = absurd (z e)

none_first : (a b d f h g : Bool) (k : ℕ) → k ≡ lowest (2 when a or 3 when b or 4 when d or 8 when f or 12 when h or []) → k ≡ 0
    → (if g then 15 else 0) ≡ lowest (2 when a or 3 when b or 4 when d or 8 when f or 12 when h or 15 when g or [])
none_first true b d f h g k e z = absurd (omega arith)
none_first false true d f h g k e z = absurd (omega arith)
none_first false false true f h g k e z = absurd (omega arith)
none_first false false false true h g k e z = absurd (omega arith)
none_first false false false false true g k e z = absurd (omega arith)
none_first false false false false false g k e z = refl

-- 2 to 12 are told by k
module _ (n : Node) (m : List ℕ) (peer ballot : ℕ) (conf : Option Conf) (commit exec snap k : ℕ)
    (v : k ≡ lowest (early n.population n.bal_max_seen.0 peer ballot conf commit exec snap)) where
  abbrev beat : machine.Call
  beat = machine.Heartbeat peer ballot conf commit exec snap

  abbrev lacks : Bool
  lacks = lacks_roster n.bal_max_seen.0 ballot conf

  abbrev all : Bool → ℕ
  all g =
      lowest
      (2 when unformed conf or 3 when leb n.population peer || foreign_leader n.population conf or 4 when foreign_mask n.population conf or 8 when far commit || far exec || far snap or
      12 when lacks or 15 when g or [])

  all_is : all (appends (view n m) peer ballot conf && no_room (view n m)) ≡ lowest (grounds (view n m) beat)
  unfolding grounds view
  all_is = refl

  pub before_15 : (k ≡ 0 → ⊥) → k ≡ lowest (grounds (view n m) beat)
  before_15 z =
      some_first (unformed conf) (leb n.population peer || foreign_leader n.population conf) (foreign_mask n.population conf) (far commit || far exec || far snap)
      lacks (appends (view n m) peer ballot conf && no_room (view n m)) k v z ∙ all_is

  -- and 15 by g
  pub number_15 : k ≡ 0 → (g : Bool) → g ≡ appending (view n m) ballot (installed (view n m) peer ballot conf) && no_room (view n m)
      → (if g then 15 else 0) ≡ lowest (grounds (view n m) beat)
  number_15 z g u =
      none_first (unformed conf) (leb n.population peer || foreign_leader n.population conf) (foreign_mask n.population conf) (far commit || far exec || far snap)
      lacks g k v z
      ∙ ap all (u ∙ ap (λ (b : Bool). b && no_room (view n m)) (appends_is (view n m) peer ballot conf)) ∙ all_is
