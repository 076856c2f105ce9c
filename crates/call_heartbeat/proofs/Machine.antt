-- A heartbeat of a whole replica: the roster, then the bars; how many items.
use Rattle.std.specs.Prelude.{if◌then◌else◌, Option, None, Some}
use mathlib.Core.Path.{◌≡◌, refl, sym, ap, ◌∙◌}
use mathlib.Core.Bool.{Bool, true, false}
use mathlib.Core.List.{List, [], ◌++◌, append-nil}
use Prim.Native.Nat.{ℕ, ◌+◌}
use lib.Dec.{ltb, eqb}
use lib.ListN.{length, length-append}
use Rattle.items.specs.Item.{Item}
use Rattle.roster_conf.specs.Conf.{Conf, leads}
use Rattle.bodega.specs.Replica.{Replica, Heartbeat, Done, done, ◌and_then◌}
use Rattle.bodega.specs.Conflease.{update_peer_accept_max, adopted, heard_new_conf}
use Rattle.bodega.specs.Heartbeat.{advance_commit_bar, installs, heard_conf, heard_snap_bar, heard_exec_bar, heard_bars, heard_heartbeat}
use Rattle.bodega.specs.Step.{effect}
use Rattle.heard_new_conf.proofs.Machine.{heard_following, heard_me, advance_leading}
use Rattle.call_heartbeat.specs.Heartbeat.{installed, conf_by, heard_by}

-- the roster that is installed is adopted
adopts : (r : Replica) (ballot : ℕ) (c : Conf) (b : Bool) → (if b then heard_new_conf r ballot c else done r []) ≡ conf_by (if b then Some c else None) ballot r
adopts r ballot c true = refl
adopts r ballot c false = refl

conf_is : (r : Replica) (peer ballot : ℕ) (conf : Option Conf) → heard_conf r peer ballot conf ≡ conf_by (installed r peer ballot conf) ballot r
unfolding heard_conf
conf_is r peer ballot None = refl
conf_is r peer ballot (Some c) = adopts r ballot c (installs r peer ballot c)

pub effect_is : (r : Replica) (peer ballot : ℕ) (conf : Option Conf) (commit exec snap : ℕ)
    → effect r (Heartbeat peer ballot conf commit exec snap)
    ≡ (if ltb ballot r.bal.max_seen then done r [] else heard_by (installed r peer ballot conf) peer ballot commit exec snap r)
unfolding effect heard_heartbeat heard_by
effect_is r peer ballot conf commit exec snap =
    ap (λ (d : Done). if ltb ballot r.bal.max_seen then done r [] else (d and_then heard_bars peer ballot commit exec snap)) (conf_is r peer ballot conf)

-- an adoption changes neither the population nor the own number
pub me_same : (o : Option Conf) (ballot : ℕ) (r : Replica) → (conf_by o ballot r).replica.me ≡ r.me
me_same (Some c) ballot r = heard_me r ballot c
me_same None ballot r = refl

module _ (peer ballot commit exec snap : ℕ) where
  bars_items : (x : Replica) → (heard_bars peer ballot commit exec snap x).items ≡ (if ltb exec x.bar.exec then [] else (advance_commit_bar x ballot commit).items)
  unfolding heard_bars
  bars_items x = go (ltb exec x.bar.exec)
    where
      d : Done
      d = advance_commit_bar x ballot commit

      go : (b : Bool) → (if b then done x [] else (d and_then λ s. done (if eqb peer x.me.id then s else heard_snap_bar snap (heard_exec_bar peer exec s)) [])).items ≡ (if b then [] else d.items)
      go true = refl
      go false = append-nil d.items

  module _ (r : Replica) where
    pub none_count : (heard_by None peer ballot commit exec snap r).items ≡ (heard_bars peer ballot commit exec snap r).items
    unfolding heard_by
    none_count = refl

    -- a step-up leaves nothing to the walk
    pub leading_count : (c : Conf) → leads c r.me.id ≡ true → (heard_by (Some c) peer ballot commit exec snap r).items ≡ (heard_new_conf r ballot c).items
    unfolding heard_by
    leading_count c e =
        ap (λ (l : List Item). (heard_new_conf r ballot c).items ++ l)
        (bars_items (heard_new_conf r ballot c).replica
        ∙ ap (λ (d : Done). if ltb exec (heard_new_conf r ballot c).replica.bar.exec then [] else d.items) (advance_leading r ballot c ballot commit e)
        ∙ go (ltb exec (heard_new_conf r ballot c).replica.bar.exec))
        ∙ append-nil (heard_new_conf r ballot c).items
      where
        go : (b : Bool) → ◌≡◌ {A = List Item} (if b then [] else []) []
        go true = refl
        go false = refl

    pub following_count : (c : Conf) → leads c r.me.id ≡ false → (heard_by (Some c) peer ballot commit exec snap r).items ≡ (heard_bars peer ballot commit exec snap r).items
    unfolding heard_by update_peer_accept_max advance_commit_bar
    following_count c e =
        ap (λ (d : Done). (d and_then heard_bars peer ballot commit exec snap).items) (heard_following r ballot c e)
        ∙ bars_items (adopted r ballot c) ∙ sym (bars_items r)

-- the items of the roster's part and of the bars'
pub both_count : (o : Option Conf) (peer ballot commit exec snap : ℕ) (r : Replica)
    → length (heard_by o peer ballot commit exec snap r).items
    ≡ length (conf_by o ballot r).items + length (heard_bars peer ballot commit exec snap (conf_by o ballot r).replica).items
unfolding heard_by
both_count o peer ballot commit exec snap r =
    length-append (conf_by o ballot r).items (heard_bars peer ballot commit exec snap (conf_by o ballot r).replica).items
