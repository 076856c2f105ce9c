-- `heard_new_conf` of a whole replica: what it leaves as it was, how many items it has, and that the commit walk finds
-- nothing after a step-up.
use Rattle.std.specs.Prelude.{if◌then◌else◌}
use mathlib.Core.Path.{◌≡◌, refl, ap, ◌∙◌}
use mathlib.Core.Bool.{Bool, true, false}
use mathlib.Core.List.{[]}
use Prim.Native.Nat.{ℕ, ◌-◌}
use lib.ListN.{length, take-append-drop}
use Rattle.roster_conf.specs.Conf.{Conf, leads}
use Rattle.bodega.specs.Replica.{Replica, Done, done}
use Rattle.bodega.specs.Conflease.{update_peer_accept_max, become_a_leader, adopted, heard_new_conf}
use Rattle.bodega.specs.Heartbeat.{advance_commit_bar}
use Rattle.become_a_leader.specs.StepUp.{step_up}
use Rattle.become_a_leader.proofs.Machine.{step_up_is, walk_still}

pub still : (x : Replica) (ballot bar : ℕ) → advance_commit_bar (become_a_leader x).replica ballot bar ≡ done (become_a_leader x).replica []
unfolding advance_commit_bar
still x ballot bar =
    let k = x.bar.commit - x.bar.start in
    rw (
      step_up_is x,
      walk_still ballot x.bar.commit (bar - x.bar.commit) k x.bar.start x.me.quorum x.conf.leader x.bal.max_seen x.insts,
      take-append-drop k (step_up x.bar.start x.me.quorum x.conf.leader x.bal.max_seen x.insts).insts,
    )

module _ (x : Replica) (bal : ℕ) (c : Conf) where
  abbrev heard : Bool → Done
  heard b = if b then become_a_leader (adopted x bal c) else done (adopted x bal c) []

  heard_is : heard_new_conf x bal c ≡ heard (leads c x.me.id)
  unfolding heard_new_conf update_peer_accept_max
  heard_is = refl

  pub heard_following : leads c x.me.id ≡ false → heard_new_conf x bal c ≡ done (adopted x bal c) []
  heard_following e = heard_is ∙ ap heard e

  pub heard_leading : leads c x.me.id ≡ true → heard_new_conf x bal c ≡ become_a_leader (adopted x bal c)
  heard_leading e = heard_is ∙ ap heard e

  -- what is the same whether it steps up or not
  either : {A : Type 0} (f : Done → A) (a : A) → f (heard true) ≡ a → f (heard false) ≡ a → f (heard_new_conf x bal c) ≡ a
  either {A = A} f a h g = ap f heard_is ∙ go (leads c x.me.id)
    where
      go : (b : Bool) → f (heard b) ≡ a
      go true = h
      go false = g

  pub heard_me : (heard_new_conf x bal c).replica.me ≡ x.me
  unfolding update_peer_accept_max
  heard_me = either (λ d. d.replica.me) x.me (rw (step_up_is (adopted x bal c))) refl

  pub heard_count : length (heard_new_conf x bal c).items ≡ (if leads c x.me.id then length (step_up x.bar.start x.me.quorum c.leader bal x.insts).items else 0)
  unfolding update_peer_accept_max
  heard_count = ap (λ (d : Done). length d.items) heard_is ∙ go (leads c x.me.id)
    where
      go : (b : Bool) → length (heard b).items ≡ (if b then length (step_up x.bar.start x.me.quorum c.leader bal x.insts).items else 0)
      go true = rw (step_up_is (adopted x bal c))
      go false = refl

  module _ (ballot bar : ℕ) where
    pub advance_leading : leads c x.me.id ≡ true → advance_commit_bar (heard_new_conf x bal c).replica ballot bar ≡ done (heard_new_conf x bal c).replica []
    advance_leading e = rw (heard_leading e) (still (adopted x bal c) ballot bar)
