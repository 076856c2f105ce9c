-- *guard*: its grounds, the pair it alters and the reading bar worked out anew.
use Rattle.std.specs.Prelude.{Result, Ok, IsErrAnd}
use mathlib.Core.Path.{◌≡◌, refl, sym, ap, ◌∙◌}
use mathlib.Core.Bool.{true}
use mathlib.Core.List.{List}
use Prim.Native.Nat.{ℕ, ◌≤◌, ◌<◌}
use native.Mathlib.Omega.{arith}
use lib.ListN.{length, take}
use borrow.Author.Tests.{leb-false}
use Rattle.words.specs.Part.{part, splice, length_part}
use Rattle.ids.specs.Limits.{replicas}
use Rattle.ids.specs.Refusal.{number_of}
use Rattle.ids.specs.declared.Refusal.{Refusal}
use Rattle.layout.specs.Layout.{pair_words}
use Rattle.bodega.specs.Replica.{Replica, PeerAccept, Guard, with_peer_accept}
use Rattle.bodega.specs.Conflease.{guard_accept_bar}
use Rattle.bodega.specs.Grounds.{grounds}
use Rattle.bodega.specs.Step.{effect}
use Rattle.bodega.specs.Answers.{Answers}
use Rattle.peer_accept_bar.specs.Pairs.{peer_accept, guarded}
use Rattle.peer_accept_bar.proofs.Laws.{guards}
use Rattle.node.specs.declared.Node.{Node}
use Rattle.node.specs.declared.Taken.{Taken}
use Rattle.node.specs.View.{view, ready, given_of}
use Rattle.node.proofs.Calls.{Ready, is_ready, refused_by, taken_by, none_applies}
use Rattle.node.proofs.Frames.{pairs_back, pairs_size, pairs_beyond, pairs_ready}
use Rattle.call_guard.specs.Guard.{guard_refusal}

module _ (n : Node) (m : List ℕ) (y : ready n m ≡ true) (peer num bar : ℕ) where
  r : Ready n m
  r = is_ready n m true (sym y) refl

  pub long : pair_words ≤ length m
  long = omega (arith, r.long)

  module _ (area : List ℕ) where
    pub guard_refused : (x : Refusal) (z : Result Taken Refusal) → number_of x ≡ guard_refusal n.population n.id.0 peer bar → IsErrAnd z (λ u. u ≡ x)
        → Answers ready view (Guard peer num bar) n m area (given_of n z) m area
    unfolding grounds view
    guard_refused = refused_by (Guard peer num bar) n m area true (sym y) refl

  module _ (g : 0 ≡ guard_refusal n.population n.id.0 peer bar) where
    below : peer < n.population
    unfolding grounds view
    below = leb-false n.population peer (none_applies (Guard peer num bar) n m g).0

    pairs_long : length (take pair_words m) ≡ pair_words
    unfolding part
    pairs_long = length_part m 0 pair_words (omega (arith, r.long))

    pub asked : (0 < n.quorum) × (n.quorum ≤ n.population) × (n.population ≤ replicas) × (peer < n.population) × (pair_words ≤ length (take pair_words m))
    asked = (r.quorate, r.enough, r.few, below, omega (arith, pairs_long))

    pub guard_taken : (area p : List ℕ) (max : ℕ) (d : Node)
        → peer_accept n.population p max ≡ guarded n.quorum n.bal_max_seen.0 peer num bar (peer_accept n.population (take pair_words m) n.peer_accept_max.0)
        → length p ≡ length (take pair_words m)
        → view d (splice m 0 pair_words p) ≡ with_peer_accept (record { bar = (view n (splice m 0 pair_words p)).peer_accept.bar; max = max }) (view n (splice m 0 pair_words p))
        → ready d (splice m 0 pair_words p) ≡ ready n (splice m 0 pair_words p)
        → Answers ready view (Guard peer num bar) n m area (given_of n (Ok (record { node = d; count = 0 }))) (splice m 0 pair_words p) area
    unfolding effect grounds view part
    guard_taken area p max d x l v z =
        let size = l ∙ pairs_long in
        taken_by (Guard peer num bar) n m g area true (sym y) refl (guard_accept_bar (view n m) peer num bar) d (splice m 0 pair_words p) refl
        (v ∙ ap (λ (a : Replica). with_peer_accept (record { bar = a.peer_accept.bar; max = max }) a) (pairs_back n m r.long p size)
        ∙ ap (λ (a : PeerAccept). with_peer_accept a (view n m)) x ∙ sym (guards (view n m) peer num bar))
        (pairs_size n m r.long p size) (pairs_beyond n m r.long p size) (z ∙ pairs_ready n m r.long p size ∙ y)
