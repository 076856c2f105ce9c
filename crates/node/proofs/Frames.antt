-- A table's part of the buffer lent and put back: what the node and the buffer stand for then.
use mathlib.Core.Path.{◌≡◌}
use mathlib.Core.List.{List}
use Prim.Native.Nat.{ℕ, ◌≤◌}
use native.Mathlib.Omega.{arith}
use lib.ListN.{length}
use Rattle.words.specs.Tab.{words_from}
use Rattle.words.specs.Part.{splice, Untouched, splice_untouched, part_here, part_before, part_after, length_splice}
use Rattle.layout.specs.Layout.{replica_places, slot_words, written_words, roster_words, pair_words, execs_at, rows_at, slots_at, written_at, node_words}
use Rattle.bodega.specs.Replica as machine
use Rattle.roster_conf.specs.Edits.{view as roster_of}
use Rattle.peer_accept_bar.specs.Pairs.{pairs_of}
use Rattle.insts.specs.Slots.{insts_of}
use Rattle.highest_slot.specs.Written.{written_of}
use Rattle.node.specs.declared.Node.{Node}
use Rattle.node.specs.View.{view, ready}

module _ (n : Node) (m : List ℕ) (h : node_words ≤ length m) (s : List ℕ) where
  module _ (l : length s ≡ pair_words) where
    pub pairs_back : view n (splice m 0 pair_words s) ≡ machine.with_peer_accept (record { bar = pairs_of n.population s; max = n.peer_accept_max.0 }) (view n m)
    unfolding view
    pairs_back =
        rw (
          part_here m 0 pair_words s (omega arith) l,
          part_after m 0 pair_words s (omega arith) l execs_at replica_places (omega arith),
          part_after m 0 pair_words s (omega arith) l rows_at roster_words (omega arith),
          part_after m 0 pair_words s (omega arith) l slots_at slot_words (omega arith),
          part_after m 0 pair_words s (omega arith) l written_at written_words (omega arith),
        )

    pub pairs_size : length (splice m 0 pair_words s) ≡ length m
    pairs_size = length_splice m 0 pair_words s (omega arith) l

    pub pairs_beyond : Untouched node_words m (splice m 0 pair_words s)
    pairs_beyond = splice_untouched m 0 pair_words s (omega arith) l node_words (omega arith)

    pub pairs_ready : ready n (splice m 0 pair_words s) ≡ ready n m
    unfolding ready
    pairs_ready = rw pairs_size

  module _ (l : length s ≡ replica_places) where
    pub execs_back : view n (splice m execs_at replica_places s) ≡ machine.with_peer_exec_bar (words_from n.population s 0) (view n m)
    unfolding view
    execs_back =
        rw (
          part_before m execs_at replica_places s (omega arith) l 0 pair_words (omega arith),
          part_here m execs_at replica_places s (omega arith) l,
          part_after m execs_at replica_places s (omega arith) l rows_at roster_words (omega arith),
          part_after m execs_at replica_places s (omega arith) l slots_at slot_words (omega arith),
          part_after m execs_at replica_places s (omega arith) l written_at written_words (omega arith),
        )

    pub execs_size : length (splice m execs_at replica_places s) ≡ length m
    execs_size = length_splice m execs_at replica_places s (omega arith) l

    pub execs_beyond : Untouched node_words m (splice m execs_at replica_places s)
    execs_beyond = splice_untouched m execs_at replica_places s (omega arith) l node_words (omega arith)

    pub execs_ready : ready n (splice m execs_at replica_places s) ≡ ready n m
    unfolding ready
    execs_ready = rw execs_size

  module _ (l : length s ≡ roster_words) where
    pub rows_back : view n (splice m rows_at roster_words s) ≡ machine.with_conf (roster_of n.bodega_conf s) (view n m)
    unfolding view
    rows_back =
        rw (
          part_before m rows_at roster_words s (omega arith) l 0 pair_words (omega arith),
          part_before m rows_at roster_words s (omega arith) l execs_at replica_places (omega arith),
          part_here m rows_at roster_words s (omega arith) l,
          part_after m rows_at roster_words s (omega arith) l slots_at slot_words (omega arith),
          part_after m rows_at roster_words s (omega arith) l written_at written_words (omega arith),
        )

    pub rows_size_lem : length (splice m rows_at roster_words s) ≡ length m
    rows_size_lem = length_splice m rows_at roster_words s (omega arith) l

    pub rows_beyond : Untouched node_words m (splice m rows_at roster_words s)
    rows_beyond = splice_untouched m rows_at roster_words s (omega arith) l node_words (omega arith)

  module _ (l : length s ≡ slot_words) where
    pub slots_back : view n (splice m slots_at slot_words s) ≡ machine.with_insts (insts_of n.start_slot.0 n.slots s) (view n m)
    unfolding view
    slots_back =
        rw (
          part_before m slots_at slot_words s (omega arith) l 0 pair_words (omega arith),
          part_before m slots_at slot_words s (omega arith) l execs_at replica_places (omega arith),
          part_before m slots_at slot_words s (omega arith) l rows_at roster_words (omega arith),
          part_here m slots_at slot_words s (omega arith) l,
          part_after m slots_at slot_words s (omega arith) l written_at written_words (omega arith),
        )

    pub slots_size : length (splice m slots_at slot_words s) ≡ length m
    slots_size = length_splice m slots_at slot_words s (omega arith) l

    pub slots_beyond : Untouched node_words m (splice m slots_at slot_words s)
    slots_beyond = splice_untouched m slots_at slot_words s (omega arith) l node_words (omega arith)

    pub slots_ready : ready n (splice m slots_at slot_words s) ≡ ready n m
    unfolding ready
    slots_ready = rw slots_size

  module _ (l : length s ≡ written_words) where
    pub written_back : view n (splice m written_at written_words s) ≡ machine.with_highest_slot (written_of s) (view n m)
    unfolding view
    written_back =
        rw (
          part_before m written_at written_words s (omega arith) l 0 pair_words (omega arith),
          part_before m written_at written_words s (omega arith) l execs_at replica_places (omega arith),
          part_before m written_at written_words s (omega arith) l rows_at roster_words (omega arith),
          part_before m written_at written_words s (omega arith) l slots_at slot_words (omega arith),
          part_here m written_at written_words s (omega arith) l,
        )

    pub written_size : length (splice m written_at written_words s) ≡ length m
    written_size = length_splice m written_at written_words s (omega arith) l

    pub written_beyond : Untouched node_words m (splice m written_at written_words s)
    written_beyond = splice_untouched m written_at written_words s (omega arith) l node_words (omega arith)
