-- Trusted: the replica that a node and its lent buffer stand for, on any words. The buffer: guard pairs, the peers'
-- exec bars, the roster's rows, the slots, the written keys.
use Rattle.std.specs.Prelude.{Bool, false, ◌&&◌, List, [], ◌∷◌, ℕ, ◌+◌, ltb, leb, eqb, length, if◌then◌else◌, Result, Ok, Err}
use Rattle.std.specs.Prelude.{Option}
use Rattle.words.specs.Choice.{if_none◌then◌else◌}
use Rattle.words.specs.Tab.{words_from}
use Rattle.words.specs.Part.{part}
use Rattle.ids.specs.Limits.{window, ranges, replicas, top}
use Rattle.layout.specs.Layout.{replica_places, slot_words, written_words, roster_words, pair_words, execs_at, rows_at, slots_at, written_at, node_words}
use Rattle.roster_conf.specs.Edits.{view as roster_of}
use Rattle.roster_conf.specs.Ground.{Ground}
use Rattle.bodega.specs.Replica as machine
use Rattle.bodega.specs.Answers.{Given}
use Rattle.peer_accept_bar.specs.Pairs.{pairs_of}
use Rattle.insts.specs.Slots.{insts_of}
use Rattle.highest_slot.specs.Written.{written_of}
use Rattle.node.specs.declared.Node.{Node}
use Rattle.node.specs.declared.Taken.{Taken}
use Rattle.ids.specs.declared.Refusal.{Refusal}
use Rattle.ids.specs.Refusal.{number_of}

abbrev pub size : ℕ
size = node_words

-- ---- the replica

unfoldable pub view : Node → List ℕ → machine.Replica
view n m =
    record {
      me = record { id = n.id.0; population = n.population; quorum = n.quorum };
      bal = record { max_seen = n.bal_max_seen.0; prep_sent = n.bal_prep_sent.0; prepared = n.bal_prepared.0 };
      bar = record { start = n.start_slot.0; accept = n.accept_bar.0; commit = n.commit_bar.0; exec = n.exec_bar.0; snap = n.snap_bar.0 };
      peer_accept = record { bar = pairs_of n.population (part m 0 pair_words); max = n.peer_accept_max.0 };
      peer_exec_bar = words_from n.population (part m execs_at replica_places) 0;
      conf = roster_of n.bodega_conf (part m rows_at roster_words);
      insts = insts_of n.start_slot.0 n.slots (part m slots_at slot_words);
      highest_slot = written_of (part m written_at written_words);
    }

-- ---- what a call can make: where this is false a call is refused, 2

-- "Population 1 to 64, quorum 1 to population", the own number below the population
abbrev pub in_range : ℕ → ℕ → ℕ → Bool
in_range id population quorum = ltb 0 quorum && (leb quorum population && (leb population replicas && ltb id population))

-- start ≤ exec ≤ commit ≤ end, at most 32 slots
abbrev pub bars_in_range : ℕ → ℕ → ℕ → ℕ → Bool
bars_in_range start exec commit slots = leb start top && (leb start exec && (leb exec commit && (leb slots window && leb commit (start + slots))))

abbrev pub sound : ℕ → ℕ → ℕ → ℕ → ℕ → ℕ → ℕ → ℕ → ℕ → Bool
sound len id population quorum count start exec commit slots =
    leb size len && (in_range id population quorum && (leb count ranges && bars_in_range start exec commit slots))

unfoldable pub ready : Node → List ℕ → Bool
ready n m =
    sound (length m) n.id.0 n.population n.quorum n.bodega_conf.count n.start_slot.0 n.exec_bar.0 n.commit_bar.0 n.slots

-- what a call gives that is taken
abbrev pub taken_of : Taken → Given Node
taken_of t = record { number = 0; count = t.count; node = t.node }

-- what a call answers that was handed n: where it is refused, the number, no items, and n as it was
abbrev pub given_of : Node → Result Taken Refusal → Given Node
given_of n (Ok t) = taken_of t
given_of n (Err r) = record { number = number_of r; count = 0; node = n }

-- ---- what the code tests

-- the number of the first ground that applies, 0 where none does
abbrev pub lowest : List Ground → ℕ
lowest [] = 0
lowest (g ∷ gs) = if g.applies then g.number else lowest gs

-- `is_leader`
abbrev pub leads_it : Option ℕ → ℕ → Bool
leads_it o id = if_none o then false else λ l. eqb l id
