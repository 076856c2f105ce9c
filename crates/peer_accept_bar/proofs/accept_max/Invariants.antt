use Rattle.std.proofs.Common.{◌≡◌, length, take}
use Rattle.layout.specs.Layout.{replica_places}
use Rattle.peer_accept_bar.proofs.Laws as law
use Rattle.peer_accept_bar.proofs.accept_max.Given as goal

abbrev pub invariant-loop-i : goal.invariant-loop-i
invariant-loop-i l =
    (length l.bars ≡ replica_places) × (take l.i l.bars ≡ take l.i (law.bars_of l.ballot.0 l.population l.pairs))
