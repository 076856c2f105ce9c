-- Trusted: the guard pairs (`peer_accept_bar`) that lent words stand for: all numbers, then all bars.
use Rattle.std.specs.Prelude.{List, map, ℕ, ◌+◌, ◌-◌, get_or, set, if◌then◌else◌}
use Rattle.words.specs.Tab.{tab}
use Rattle.layout.specs.Layout.{bars_at}
use Rattle.rank.specs.Sort.{sort}
use Rattle.bodega.specs.Replica.{Pair, pair, fresh_pair, PeerAccept}
use Rattle.bodega.specs.Conflease.{counted, newer}

-- the pairs of n replicas, on any words
unfoldable pub pairs_of : ℕ → List ℕ → List Pair
pairs_of n p = tab (λ i. pair (get_or p i 0) (get_or p (bars_at + i) 0)) 0 n

abbrev pub peer_accept : ℕ → List ℕ → ℕ → PeerAccept
peer_accept n p max = record { bar = pairs_of n p; max = max }

-- `update_peer_accept_max`
abbrev pub accept_max : ℕ → ℕ → List Pair → ℕ
accept_max quorum ballot l = get_or (sort (map (counted ballot) l)) (quorum - 1) 0

-- `guard_accept_bar` of bodega, of the pairs and the reading bar alone
abbrev pub guarded : ℕ → ℕ → ℕ → ℕ → ℕ → PeerAccept → PeerAccept
guarded quorum ballot peer number bar a =
    let l = set a.bar peer (pair number bar) in
    if newer (get_or a.bar peer fresh_pair) number bar then record { bar = l; max = accept_max quorum ballot l } else a
