-- Bridge: the peers' exec bars forgotten, in lent words; tied to `heard_new_conf` by proofs/Laws.
use Rattle.std.specs.Prelude.{◌≡◌, List, ℕ, ◌≤◌, length, replicate}
use Rattle.words.specs.Tab.{words_from}
use Rattle.ids.specs.Limits.{replicas}

pub record Forgets (before after : List ℕ) : Type 0 where
  pub execs : (n : ℕ) → n ≤ replicas → words_from n after 0 ≡ replicate n 0
  pub size : length after ≡ length before
