-- Bridge: `peer_exec_bar` as a list, one bar for each replica, and what a heartbeat's exec and snap bar make of it and
-- of the snap bar (the end of `heard_heartbeat`); tied to `heard_exec_bar` by proofs/Laws.
use Rattle.std.specs.Prelude.{◌≡◌, Bool, ◌||◌, List, ℕ, max, ltb, leb, eqb, get_or, set, if◌then◌else◌}
use Rattle.words.specs.Tab.{words_from}
use Rattle.bitmap.specs.Bitmap.{every}

-- `passed_cnt == population`
abbrev pub all_passed : ℕ → ℕ → ℕ → List ℕ → Bool
all_passed population id exec execs = every population (λ p. eqb p id || leb exec (get_or execs p 0))

-- a peer's exec bar, if larger than known
abbrev pub execs_heard : ℕ → ℕ → List ℕ → List ℕ
execs_heard peer exec execs = if ltb (get_or execs peer 0) exec then set execs peer exec else execs

-- the snap bar then: "if all servers' exec_bar have passed a slot, that slot is definitely safe to be snapshotted"
unfoldable pub snap_heard : ℕ → ℕ → ℕ → ℕ → List ℕ → ℕ → ℕ
snap_heard population id peer exec execs snap =
    if ltb (get_or execs peer 0) exec then (if all_passed population id exec (set execs peer exec) then exec else snap) else snap

-- the words and the answer that hearing an exec bar leaves; words past the population stay as they were
pub record Hears (population id peer exec snap : ℕ) (before : List ℕ) (r : ℕ) (after : List ℕ) : Type 0 where
  pub execs : words_from population after 0 ≡ execs_heard peer exec (words_from population before 0)
  pub answer : r ≡ snap_heard population id peer exec (words_from population before 0) snap
  pub words : after ≡ execs_heard peer exec before

-- a heartbeat of the replica's own says nothing; a larger snap bar stands
abbrev pub execs_left : ℕ → ℕ → ℕ → List ℕ → List ℕ
execs_left id peer exec execs = if eqb peer id then execs else execs_heard peer exec execs

abbrev pub snap_left : ℕ → ℕ → ℕ → ℕ → ℕ → List ℕ → ℕ → ℕ
snap_left population id peer exec snap execs own = if eqb peer id then own else max (snap_heard population id peer exec execs own) snap

pub record HearsPeer (population id peer exec snap own : ℕ) (before : List ℕ) (r : ℕ) (after : List ℕ) : Type 0 where
  pub execs : words_from population after 0 ≡ execs_left id peer exec (words_from population before 0)
  pub answer : r ≡ snap_left population id peer exec snap (words_from population before 0) own
  pub words : after ≡ execs_left id peer exec before
