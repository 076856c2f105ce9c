-- Trusted: heartbeat.rs, ballots, heartbeats, commit notices (document 01, port order 6).
use Rattle.std.specs.Prelude.{ℕ, zero, suc, ◌+◌, ◌-◌, ◌%◌, max, Bool, false, ◌&&◌, ◌||◌, not, List, [], ◌∷◌, ◌++◌, ltb, leb, eqb, get_or, take, drop, set, if◌then◌else◌}
use Rattle.std.specs.Prelude.{Option}
use Rattle.words.specs.Choice.{if_none◌then◌else◌}
use Rattle.bitmap.specs.Bitmap.{every}
use Rattle.roster_conf.specs.Conf.{Conf, into_filtered, same}
use Rattle.items.specs.Item.{Item, Lead, Commit}
use Rattle.bodega.specs.Replica.{Instance, Committed, Replica, Done, done, ◌and_then◌, order, is_open, is_leader, with_status, with_conf, with_insts, with_peer_exec_bar, with_max_seen, with_snap}
use Rattle.bodega.specs.Conflease.{heard_new_conf}

-- ---- `check_ballot`

unfoldable pub check_ballot : Replica → ℕ → Done
check_ballot r ballot =
    if ltb r.bal.max_seen ballot
    then done (with_max_seen ballot (with_conf (into_filtered r.me.id r.conf) r)) (if is_leader r then Lead false ∷ [] else [])
    else done r []

-- ---- `advance_commit_bar`: the slots from the commit bar on, up to n of them, the first one being `slot`

pub record Walk : Type 0 where
  pub insts : List Instance
  pub items : List Item

unfoldable pub walk : ℕ → ℕ → ℕ → List Instance → Walk
walk ballot slot zero is = record { insts = is; items = [] }
walk ballot slot (suc n) [] = record { insts = []; items = [] }
walk ballot slot (suc n) (i ∷ is) =
    let w = walk ballot (slot + 1) n is in
    if ltb i.bal ballot || ltb (order i.status) 2 then record { insts = i ∷ is; items = [] } else
    if not (is_open i.status) then record { insts = i ∷ w.insts; items = w.items } else
    record { insts = with_status Committed i ∷ w.insts; items = Commit slot ∷ w.items }

unfoldable pub advance_commit_bar : Replica → ℕ → ℕ → Done
advance_commit_bar r ballot commitBar =
    let k = r.bar.commit - r.bar.start in
    let w = walk ballot r.bar.commit (commitBar - r.bar.commit) (drop k r.insts) in
    done (with_insts (take k r.insts ++ w.insts) r) w.items

-- ---- `heard_commit_notice`

unfoldable pub heard_commit_notice : Replica → ℕ → ℕ → Done
heard_commit_notice r ballot commitBar = if eqb ballot r.bal.max_seen then advance_commit_bar r ballot commitBar else done r []

-- ---- `heard_heartbeat`

-- `from_proposer`, and whether the roster is to be installed
abbrev pub from_proposer : ℕ → ℕ → Bool
from_proposer peer ballot = eqb (ballot % 256) (peer + 1)

unfoldable pub installs : Replica → ℕ → ℕ → Conf → Bool
installs r peer ballot c = ltb r.bal.max_seen ballot || (from_proposer peer ballot && not (same c r.conf))

unfoldable pub heard_conf : Replica → ℕ → ℕ → Option Conf → Done
heard_conf r peer ballot conf = if_none conf then done r [] else λ c. if installs r peer ballot c then heard_new_conf r ballot c else done r []

-- `passed_cnt == population`
abbrev pub passed : Replica → ℕ → Bool
passed r exec = every r.me.population (λ p. eqb p r.me.id || leb exec (get_or r.peer_exec_bar p 0))

-- a peer's exec bar, if larger than known; the slots that all have executed are safe to snapshot
unfoldable pub heard_exec_bar : ℕ → ℕ → Replica → Replica
heard_exec_bar peer exec r =
    let s = with_peer_exec_bar (set r.peer_exec_bar peer exec) r in
    if ltb (get_or r.peer_exec_bar peer 0) exec then (if passed s exec then with_snap exec s else s) else r

abbrev pub heard_snap_bar : ℕ → Replica → Replica
heard_snap_bar snap r = with_snap (max r.bar.snap snap) r

-- what follows an adoption: slots up to the commit bar are safe to commit; then a peer's exec and snap bar
unfoldable pub heard_bars : ℕ → ℕ → ℕ → ℕ → ℕ → Replica → Done
heard_bars peer ballot commitBar execBar snapBar r =
    if ltb execBar r.bar.exec then done r [] else
    advance_commit_bar r ballot commitBar and_then λ s.
    done (if eqb peer r.me.id then s else heard_snap_bar snapBar (heard_exec_bar peer execBar s)) []

unfoldable pub heard_heartbeat : Replica → ℕ → ℕ → Option Conf → ℕ → ℕ → ℕ → Done
heard_heartbeat r peer ballot conf commitBar execBar snapBar =
    if ltb ballot r.bal.max_seen then done r [] else
    heard_conf r peer ballot conf and_then heard_bars peer ballot commitBar execBar snapBar
