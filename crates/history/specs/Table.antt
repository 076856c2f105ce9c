-- Trusted: demand 3, the table of document 01, "The list of calls", a plain machine beside the replica. It is fed each
-- call's arguments and whether it was taken, and nothing else: of the replica's definitions it uses the types of
-- calls, pairs and rosters, and what a roster is with the own number filtered out. Beyond document 01 it holds the
-- roster, since a heartbeat at the current ballot is an adoption just where its roster differs.
use Rattle.std.specs.Prelude.{ℕ, ◌+◌, ◌-◌, ◌%◌, Bool, false, ◌&&◌, ◌||◌, not, List, [], ◌∷◌, map, ltb, leb, eqb, get_or, set, replicate, if◌then◌else◌}
use Rattle.std.specs.Prelude.{Option, None, Some}
use Rattle.rank.specs.Sort.{sort}
use Rattle.ids.specs.Limits.{beyond}
use Rattle.roster_conf.specs.Conf.{Conf, empty, into_filtered, same}
use Rattle.bodega.specs.Replica.{Pair, pair, Call, Heartbeat, Guard, Prepared, Record, Reply, Notice, CommitNotice, Bars, Read, Release}

pub record Table : Type 0 where
  pub own : ℕ
  pub population : ℕ
  pub quorum : ℕ
  pub ballot : ℕ
  pub start : ℕ
  pub accept : ℕ
  pub roster : Conf
  pub pairs : List Pair
  pub figure : ℕ

unfoldable pub fresh_table : ℕ → ℕ → ℕ → Table
fresh_table own population quorum =
    record {
      own = own;
      population = population;
      quorum = quorum;
      ballot = 0;
      start = 0;
      accept = 0;
      roster = empty;
      pairs = replicate population (pair 0 beyond);
      figure = beyond;
    }

-- the quorum-th smallest of all replicas' bars, where a pair whose number is not the ballot counts as beyond
abbrev pub bar_under : ℕ → Pair → ℕ
bar_under ballot p = if eqb p.number ballot then p.bar else beyond

unfoldable pub figure_of : ℕ → ℕ → List Pair → ℕ
figure_of quorum ballot pairs = get_or (sort (map (bar_under ballot) pairs)) (quorum - 1) 0

-- ---- what a call is to the table

-- a guard alters the peer's pair: a larger number, or an equal one with a smaller bar
unfoldable pub beats : Pair → Pair → Bool
beats p old = ltb old.number p.number || (eqb p.number old.number && ltb p.bar old.bar)

abbrev pub alters : Table → ℕ → Pair → Bool
alters t peer p = beats p (get_or t.pairs peer (pair 0 beyond))

-- a heartbeat's roster is installed: at a higher ballot, or at this one from its proposer where it differs
unfoldable pub adopts : Table → ℕ → ℕ → Option Conf → Bool
adopts t peer ballot None = false
adopts t peer ballot (Some c) =
    leb t.ballot ballot && (ltb t.ballot ballot || (eqb (ballot % 256) (peer + 1) && not (same c t.roster)))

-- a notice at start or above gives its ballot to `check_ballot`, a commit event never does: the larger ballot stands
abbrev pub raises : Table → ℕ → ℕ → Bool
raises t slot ballot = leb t.start slot && ltb t.ballot ballot

-- ---- the moves

abbrev pub guarded : ℕ → Pair → Table → Table
guarded peer p t =
    let pairs = set t.pairs peer p in
    record { own = t.own; population = t.population; quorum = t.quorum; ballot = t.ballot; start = t.start; accept = t.accept; roster = t.roster; pairs = pairs; figure = figure_of t.quorum t.ballot pairs }

abbrev pub adopting : ℕ → Option Conf → Table → Table
adopting ballot None t = t
adopting ballot (Some c) t =
    let pairs = set t.pairs t.own (pair ballot t.accept) in
    record { own = t.own; population = t.population; quorum = t.quorum; ballot = ballot; start = t.start; accept = t.accept; roster = c; pairs = pairs; figure = figure_of t.quorum ballot pairs }

-- the figure is left standing
abbrev pub raised : ℕ → Table → Table
raised ballot t =
    record { own = t.own; population = t.population; quorum = t.quorum; ballot = ballot; start = t.start; accept = t.accept; roster = into_filtered t.own t.roster; pairs = t.pairs; figure = t.figure }

abbrev pub moved : ℕ → ℕ → Table → Table
moved start accept t =
    record { own = t.own; population = t.population; quorum = t.quorum; ballot = t.ballot; start = start; accept = accept; roster = t.roster; pairs = t.pairs; figure = t.figure }

unfoldable pub hear : Table → Call → Table
hear t (Heartbeat peer ballot conf commit exec snap) = if adopts t peer ballot conf then adopting ballot conf t else t
hear t (Guard peer number bar) = if alters t peer (pair number bar) then guarded peer (pair number bar) t else t
hear t (Prepared ballot) = t
hear t (Record slot ballot reqs) = t
hear t (Reply peer slot ballot) = t
hear t (Notice peer slot ballot) = if raises t slot ballot then raised ballot t else t
hear t (CommitNotice peer ballot bar) = t
hear t (Bars start accept commit exec) = moved start accept t
hear t (Read leases q) = t
hear t (Release slot) = t

-- a call, and whether it was taken; a refused one is nothing to it
pub record Fed : Type 0 where
  pub call : Call
  pub taken : Bool

abbrev pub feed : Table → Fed → Table
feed t f = if f.taken then hear t f.call else t

unfoldable pub feed_all : Table → List Fed → Table
feed_all t [] = t
feed_all t (f ∷ fs) = feed_all (feed t f) fs
