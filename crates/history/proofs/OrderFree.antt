-- Demand 3: whatever the order and repeats of guards between neighbouring changes of ballot or roster, the figure at
-- their end is the same.
use Rattle.std.specs.Prelude.{if◌then◌else◌}
use Prim.Native.Nat.{ℕ, ◌<◌}
use mathlib.Core.Bool.{Bool, true, false}
use mathlib.Core.List.Memᴰ
use mathlib.Core.List.{List, [], ◌∷◌, ◌++◌}
use mathlib.Core.Logic.{⊎_elim}
use Rattle.std.specs.Prelude.{Option, None, Some}
use mathlib.Core.Path.{◌≡◌, refl, ap, sym, ◌∙◌}
use lib.ListN.{length, length-set, length-replicate}
use borrow.Author.Tests.{leb-false}
use Rattle.bodega.specs.Replica.{Replica, fresh, pair, Call, Heartbeat, Guard, Prepared, Record, Reply, Notice, CommitNotice, Bars, Read, Release}
use Rattle.roster_conf.specs.Conf.{Conf}
use Rattle.bodega.specs.Grounds.{grounds}
use Rattle.bodega.specs.Step.{Event, step, step_of, after, is_taken, run}
use Rattle.history.specs.Table.{Table, Fed, fresh_table, alters, adopts, adopting, raises, hear, feed_all}
use Rattle.history.specs.History.{history, quiet, replica_after, fed_by, table_after, OrderFree}
use Rattle.history.proofs.View.{view}
use Rattle.history.proofs.Figure.{step_view, run_view, fresh_view, figure_of_lem}
use Rattle.bodega.proofs.Taken.{taken_none}
use Rattle.history.proofs.Guards.{InsideAll, same_figure}

-- ---- the table has a pair for each replica

pub record Sized (t u : Table) : Type 0 where
  pub population : u.population ≡ t.population
  pub size : length u.pairs ≡ length t.pairs

pub sized_if : {t u : Table} (b : Bool) → Sized t u → Sized t (if b then u else t)
sized_if true s = s
sized_if false s = record { population = refl; size = refl }

sized_adopting : (t : Table) (ballot : ℕ) (conf : Option Conf) → Sized t (adopting ballot conf t)
sized_adopting t ballot None = record { population = refl; size = refl }
sized_adopting t ballot (Some c) = record { population = refl; size = length-set t.pairs t.own (pair ballot t.accept) }

pub sized : (t : Table) (c : Call) → Sized t (hear t c)
unfolding hear
sized t (Heartbeat peer ballot conf commit exec snap) = sized_if (adopts t peer ballot conf) (sized_adopting t ballot conf)
sized t (Guard peer number bar) =
    sized_if (alters t peer (pair number bar)) (record { population = refl; size = length-set t.pairs peer (pair number bar) })
sized t (Prepared ballot) = record { population = refl; size = refl }
sized t (Record slot ballot reqs) = record { population = refl; size = refl }
sized t (Reply peer slot ballot) = record { population = refl; size = refl }
sized t (Notice peer slot ballot) = sized_if (raises t slot ballot) (record { population = refl; size = refl })
sized t (CommitNotice peer ballot bar) = record { population = refl; size = refl }
sized t (Bars start accept commit exec) = record { population = refl; size = refl }
sized t (Read leases q) = record { population = refl; size = refl }
sized t (Release slot) = record { population = refl; size = refl }

step_sized : (r : Replica) (e : Event) → Sized (view r) (view (after r (step_of r e)))
step_sized r e = rw (step_view r e) (sized_if (is_taken (step_of r e)) (sized (view r) e.call))

-- ---- a guard is taken only from a replica below the population

pub guard_inside : (r : Replica) (peer number bar places : ℕ) → is_taken (step r (Guard peer number bar) places) ≡ true → peer < (view r).population
unfolding grounds view
guard_inside r peer number bar places h = leb-false r.me.population peer (taken_none r (Guard peer number bar) places h).0

history_inside : (r : Replica) (es : List Event) → length (view r).pairs ≡ (view r).population → InsideAll (view r) (history r es)
unfolding history
history_inside r [] s peer number bar m = absurd (Memᴰ.not-nil m)
history_inside r (e ∷ es) s peer number bar m =
    let z = step_sized r e in
    ⊎_elim
    (λ q. let c : e.call ≡ Guard peer number bar = sym (ap (λ (f : Fed). f.call) q) in
    let t : is_taken (step_of r e) ≡ true = sym (ap (λ (f : Fed). f.taken) q) in
    rw s (guard_inside r peer number bar e.places (rw (← c) t)))
    (λ m'. rw (← z.size) (history_inside (after r (step_of r e)) es (z.size ∙ s ∙ sym z.population) peer number bar m'))
    (Memᴰ.cases_cons m)

-- ---- from a fresh replica

run_sized : (r : Replica) (es : List Event) → length (view r).pairs ≡ (view r).population → length (view (run r es)).pairs ≡ (view (run r es)).population
unfolding run
run_sized r [] s = s
run_sized r (e ∷ es) s = let z = step_sized r e in run_sized (after r (step_of r e)) es (z.size ∙ s ∙ sym z.population)

run_append : (r : Replica) (es fs : List Event) → run r (es ++ fs) ≡ run (run r es) fs
unfolding run
run_append r [] fs = refl
run_append r (e ∷ es) fs = run_append (after r (step_of r e)) es fs

module _ (id population quorum : ℕ) where
  pub fresh_sized : length (view (fresh id population quorum)).pairs ≡ (view (fresh id population quorum)).population
  unfolding view fresh
  fresh_sized = length-replicate population _

  after_view : (es : List Event) → view (replica_after id population quorum es) ≡ table_after id population quorum es
  after_view es =
      run_view (fresh id population quorum) es ∙ ap (λ (t : Table). feed_all t (fed_by id population quorum es)) (fresh_view id population quorum)

  module _ (before rest : List Event) where
    inside : InsideAll (table_after id population quorum before) (history (replica_after id population quorum before) rest)
    inside =
        rw (after_view before) at (history_inside (replica_after id population quorum before) rest (run_sized (fresh id population quorum) before fresh_sized))

    figure_after : (replica_after id population quorum (before ++ rest)).peer_accept.max
        ≡ (feed_all (table_after id population quorum before) (history (replica_after id population quorum before) rest)).figure
    figure_after =
        ap (λ (r : Replica). r.peer_accept.max) (run_append (fresh id population quorum) before rest)
        ∙ sym (figure_of_lem (run (replica_after id population quorum before) rest))
        ∙ ap (λ (t : Table). t.figure)
        (run_view (replica_after id population quorum before) rest
        ∙ ap (λ (t : Table). feed_all t (history (replica_after id population quorum before) rest)) (after_view before))

pub order_free : OrderFree
order_free id population quorum before₁ after₁ before₂ after₂ a =
    let same_table : table_after id population quorum before₂ ≡ table_after id population quorum before₁ = ap (feed_all (fresh_table id population quorum)) (sym a.agree) in
    let f₁ = history (replica_after id population quorum before₁) after₁ in
    let f₂ = history (replica_after id population quorum before₂) after₂ in
    let inside₂ : InsideAll (table_after id population quorum before₁) f₂ = rw same_table at (inside id population quorum before₂ after₂) in
    let quiet₂ : quiet (table_after id population quorum before₁) f₂ ≡ true = rw same_table at a.quiet₂ in
    figure_after id population quorum before₁ after₁
    ∙ same_figure (table_after id population quorum before₁) f₁ f₂ a.quiet₁ quiet₂ (inside id population quorum before₁ after₁) inside₂ a.guards
    ∙ ap (λ (t : Table). (feed_all t f₂).figure) (sym same_table)
    ∙ sym (figure_after id population quorum before₂ after₂)
