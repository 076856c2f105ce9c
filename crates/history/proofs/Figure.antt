-- Demand 3: the reading bar is the table's figure after every list of calls.
use Rattle.std.specs.Prelude.{if◌then◌else◌}
use Prim.Native.Nat.{ℕ}
use mathlib.Core.List.{List, [], ◌∷◌}
use Rattle.std.specs.Prelude.{Option, None, Some}
use mathlib.Core.Path.{◌≡◌, refl, ap, ◌∙◌}
use Rattle.bodega.specs.Replica.{Replica, fresh}
use Rattle.bodega.specs.Step.{Event, effect, refusal_of, step, step_by, step_of, after, is_taken, run}
use Rattle.history.specs.Table.{Table, fresh_table, hear, feed, feed_all}
use Rattle.history.specs.History.{history, FigureStands}
use Rattle.history.proofs.View.{view, effect_view}

pub step_view : (r : Replica) (e : Event) → view (after r (step_of r e)) ≡ feed (view r) (record { call = e.call; taken = is_taken (step_of r e) })
unfolding step
step_view r e = go (refusal_of r e.call e.places)
  where
    go : (o : Option ℕ) → view (after r (step_by o (effect r e.call))) ≡ (if is_taken (step_by o (effect r e.call)) then hear (view r) e.call else view r)
    go None = effect_view r e.call
    go (Some n) = refl

pub run_view : (r : Replica) (es : List Event) → view (run r es) ≡ feed_all (view r) (history r es)
unfolding run history feed_all
run_view r [] = refl
run_view r (e ∷ es) = run_view (after r (step_of r e)) es ∙ ap (λ (t : Table). feed_all t (history (after r (step_of r e)) es)) (step_view r e)

pub fresh_view : (id population quorum : ℕ) → view (fresh id population quorum) ≡ fresh_table id population quorum
unfolding view fresh fresh_table
fresh_view id population quorum = refl

pub figure_of_lem : (r : Replica) → (view r).figure ≡ r.peer_accept.max
unfolding view
figure_of_lem r = refl

pub figure_stands : FigureStands
unfolding view
figure_stands id population quorum es =
    let r = fresh id population quorum in
    ap (λ (t : Table). t.figure) (run_view r es ∙ ap (λ (t : Table). feed_all t (history r es)) (fresh_view id population quorum))
