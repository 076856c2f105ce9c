-- Demand 3 of the code, from the theorems of history.
use mathlib.Core.Path.{◌≡◌, ap}
use mathlib.Core.Bool.{Bool, true, false, ◌&&◌}
use mathlib.Core.List.{List, ◌∷◌}
use Prim.Native.Nat.{ℕ}
use lib.Dec.{leb}
use lib.ListN.{length}
use Rattle.ids.specs.declared.Slot.{Slot}
use Rattle.history.specs.Table.{Fed}
use Rattle.history.specs.Made.{CodeHistory}
use Rattle.history.specs.Made as history
use Rattle.history.proofs.Made.{code_figure, code_order_free}
use Rattle.node.specs.declared.Node.{Node}
use Rattle.node.specs.View.{size, view, ready, in_range, given_of}
use Rattle.node.specs.Begins.{Stands, Gives}
use Rattle.bodega.specs.Answers.{Answers}
use Rattle.call_heartbeat.specs.Heartbeat.{fitting}
use Rattle.call_apply.specs.declared.Call.{Call}
use Rattle.call_apply.specs.declared.Call.TheVariants as call
use Rattle.call_apply.specs.Call.{call_of, ready_for}
use Rattle.history_code.specs.CallList as calls
use Rattle.history_code.specs.CallList.{CallList, fed, CallHistory, ReadingBarStands, ReadingBarOrderFree}
use Rattle.std.specs.Prelude.{Result, Ok}
use Rattle.ids.specs.declared.Refusal.{Refusal}
use Rattle.node.specs.declared.Taken.{Taken}

-- one call, whichever it is
made_by : (c : Call) (rows text : List ℕ) {node last : Node} {mem mem' end : List ℕ} {fs : List Fed} (area area' : List ℕ) (r : Result Taken Refusal)
    → Answers (ready_for c rows) view (call_of c rows text) node mem area (given_of node r) mem' area' → history.Made ready view (given_of node r).node mem' fs last end
    → history.Made ready view node mem (fed (call_of c rows text) node r ∷ fs) last end
made_by (call.Heartbeat peer ballot conf commit exec snap) rows text area area' r a m = history.call_with (fitting conf rows) (call_of (call.Heartbeat peer ballot conf commit exec snap) rows text) area area' (given_of _ r) a m
made_by (call.Guard peer number bar) rows text area area' r a m = history.call (call_of (call.Guard peer number bar) rows text) area area' (given_of _ r) a m
made_by (call.Prepared ballot) rows text area area' r a m = history.call (call_of (call.Prepared ballot) rows text) area area' (given_of _ r) a m
made_by (call.Record slot ballot) rows text area area' r a m = history.call (call_of (call.Record slot ballot) rows text) area area' (given_of _ r) a m
made_by (call.Reply peer slot ballot) rows text area area' r a m = history.call (call_of (call.Reply peer slot ballot) rows text) area area' (given_of _ r) a m
made_by (call.Notice peer slot ballot) rows text area area' r a m = history.call (call_of (call.Notice peer slot ballot) rows text) area area' (given_of _ r) a m
made_by (call.Commit peer ballot bar) rows text area area' r a m = history.call (call_of (call.Commit peer ballot bar) rows text) area area' (given_of _ r) a m
made_by (call.Bars start accept commit exec) rows text area area' r a m = history.call (call_of (call.Bars start accept commit exec) rows text) area area' (given_of _ r) a m
made_by (call.Read client request leases) rows text area area' r a m = history.call (call_of (call.Read client request leases) rows text) area area' (given_of _ r) a m
made_by (call.Release slot) rows text area area' r a m = history.call (call_of (call.Release slot) rows text) area area' (given_of _ r) a m

made : {node last : Node} {mem end : List ℕ} {fs : List Fed} → CallList node mem fs last end → history.Made ready view node mem fs last end
made calls.none = history.none
made (calls.applied c rows text area area' mem' r a k) = made_by c rows text area area' r a (made k)

-- what `Node::fresh` ensures where it makes a node
stands : (b : Bool) (id population quorum : ℕ) (before : List ℕ) (n : Node) (after : List ℕ) → Gives b id population quorum before (Ok n) after → Stands id population quorum before n after
stands true id population quorum before n after g = g
stands false id population quorum before n after g = absurd g

bar_is : (n : Node) (m : List ℕ) (bar : Slot) → bar ≡ n.peer_accept_max → bar.0 ≡ (view n m).peer_accept.max
unfolding view
bar_is n m bar e = ap (λ (s : Slot). s.0) e

lived : {id population quorum : ℕ} {fs : List Fed} {bar : Slot} → CallHistory id population quorum fs bar → CodeHistory ready view id population quorum fs bar.0
lived {id} {population} {quorum} {fs} {bar} l =
    let s = stands (leb size (length l.before) && in_range id population quorum) id population quorum l.before l.first l.begin l.begins in
    record {
      first = l.first;
      last = l.last;
      begin = l.begin;
      end = l.end;
      stands = s.replica;
      made = made l.called;
      shows = bar_is l.last l.end bar l.shows;
    }

pub reading_bar_stands : ReadingBarStands
reading_bar_stands id population quorum fs bar l = code_figure ready view id population quorum fs bar.0 (lived l)

pub reading_bar_order_free : ReadingBarOrderFree
reading_bar_order_free id population quorum before rest₁ rest₂ bar₁ bar₂ l₁ l₂ = code_order_free ready view id population quorum before rest₁ rest₂ bar₁.0 bar₂.0 (lived l₁) (lived l₂)
