-- From the machine to code that meets `Answers`.
use Rattle.std.specs.Prelude.{if◌then◌else◌}
use mathlib.Core.Path.{◌≡◌, refl, sym, ap, ◌∙◌}
use mathlib.Core.Bool.{Bool, true, false, ◌&&◌}
use mathlib.Core.List.Memᴰ
use mathlib.Core.List.{List, [], ◌∷◌, ◌++◌, Memᴰ}
use mathlib.Core.Logic.{⊎_elim}
use Rattle.std.specs.Prelude.{Option, None, Some}
use Prim.Native.Nat.{ℕ, ◌<◌}
use native.Mathlib.Omega.{arith}
use lib.Dec.{eqb}
use lib.ListN.{length}
use borrow.Author.Tests.{ne_eqb}
use Rattle.items.specs.Item.{places}
use Rattle.bodega.specs.Replica.{Replica, Call, Guard, Done}
use Rattle.bodega.specs.Step.{Step, Refused, step, step_by, after, is_taken, refusal_of, effect}
use Rattle.bodega.specs.Answers.{Given, due, Follows, Answers}
use Rattle.bodega.proofs.Taken.{refused_not_0}
use Rattle.history.specs.Table.{Table, Fed, fresh_table, feed, feed_all}
use Rattle.history.specs.History.{accepted}
use Rattle.history.specs.Made as made_of
use Rattle.history.specs.Made.{Made, CodeHistory, CodeFigureStands, CodeOrderFree}
use Rattle.history.proofs.View.{view as table_of}
use Rattle.history.proofs.Figure.{step_view, fresh_view, figure_of_lem}
use Rattle.history.proofs.Guards.{InsideAll, same_figure}
use Rattle.history.proofs.OrderFree.{Sized, sized_if, sized, guard_inside, fresh_sized}

-- ---- one call

module _ {Node : Type 0} (view : Node → List ℕ → Replica) where
  -- what a step tells of its answer
  record Accords (r : Replica) (s : Step) (g : Given Node) (mem' : List ℕ) : Type 0 where
    taken : is_taken s ≡ eqb g.number 0
    next : view g.node mem' ≡ after r s

  tells : (ready : Node → List ℕ → Bool) (o : Option ℕ) (d : Done) (node : Node) (mem area : List ℕ) (g : Given Node) (mem' area' : List ℕ) → ((n : ℕ) → o ≡ Some n → 0 < n)
      → Follows ready view (step_by o d) node mem area g mem' area' → Accords (view node mem) (step_by o d) g mem'
  tells ready None d node mem area g mem' area' p f = record { taken = rw f.number; next = f.next }
  tells ready (Some n) d node mem area g mem' area' p f =
      record {
        taken = sym (ne_eqb g.number 0 (λ z. let q = p n refl in omega (arith, z, f.number)));
        next = rw (f.same_node, f.same_mem);
      }

  module _ (ready : Node → List ℕ → Bool) where
    -- what a call leaves: the table is fed, and a guard that is taken is of a replica below the population
    record Comes (c : Call) (node : Node) (mem : List ℕ) (g : Given Node) (mem' : List ℕ) : Type 0 where
      table : table_of (view g.node mem') ≡ feed (table_of (view node mem)) (made_of.fed_of ready view c g)
      inside : (peer number bar : ℕ) → c ≡ Guard peer number bar → eqb g.number 0 ≡ true → peer < (table_of (view node mem)).population

    -- also where the node is not whole: all is refused then
    comes : (whole : Node → List ℕ → Bool) (c : Call) (node : Node) (mem area : List ℕ) (g : Given Node) (mem' area' : List ℕ) → Answers whole view c node mem area g mem' area' → Comes c node mem g mem'
    unfolding due step
    comes whole c node mem area g mem' area' a = go (whole node mem) a
      where
        go : (t : Bool) → Follows whole view (if t then step (view node mem) c (places area) else Refused 2) node mem area g mem' area' → Comes c node mem g mem'
        go true f =
            let t = tells whole (refusal_of (view node mem) c (places area)) (effect (view node mem) c) node mem area g mem' area' (refused_not_0 (view node mem) c (places area)) f in
            record {
              table =
                  ap table_of t.next ∙ step_view (view node mem) (record { call = c; places = places area })
                  ∙ ap (λ (b : Bool). feed (table_of (view node mem)) (record { call = c; taken = b })) t.taken;
              inside = λ peer number bar e y. guard_inside (view node mem) peer number bar (places area) (rw (← e) (t.taken ∙ y));
            }
        go false f =
            record {
              table = rw (f.same_node, f.same_mem, f.number);
              inside = λ peer number bar e y. let z : ◌≡◌ {A = ℕ} 0 1 = cc in absurd (omega arith);
            }

-- ---- a list of calls

feed_sized : (t : Table) (f : Fed) → Sized t (feed t f)
feed_sized t f = sized_if f.taken (sized t f.call)

all_sized : (t : Table) (fs : List Fed) → length (feed_all t fs).pairs ≡ length t.pairs
unfolding feed_all
all_sized t [] = refl
all_sized t (f ∷ fs) = all_sized (feed t f) fs ∙ (feed_sized t f).size

feed_append : (t : Table) (fs gs : List Fed) → feed_all t (fs ++ gs) ≡ feed_all (feed_all t fs) gs
unfolding feed_all
feed_append t [] gs = refl
feed_append t (f ∷ fs) gs = feed_append (feed t f) fs gs

in_rest : (f : Fed) (fs gs : List Fed) → Memᴰ f gs → Memᴰ f (fs ++ gs)
in_rest f [] gs m = m
in_rest f (g ∷ fs) gs m = Memᴰ.tail (in_rest f fs gs m)

rest_inside : (t : Table) (fs gs : List Fed) → InsideAll t (fs ++ gs) → InsideAll (feed_all t fs) gs
rest_inside t fs gs i peer number bar m = rw (all_sized t fs) (i peer number bar (in_rest (accepted peer number bar) fs gs m))

module _ {Node : Type 0} (ready : Node → List ℕ → Bool) (view : Node → List ℕ → Replica) where
  -- the table stands for what the calls left, and its guards are of replicas below the population
  record Stands (node : Node) (mem : List ℕ) (fs : List Fed) (last : Node) (end : List ℕ) : Type 0 where
    table : table_of (view last end) ≡ feed_all (table_of (view node mem)) fs
    inside : InsideAll (table_of (view node mem)) fs

  abbrev Full : Node → List ℕ → Type 0
  Full node mem = length (table_of (view node mem)).pairs ≡ (table_of (view node mem)).population

  one_more : (c : Call) (node last : Node) (mem : List ℕ) (g : Given Node) (mem' end : List ℕ) (fs : List Fed) → Full node mem → Comes view ready c node mem g mem'
      → (Full g.node mem' → Stands g.node mem' fs last end) → Stands node mem (made_of.fed_of ready view c g ∷ fs) last end
  unfolding feed_all
  one_more c node last mem g mem' end fs h x rest =
      let t = table_of (view node mem) in
      let f = made_of.fed_of ready view c g in
      let z = feed_sized t f in
      let full : Full g.node mem' = rw x.table (z.size ∙ h ∙ sym z.population) in
      let y = rest full in
      record {
        table = y.table ∙ ap (λ (u : Table). feed_all u fs) x.table;
        inside = λ peer number bar m. ⊎_elim
            (λ q. rw h (x.inside peer number bar (sym (ap (λ (k : Fed). k.call) q)) (sym (ap (λ (k : Fed). k.taken) q))))
            (λ m'. rw (← z.size) (rw x.table at (y.inside peer number bar m')))
            (Memᴰ.cases_cons m);
      }

  stands : {node last : Node} {mem end : List ℕ} {fs : List Fed} → Full node mem → Made ready view node mem fs last end → Stands node mem fs last end
  unfolding feed_all
  stands f made_of.none = record { table = refl; inside = λ peer number bar m. absurd (Memᴰ.not-nil m) }
  stands {node} {last} {mem} {end} f (made_of.call {mem' = mem'} {fs = fs} c area area' g a m) =
      one_more c node last mem g mem' end fs f (comes view ready ready c node mem area g mem' area' a) (λ f'. stands f' m)
  stands {node} {last} {mem} {end} f (made_of.call_with {mem' = mem'} {fs = fs} whole c area area' g a m) =
      one_more c node last mem g mem' end fs f (comes view ready (λ n m. ready n m && whole) c node mem area g mem' area' a) (λ f'. stands f' m)

  module _ (id population quorum : ℕ) (fs : List Fed) (bar : ℕ) (l : CodeHistory ready view id population quorum fs bar) where
    begin_is : table_of (view l.first l.begin) ≡ fresh_table id population quorum
    begin_is = ap table_of l.stands ∙ fresh_view id population quorum

    lived : Stands l.first l.begin fs l.last l.end
    lived = stands (rw l.stands (fresh_sized id population quorum)) l.made

    all_inside : InsideAll (fresh_table id population quorum) fs
    all_inside = rw begin_is at lived.inside

  pub code_figure : CodeFigureStands ready view
  code_figure id population quorum fs bar l =
      l.shows ∙ sym (figure_of_lem (view l.last l.end))
      ∙ ap (λ (t : Table). t.figure) ((lived id population quorum fs bar l).table ∙ ap (λ (t : Table). feed_all t fs) (begin_is id population quorum fs bar l))

  pub code_order_free : CodeOrderFree ready view
  code_order_free id population quorum before rest₁ rest₂ bar₁ bar₂ l₁ l₂ g q₁ q₂ =
      let t = fresh_table id population quorum in
      code_figure id population quorum (before ++ rest₁) bar₁ l₁
      ∙ ap (λ (u : Table). u.figure) (feed_append t before rest₁)
      ∙ same_figure (feed_all t before) rest₁ rest₂ q₁ q₂
      (rest_inside t before rest₁ (all_inside id population quorum (before ++ rest₁) bar₁ l₁))
      (rest_inside t before rest₂ (all_inside id population quorum (before ++ rest₂) bar₂ l₂)) g
      ∙ sym (ap (λ (u : Table). u.figure) (feed_append t before rest₂))
      ∙ sym (code_figure id population quorum (before ++ rest₂) bar₂ l₂)
