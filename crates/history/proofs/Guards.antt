-- Where there is no adoption and no raised ballot, the pairs are settled by the set of accepted guards, and the figure
-- by the pairs.
use Rattle.std.specs.Prelude.{if◌then◌else◌}
use Prim.Native.Nat.{ℕ, ◌<◌}
use mathlib.Core.Bool.{Bool, true, false, ◌&&◌, not, Bool-set, true≢false}
use mathlib.Core.List.Memᴰ
use mathlib.Core.List.{List, [], ◌∷◌, Mem, Memᴰ}
use mathlib.Core.Logic.{◌⊎◌, inl, inr, ⊎_elim, ∥∥₁_elim}
use mathlib.Core.Path.{◌≡◌, refl, ap, sym, ◌∙◌}
use native.Mathlib.Omega.{arith}
use lib.Dec.{eqb}
use lib.ListN.{length, get_or, length-set}
use lib.Seq.{get_or-set_same, get_or-set_other, ext_get_or}
use borrow.Author.Tests.{eqb-true, eqb-false}
use Rattle.words.proofs.Tests.{and_both}
use Rattle.ids.specs.Limits.{beyond}
use Rattle.bodega.specs.Replica.{Pair, pair, Call, Heartbeat, Guard, Prepared, Record, Reply, Notice, CommitNotice, Bars, Read, Release}
use Rattle.history.specs.Table.{Table, Fed, beats, alters, figure_of, guarded, adopts, adopting, raises, raised, hear, feed, feed_all}
use Rattle.history.specs.History.{changes, quiet, accepted, SameGuards}
use Rattle.history.proofs.Order.{Upto, upto, upto_beats, upto_refl, upto_trans, upto_both, not_beats, beats_upto, beats_self}

-- what a call that is no adoption and raises no ballot does: nothing to the pairs and the figure, or a guard's change
pub record Still (t u : Table) : Type 0 where
  pub population : u.population ≡ t.population
  pub quorum : u.quorum ≡ t.quorum
  pub ballot : u.ballot ≡ t.ballot
  pub pairs : u.pairs ≡ t.pairs
  pub figure : u.figure ≡ t.figure

abbrev still : {t : Table} → Still t t
still = record { population = refl; quorum = refl; ballot = refl; pairs = refl; figure = refl }

pub record Guarded (t u : Table) (f : Fed) : Type 0 where
  pub peer : ℕ
  pub number : ℕ
  pub bar : ℕ
  pub fed : f ≡ accepted peer number bar
  pub alter : alters t peer (pair number bar) ≡ true
  pub next : u ≡ guarded peer (pair number bar) t

abbrev fed_of : Call → Bool → Fed
fed_of c b = record { call = c; taken = b }

still_unless : {t : Table} (u : Table) (x : Bool) → not x ≡ true → Still t (if x then u else t)
still_unless u true h = let z : ◌≡◌ {A = ℕ} 0 1 = cc in absurd (omega arith)
still_unless u false h = still

turn : (t : Table) (c : Call) (b : Bool) → not (b && changes t c) ≡ true → Still t (feed t (fed_of c b)) ⊎ Guarded t (feed t (fed_of c b)) (fed_of c b)
unfolding hear
turn t c false h = inl still
turn t (Heartbeat peer ballot conf commit exec snap) true h = inl (still_unless (adopting ballot conf t) (adopts t peer ballot conf) h)
turn t (Guard peer number bar) true h = go (alters t peer (pair number bar)) refl
  where
    go : (a : Bool) → alters t peer (pair number bar) ≡ a
        → Still t (if a then guarded peer (pair number bar) t else t) ⊎ Guarded t (if a then guarded peer (pair number bar) t else t) (accepted peer number bar)
    go true e = inr (record { peer = peer; number = number; bar = bar; fed = refl; alter = e; next = refl })
    go false e = inl still
turn t (Prepared ballot) true h = inl still
turn t (Record slot ballot reqs) true h = inl still
turn t (Reply peer slot ballot) true h = inl still
turn t (Notice peer slot ballot) true h = inl (still_unless (raised ballot t) (raises t slot ballot) h)
turn t (CommitNotice peer ballot bar) true h = inl still
turn t (Bars start accept commit exec) true h = inl (record { population = refl; quorum = refl; ballot = refl; pairs = refl; figure = refl })
turn t (Read leases q) true h = inl still
turn t (Release slot) true h = inl still

-- ---- one call

abbrev pub at : Table → ℕ → Pair
at t k = get_or t.pairs k (pair 0 beyond)

-- the pairs and the figure as they were, or another pair and the figure worked out
abbrev pub Figured : Table → Table → Type 0
Figured t u =
    ((u.pairs ≡ t.pairs) × (u.figure ≡ t.figure))
    ⊎ ((u.figure ≡ figure_of t.quorum t.ballot u.pairs) × ((k : ℕ) × (beats (at u k) (at t k) ≡ true)))

-- what calls, of which each accepted guard is in `In`, do to a table
pub record GuardsOnly (In : Fed → Type 0) (t u : Table) : Type 0 where
  pub population : u.population ≡ t.population
  pub quorum : u.quorum ≡ t.quorum
  pub ballot : u.ballot ≡ t.ballot
  pub size : length u.pairs ≡ length t.pairs
  pub grows : (k : ℕ) → Upto (at t k) (at u k)
  pub comes : (k : ℕ) → (at u k ≡ at t k) ⊎ ((number : ℕ) × (bar : ℕ) × In (accepted k number bar) × (at u k ≡ pair number bar))
  pub figured : Figured t u

still_turned : {t u : Table} (f : Fed) → Still t u → GuardsOnly (λ g. g ≡ f) t u
still_turned {t} {u} f s =
    record {
      population = s.population;
      quorum = s.quorum;
      ballot = s.ballot;
      size = ap length s.pairs;
      grows = λ k. rw s.pairs (upto_refl (at t k));
      comes = λ k. inl (ap (λ (l : List Pair). get_or l k (pair 0 beyond)) s.pairs);
      figured = inl (s.pairs, s.figure);
    }

module _ (t : Table) (peer number bar : ℕ) (inside : peer < length t.pairs) (alter : alters t peer (pair number bar) ≡ true) where
  here : at (guarded peer (pair number bar) t) peer ≡ pair number bar
  here = get_or-set_same t.pairs peer (pair number bar) (pair 0 beyond) inside

  there : (k : ℕ) → (k ≡ peer → ⊥) → at (guarded peer (pair number bar) t) k ≡ at t k
  there k n = get_or-set_other t.pairs peer k (pair number bar) (pair 0 beyond) n

  guarded_grows : (k : ℕ) (b : Bool) → eqb k peer ≡ b → Upto (at t k) (at (guarded peer (pair number bar) t) k)
  guarded_grows k true e = rw (eqb-true k peer e) (rw here (upto_beats (pair number bar) (at t peer) alter))
  guarded_grows k false e = rw (there k (eqb-false k peer e)) (upto_refl (at t k))

  guarded_comes : (k : ℕ) (b : Bool) → eqb k peer ≡ b
      → (at (guarded peer (pair number bar) t) k ≡ at t k)
      ⊎ ((n : ℕ) × (m : ℕ) × (accepted k n m ≡ accepted peer number bar) × (at (guarded peer (pair number bar) t) k ≡ pair n m))
  guarded_comes k true e = inr (number, bar, ap (λ (x : ℕ). accepted x number bar) (eqb-true k peer e), rw (eqb-true k peer e) here)
  guarded_comes k false e = inl (there k (eqb-false k peer e))

  guarded_turned : GuardsOnly (λ g. g ≡ accepted peer number bar) t (guarded peer (pair number bar) t)
  guarded_turned =
      record {
        population = refl;
        quorum = refl;
        ballot = refl;
        size = length-set t.pairs peer (pair number bar);
        grows = λ k. guarded_grows k (eqb k peer) refl;
        comes = λ k. guarded_comes k (eqb k peer) refl;
        figured = inr (refl, (peer, rw here alter));
      }

abbrev pub Inside : Table → (Fed → Type 0) → Type 0
Inside t In = (peer number bar : ℕ) → In (accepted peer number bar) → peer < length t.pairs

turned : (t : Table) (f : Fed) → not (f.taken && changes t f.call) ≡ true → Inside t (λ g. g ≡ f) → GuardsOnly (λ g. g ≡ f) t (feed t f)
turned t f h i = go (turn t f.call f.taken h)
  where
    go : Still t (feed t f) ⊎ Guarded t (feed t f) f → GuardsOnly (λ g. g ≡ f) t (feed t f)
    go (inl s) = still_turned f s
    go (inr g) =
        rw g.next
        (rw g.fed
        (guarded_turned t g.peer g.number g.bar (i g.peer g.number g.bar (sym g.fed)) g.alter))

-- an accepted guard is not above what stands after it
covered : (t : Table) (k number bar : ℕ) → k < length t.pairs → Upto (pair number bar) (at (feed t (accepted k number bar)) k)
unfolding hear
covered t k number bar h = go (alters t k (pair number bar)) refl
  where
    go : (b : Bool) → alters t k (pair number bar) ≡ b → Upto (pair number bar) (at (if b then guarded k (pair number bar) t else t) k)
    go true e = rw (here t k number bar h e) (upto_refl (pair number bar))
    go false e = upto (pair number bar) (at t k) e

-- ---- one call and the calls after it

module _ {t u v : Table} {f : Fed} {fs : List Fed} (a : GuardsOnly (λ g. g ≡ f) t u) (b : GuardsOnly (λ g. Memᴰ g fs) u v) where
  both_come : (k : ℕ) → (at v k ≡ at t k) ⊎ ((number : ℕ) × (bar : ℕ) × Memᴰ (accepted k number bar) (f ∷ fs) × (at v k ≡ pair number bar))
  both_come k = go (a.comes k) (b.comes k)
    where
      go : (at u k ≡ at t k) ⊎ ((number : ℕ) × (bar : ℕ) × (accepted k number bar ≡ f) × (at u k ≡ pair number bar))
          → (at v k ≡ at u k) ⊎ ((number : ℕ) × (bar : ℕ) × Memᴰ (accepted k number bar) fs × (at v k ≡ pair number bar))
          → (at v k ≡ at t k) ⊎ ((number : ℕ) × (bar : ℕ) × Memᴰ (accepted k number bar) (f ∷ fs) × (at v k ≡ pair number bar))
      go x (inr y) = inr (y.0, y.1, Memᴰ.tail y.2, y.3)
      go (inl x) (inl y) = inl (y ∙ x)
      go (inr x) (inl y) = inr (x.0, x.1, Memᴰ.head x.2, y ∙ x.3)

  both_figured : Figured t v
  both_figured = go a.figured b.figured
    where
      worked : v.figure ≡ figure_of u.quorum u.ballot v.pairs → v.figure ≡ figure_of t.quorum t.ballot v.pairs
      worked e = rw (← a.quorum, ← a.ballot) e

      go : Figured t u → Figured u v → Figured t v
      go (inl x) (inl y) = inl (y.0 ∙ x.0, y.1 ∙ x.1)
      go (inl x) (inr y) = inr (worked y.0, (y.1.0, rw (← x.0) y.1.1))
      go (inr x) (inl y) =
          inr (y.1 ∙ x.0 ∙ ap (figure_of t.quorum t.ballot) (sym y.0), (x.1.0, beats_upto _ _ _ x.1.1 (b.grows x.1.0)))
      go (inr x) (inr y) = inr (worked y.0, (x.1.0, beats_upto _ _ _ x.1.1 (b.grows x.1.0)))

  both : GuardsOnly (λ g. Memᴰ g (f ∷ fs)) t v
  both =
      record {
        population = b.population ∙ a.population;
        quorum = b.quorum ∙ a.quorum;
        ballot = b.ballot ∙ a.ballot;
        size = b.size ∙ a.size;
        grows = λ k. upto_trans (a.grows k) (b.grows k);
        comes = both_come;
        figured = both_figured;
      }

-- ---- a list of calls

abbrev pub InsideAll : Table → List Fed → Type 0
InsideAll t fs = Inside t (λ g. Memᴰ g fs)

pub all_turned : (t : Table) (fs : List Fed) → quiet t fs ≡ true → InsideAll t fs → GuardsOnly (λ g. Memᴰ g fs) t (feed_all t fs)
unfolding quiet feed_all
all_turned t [] h i =
    record {
      population = refl;
      quorum = refl;
      ballot = refl;
      size = refl;
      grows = λ k. upto_refl (at t k);
      comes = λ k. inl refl;
      figured = inl (refl, refl);
    }
all_turned t (f ∷ fs) h i =
    let a = turned t f (and_both _ _ h).0 (λ p n m e. i p n m (Memᴰ.head e)) in
    both a (all_turned (feed t f) fs (and_both (not (f.taken && changes t f.call)) _ h).1 (λ p n m e. rw a.size (i p n m (Memᴰ.tail e))))

pub all_covered : (t : Table) (fs : List Fed) → quiet t fs ≡ true → InsideAll t fs
    → (k number bar : ℕ) → Memᴰ (accepted k number bar) fs → Upto (pair number bar) (at (feed_all t fs) k)
unfolding quiet feed_all
all_covered t [] h i k number bar m = absurd (Memᴰ.not-nil m)
all_covered t (f ∷ fs) h i k number bar m =
    let a = turned t f (and_both _ _ h).0 (λ p n b e. i p n b (Memᴰ.head e)) in
    let h' = (and_both (not (f.taken && changes t f.call)) (quiet (feed t f) fs) h).1 in
    let i' : InsideAll (feed t f) fs = λ p n b e. rw a.size (i p n b (Memᴰ.tail e)) in
    ⊎_elim
    (λ e. upto_trans (rw (← e) (covered t k number bar (i k number bar m))) ((all_turned (feed t f) fs h' i').grows k))
    (λ e. all_covered (feed t f) fs h' i' k number bar e)
    (Memᴰ.cases_cons m)

-- ---- two lists of calls with the same accepted guards

module _ (t : Table) (fs gs : List Fed) (qf : quiet t fs ≡ true) (qg : quiet t gs ≡ true) (jf : InsideAll t fs) (jg : InsideAll t gs)
    (part : (k number bar : ℕ) → Mem (accepted k number bar) fs → Mem (accepted k number bar) gs) where
  below : (k : ℕ) → Upto (at (feed_all t fs) k) (at (feed_all t gs) k)
  below k = ⊎_elim
      (λ e. rw e ((all_turned t gs qg jg).grows k))
      (λ e. rw e.3
      (upto (pair e.0 e.1) (at (feed_all t gs) k)
      (∥∥₁_elim (part k e.0 e.1 ∣ e.2 ∣₁) (Bool-set _ _)
      (λ m. not_beats (pair e.0 e.1) (at (feed_all t gs) k) (all_covered t gs qg jg k e.0 e.1 m)))))
      ((all_turned t fs qf jf).comes k)

module _ (t : Table) (fs gs : List Fed) (qf : quiet t fs ≡ true) (qg : quiet t gs ≡ true) (jf : InsideAll t fs) (jg : InsideAll t gs) (same : SameGuards fs gs) where
  same_pairs : (feed_all t fs).pairs ≡ (feed_all t gs).pairs
  same_pairs =
      ext_get_or (pair 0 beyond) (feed_all t fs).pairs (feed_all t gs).pairs
      ((all_turned t fs qf jf).size ∙ sym (all_turned t gs qg jg).size)
      (λ k h. upto_both _ _ (below t fs gs qf qg jf jg (λ p n b. (same p n b).0) k) (below t gs fs qg qf jg jf (λ p n b. (same p n b).1) k))

  pub same_figure : (feed_all t fs).figure ≡ (feed_all t gs).figure
  same_figure = go (all_turned t fs qf jf).figured (all_turned t gs qg jg).figured
    where
      -- a pair that has changed in one has changed in the other
      no_change : (u v : Table) → u.pairs ≡ v.pairs → v.pairs ≡ t.pairs → (k : ℕ) → beats (at u k) (at t k) ≡ true → ⊥
      no_change u v p q k h = let z : true ≡ false = sym h ∙ rw (p, q) (beats_self (at t k)) in true≢false z

      go : Figured t (feed_all t fs) → Figured t (feed_all t gs) → (feed_all t fs).figure ≡ (feed_all t gs).figure
      go (inl x) (inl y) = x.1 ∙ sym y.1
      go (inl x) (inr y) = absurd (no_change (feed_all t gs) (feed_all t fs) (sym same_pairs) x.0 y.1.0 y.1.1)
      go (inr x) (inl y) = absurd (no_change (feed_all t fs) (feed_all t gs) same_pairs y.0 x.1.0 x.1.1)
      go (inr x) (inr y) = x.0 ∙ ap (figure_of t.quorum t.ballot) same_pairs ∙ sym y.0
