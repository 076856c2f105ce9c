-- *heartbeat*: its parts one after the other, and the one statement for a call that a roster may be attached to.
use Rattle.std.specs.Prelude.{if◌then◌else◌, Option, None, Some, Result, Ok, Err, IsErrAnd}
use mathlib.Core.Path.{◌≡◌, refl, sym, ap, ◌∙◌}
use mathlib.Core.Bool.{Bool, true, false, ◌&&◌, ◌||◌}
use mathlib.Core.List.{List}
use Prim.Native.Nat.{ℕ, ◌+◌, ◌*◌, ◌≤◌, ◌<◌}
use native.Mathlib.Nat.{zero-add}
use native.Mathlib.Omega.{arith}
use lib.Dec.{leb}
use lib.ListN.{length, length-append}
use borrow.Author.Tests.{lt-ltb, le-ltb, le-leb, leb-false}
use Rattle.layout.specs.Layout.{slots_at, slot_words}
use Rattle.words.specs.Writes.{length_writes}
use Rattle.words.specs.Part.{part}
use Rattle.ids.specs.Leader.{leader_of}
use Rattle.ids.specs.Refusal.{number_of}
use Rattle.ids.specs.declared.Refusal.{Refusal}
use Rattle.ids.specs.declared.Refusal.TheVariants.{NotReady, WindowFull, AreaTooSmall}
use Rattle.items.specs.Item.{encode, places}
use Rattle.items.specs.Area.{HasRoom}
use Rattle.roster_conf.specs.Conf.{Conf, leads}
use Rattle.roster_conf.specs.Edits.{view as roster_of}
use Rattle.roster_conf.specs.declared.RespondersConf.{RespondersConf}
use Rattle.bodega.specs.Replica as machine
use Rattle.bodega.specs.Replica.{◌and_then◌}
use Rattle.bodega.specs.Conflease.{any_open, heard_new_conf}
use Rattle.bodega.specs.Heartbeat.{heard_bars}
use Rattle.bodega.specs.Grounds.{far, foreign_leader, no_room, grounds}
use Rattle.bodega.specs.Step.{Step, Refused, Taken, effect}
use Rattle.bodega.specs.Answers.{Given, due, Follows, Answers}
use Rattle.insts.proofs.Laws.{length_insts}
use Rattle.advance_commit_bar.proofs.Items.{items_then}
use Rattle.node.specs.declared.Node.{Node}
use Rattle.node.specs.declared.Taken as node
use Rattle.node.specs.View.{view, ready, given_of, lowest, leads_it}
use Rattle.node.proofs.Calls.{is_ready, number-not-0, refused_by, few_places, taken_with, taken_by, none_applies}
use Rattle.become_a_leader.specs.StepUp.{slots_after}
use Rattle.heard_new_conf.specs.Does.{Does, whole}
use Rattle.call_heartbeat.proofs.Refusals.{before_15, number_15}
use Rattle.call_heartbeat.proofs.Machine.{effect_is, me_same, none_count, leading_count, following_count, both_count}
use Rattle.call_heartbeat.specs.Heartbeat.{fitting, carried, early, installed, appending, conf_by, heard_by, Installable}

-- ---- the items counted

module _ (n : Node) (m : List ℕ) (peer ballot commit exec snap : ℕ) where
  abbrev Counts : Option RespondersConf → ℕ → Type 0
  Counts o r = (rows : List ℕ) → r ≡ length (heard_by (carried o rows) peer ballot commit exec snap (view n m)).items

  pub bars_only : (o : Option RespondersConf) → o ≡ None → (k : ℕ) → k ≡ length (heard_bars peer ballot commit exec snap (view n m)).items → Counts o k
  bars_only o f k e rows = rw f (e ∙ sym (ap length (none_count peer ballot commit exec snap (view n m))))

  module _ (o : Option RespondersConf) (c : RespondersConf) (f : o ≡ Some c) (t : Bool) (g : t ≡ leads_it (leader_of c.leader) n.id.0) where
    leads_is : (rows : List ℕ) → leads (roster_of c rows) (view n m).me.id ≡ t
    unfolding view roster_of
    leads_is rows = sym g

    pub step_up_count : t ≡ true → (k : ℕ) → ((b : ℕ) (rows : List ℕ) → k ≡ length (heard_new_conf (view n m) b (roster_of c rows)).items) → Counts o k
    step_up_count h k e rows =
        rw f (e ballot rows ∙ sym (ap length (leading_count peer ballot commit exec snap (view n m) (roster_of c rows) (leads_is rows ∙ h))))

    pub bars_count : t ≡ false → (k : ℕ) → k ≡ length (heard_bars peer ballot commit exec snap (view n m)).items → Counts o k
    bars_count h k e rows =
        rw f (e ∙ sym (ap length (following_count peer ballot commit exec snap (view n m) (roster_of c rows) (leads_is rows ∙ h))))

-- ---- the roster

module _ (n : Node) (m area : List ℕ) (y : ready n m ≡ true) (ballot : ℕ) (o : Option RespondersConf) (rows : List ℕ) (place : ℕ) where
  pub conf_same : o ≡ None → Does (conf_by (carried o rows) ballot (view n m)) place m area n place m area
  unfolding encode
  conf_same f = rw f (record { count = (let z : place ≡ place + 0 = omega arith in z); next = refl; items = refl; size = refl; beyond = λ j l. refl; ready_again = y })

  module _ (c : RespondersConf) (f : o ≡ Some c) where
    pub conf_room : Installable n m o rows → place + length (conf_by (carried o rows) ballot (view n m)).items ≤ places area
        → (ready n m ≡ true) × (whole c.count rows ≡ true) × (leads (roster_of c rows) n.id.0 ≡ true → slots_after n.slots (view n m).insts ≤ 32)
        × (place + length (heard_new_conf (view n m) ballot (roster_of c rows)).items ≤ places area)
    conf_room q p = (y, (let w = q.roster in rw f at w), q.room c f, rw f at p)

    pub conf_does : (g : Node) (r : ℕ) (m' area' : List ℕ) → Does (heard_new_conf (view n m) ballot (roster_of c rows)) place m area g r m' area'
        → Does (conf_by (carried o rows) ballot (view n m)) place m area g r m' area'
    conf_does g r m' area' x = rw f x

-- ---- one part after the other

does_then : {d : machine.Done} (f : machine.Replica → machine.Done) {place k j : ℕ} {m area m₁ area₁ m₂ area₂ : List ℕ} {g h : Node}
    → Does d place m area g k m₁ area₁ → Does (f (view g m₁)) k m₁ area₁ h j m₂ area₂
    → Does (d and_then f) place m area h j m₂ area₂
does_then {d = d} f {place = place} {k = k} {area = area} a b =
    record {
      count = (let z = a.count in let w = b.count in let v = ap (λ (r : machine.Replica). length (f r).items) a.next in omega (arith, length-append d.items (f d.replica).items));
      next = b.next ∙ ap (λ (r : machine.Replica). (f r).replica) a.next;
      items = b.items ∙ rw (a.items, a.next) (items_then area place k d.items (f d.replica).items a.count);
      size = b.size ∙ a.size;
      beyond = λ j l. b.beyond j l ∙ a.beyond j l;
      ready_again = b.ready_again;
    }

module _ (n : Node) (m area : List ℕ) (peer ballot : ℕ) (conf : Option Conf) (commit exec snap place : ℕ) (p : peer < n.population)
    (o : place + length (heard_by conf peer ballot commit exec snap (view n m)).items ≤ places area) where
  abbrev first : machine.Done
  first = conf_by conf ballot (view n m)

  total : length (heard_by conf peer ballot commit exec snap (view n m)).items ≡ length first.items + length (heard_bars peer ballot commit exec snap first.replica).items
  total = both_count conf peer ballot commit exec snap (view n m)

  pub first_room : place + length first.items ≤ places area
  first_room = omega (arith, total, o)

  module _ (g : Node) (k : ℕ) (m₁ area₁ : List ℕ) (x : Does first place m area g k m₁ area₁) where
    members : g.population ≡ n.population
    unfolding view
    members = ap (λ (r : machine.Replica). r.me.population) x.next ∙ ap (λ (z : machine.Me). z.population) (me_same conf ballot (view n m))

    same_places : places area₁ ≡ places area
    same_places = ap places x.items ∙ rw (length_writes area (place * 6) (encode first.items))

    pub then_room : (ready g m₁ ≡ true) × (peer < g.population) × (k + length (heard_bars peer ballot commit exec snap (view g m₁)).items ≤ places area₁)
    then_room = (x.ready_again, rw members p, rw (same_places, x.next) (let c = x.count in omega (arith, total, o)))

    pub heard_does : (h : Node) (j : ℕ) (m₂ area₂ : List ℕ) → Does (heard_bars peer ballot commit exec snap (view g m₁)) k m₁ area₁ h j m₂ area₂
        → Does (heard_by conf peer ballot commit exec snap (view n m)) place m area h j m₂ area₂
    unfolding heard_by
    heard_does h j m₂ area₂ z = does_then (heard_bars peer ballot commit exec snap) x z

-- ---- the one statement, where more than the node and the buffer is tested for refusal 2

module _ (call : machine.Call) (n : Node) (m area : List ℕ) (b : Bool) where
  abbrev both : Node → List ℕ → Bool
  both x y = ready x y && b

  unready : both n m ≡ false → Answers both view call n m area (given_of n (Err NotReady)) m area
  unfolding due
  unready e = rw e (record { number = refl; count = refl; same_node = refl; same_mem = refl; same_area = refl })

  module _ (z : b ≡ true) where
    both_is : (x : Node) (y : List ℕ) → both x y ≡ ready x y
    both_is x y = ap (λ (k : Bool). ready x y && k) z ∙ go (ready x y)
      where
        go : (k : Bool) → k && true ≡ k
        go true = refl
        go false = refl

    follow : (s : Step) (g : Given Node) (m' area' : List ℕ) → Follows ready view s n m area g m' area' → Follows both view s n m area g m' area'
    follow (Refused k) g m' area' h = record { number = h.number; count = h.count; same_node = h.same_node; same_mem = h.same_mem; same_area = h.same_area }
    follow (Taken r l) g m' area' h =
        record { number = h.number; count = h.count; next = h.next; items = h.items; size = h.size; beyond = h.beyond; ready_again = both_is g.node m' ∙ h.ready_again }

    same_due : due both view call n m area ≡ due ready view call n m area
    unfolding due
    same_due = rw (both_is n m)

    answers_both : (g : Given Node) (m' area' : List ℕ) → Answers ready view call n m area g m' area' → Answers both view call n m area g m' area'
    answers_both g m' area' h = rw same_due (follow (due ready view call n m area) g m' area' h)

-- ---- the call

and_false : (a b : Bool) → b ≡ false → a && b ≡ false
and_false true b e = e
and_false false b e = refl

or_left : (a b : Bool) → a || b ≡ false → a ≡ false
or_left true b e = e
or_left false b e = refl

-- a step-up that 15 does not turn away has room
slots_left : (r : machine.Replica) (ballot : ℕ) (c : Conf) (k : ℕ) → length r.insts ≡ k → k ≤ 32 → r.bal.max_seen ≤ ballot
    → leads c r.me.id ≡ true → appending r ballot (Some c) && no_room r ≡ false → slots_after k r.insts ≤ 32
slots_left r ballot c k e w h l s = go (any_open r.insts) refl
  where
    go : (o : Bool) → any_open r.insts ≡ o → slots_after k r.insts ≤ 32
    go true q = rw q w
    go false q =
        let a : appending r ballot (Some c) ≡ true = simp (le-leb r.bal.max_seen ballot h, l, q) in
        let n : no_room r ≡ false = ap (λ (x : Bool). x && no_room r) (sym a) ∙ s in
        let f = leb-false 32 (length r.insts) (or_left (leb 32 (length r.insts)) (far (machine.end r)) n) in
        rw q (omega (arith, f, e))

module _ (n : Node) (m area : List ℕ) (peer ballot : ℕ) (o : Option RespondersConf) (rows : List ℕ) (commit exec snap : ℕ) where
  abbrev conf : Option Conf
  conf = carried o rows

  abbrev beat : machine.Call
  beat = machine.Heartbeat peer ballot conf commit exec snap

  abbrev fits : Bool
  fits = fitting o rows

  abbrev Gives : Given Node → List ℕ → List ℕ → Type 0
  Gives g m' area' = Answers (λ x y. ready x y && fits) view beat n m area g m' area'

  pub not_ready : ready n m ≡ false → Gives (given_of n (Err NotReady)) m area
  not_ready e = unready beat n m area fits (rw e)

  pub not_fitting : fits ≡ false → Gives (given_of n (Err NotReady)) m area
  not_fitting e = unready beat n m area fits (and_false (ready n m) fits e)

  module _ (y : ready n m ≡ true) (fine : fits ≡ true) where
    pub beat_refused : (x : Refusal) (z : Result node.Taken Refusal) → number_of x ≡ lowest (early n.population n.bal_max_seen.0 peer ballot conf commit exec snap) → IsErrAnd z (λ u. u ≡ x)
        → Gives (given_of n z) m area
    beat_refused x z g w =
        answers_both beat n m area fits fine (given_of n z) m area
        (refused_by beat n m area true (sym y) refl x z (before_15 n m peer ballot conf commit exec snap (number_of x) g (number-not-0 x)) w)

    module _ (g : 0 ≡ lowest (early n.population n.bal_max_seen.0 peer ballot conf commit exec snap)) (i : Option Conf) (j : i ≡ installed (view n m) peer ballot conf) (s : Bool)
        (a : s ≡ appending (view n m) ballot i && no_room (view n m)) where
      told : (if s then 15 else 0) ≡ lowest (grounds (view n m) beat)
      told = number_15 n m peer ballot conf commit exec snap 0 g refl s (a ∙ ap (λ (k : Option Conf). appending (view n m) ballot k && no_room (view n m)) j)

      pub beat_15 : s ≡ true → Gives (given_of n (Err WindowFull)) m area
      beat_15 x =
          answers_both beat n m area fits fine (given_of n (Err WindowFull)) m area
          (refused_by beat n m area true (sym y) refl WindowFull (Err WindowFull) (sym (rw x) ∙ told) refl)

      module _ (x : s ≡ false) where
        allowed : 0 ≡ lowest (grounds (view n m) beat)
        allowed = sym (rw x) ∙ told

        pub lower_taken : ballot < n.bal_max_seen.0 → Gives (given_of n (Ok (record { node = n; count = 0 }))) m area
        unfolding view
        lower_taken h =
            answers_both beat n m area fits fine (given_of n (Ok (record { node = n; count = 0 }))) m area
            (taken_by beat n m allowed area true (sym y) refl (view n m) n m (effect_is (view n m) peer ballot conf commit exec snap ∙ rw (lt-ltb ballot n.bal_max_seen.0 h)) refl refl (λ j l. refl) y)

        module _ (h : n.bal_max_seen.0 ≤ ballot) where
          abbrev heard : machine.Done
          heard = heard_by i peer ballot commit exec snap (view n m)

          heard_is : effect (view n m) beat ≡ heard
          unfolding view
          heard_is = effect_is (view n m) peer ballot conf commit exec snap ∙ rw (le-ltb ballot n.bal_max_seen.0 h, ← j)

          below : peer < n.population
          unfolding grounds view
          below = leb-false n.population peer (or_left (leb n.population peer) (foreign_leader n.population conf) (none_applies beat n m allowed).1.0)

          held : length (view n m).insts ≡ n.slots
          unfolding view
          held = length_insts n.start_slot.0 n.slots (part m slots_at slot_words)

          seen_is : (view n m).bal.max_seen ≤ ballot
          unfolding view
          seen_is = h

          installable : (d : Option RespondersConf) → fitting d rows ≡ true → carried d rows ≡ i → Installable n m d rows
          unfolding view
          installable d w q =
              record {
                roster = w;
                room = λ c k l. slots_left (view n m) ballot (roster_of c rows) n.slots held (is_ready n m true (sym y) refl).window seen_is l
                    (ap (λ (z : Option Conf). appending (view n m) ballot z && no_room (view n m)) (sym (ap (λ (z : Option RespondersConf). carried z rows) k) ∙ q) ∙ sym a ∙ x);
              }

          module _ (q : ℕ) (p : q ≡ length heard.items) where
            pub beat_20 : (x : Refusal) (r : Result node.Taken Refusal) → HasRoom area q (Err x) → IsErrAnd r (λ v. v ≡ x) → Gives (given_of n r) m area
            beat_20 x r l e = answers_both beat n m area fits fine (given_of n r) m area (few_places beat n m allowed area true (sym y) refl x r (l.0, rw (heard_is, ← p) l.1) e)

            module _ (l : q ≤ places area) where
              pub beat_taken : (g : Node) (k : ℕ) (m' area' : List ℕ) → Does heard 0 m area g k m' area' → Gives (given_of n (Ok (record { node = g; count = k }))) m' area'
              beat_taken g k m' area' d =
                  answers_both beat n m area fits fine (given_of n (Ok (record { node = g; count = k }))) m' area'
                  (rw (d.count ∙ zero-add (length heard.items))
                  (taken_with beat n m allowed area true (sym y) refl heard.replica heard.items g m' area' heard_is (rw (← p) l) d.next d.items d.size d.beyond d.ready_again))

  -- what the parts of a heartbeat ask for
  pub heard_room : (y : ready n m ≡ true) (fine : fits ≡ true) (d : Option RespondersConf) → fitting d rows ≡ true
      → (g : 0 ≡ lowest (early n.population n.bal_max_seen.0 peer ballot conf commit exec snap)) (j : carried d rows ≡ installed (view n m) peer ballot conf) (s : Bool)
      (a : s ≡ appending (view n m) ballot (carried d rows) && no_room (view n m)) (x : s ≡ false) (h : n.bal_max_seen.0 ≤ ballot) (q : ℕ)
      (p : q ≡ length (heard_by (carried d rows) peer ballot commit exec snap (view n m)).items) → q ≤ places area
      → (ready n m ≡ true) × (peer < n.population) × Installable n m d rows × (0 + length (heard_by (carried d rows) peer ballot commit exec snap (view n m)).items ≤ places area)
  heard_room y fine d w g j s a x h q p l =
      (y, below y fine g (carried d rows) j s a x h, installable y fine g (carried d rows) j s a x h d w refl, rw (zero-add (length (heard_by (carried d rows) peer ballot commit exec snap (view n m)).items), ← p) l)
