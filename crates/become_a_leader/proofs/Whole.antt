-- The parts of a step-up one after the other.
use mathlib.Core.Path.{◌≡◌, refl, sym, ap, ◌∙◌}
use Rattle.std.specs.Prelude.{if◌then◌else◌}
use mathlib.Core.Bool.{Bool, true}
use mathlib.Core.List.{List, [], ◌∷◌, ◌++◌}
use Rattle.std.specs.Prelude.{Option}
use Prim.Native.Nat.{ℕ, ◌+◌, ◌-◌, ◌*◌, ◌≤◌, ◌<◌}
use native.Mathlib.Omega.{arith}
use lib.ListN.{length, take, drop, length-append}
use Rattle.words.specs.Writes.{writes, length_writes}
use Rattle.items.specs.Item.{Item, Lead, Prepare, encode, places}
use Rattle.items.specs.Area.{Put, put_item}
use Rattle.items.proofs.Laws.{put_area, put_true}
use Rattle.bodega.specs.Replica.{Instance}
use Rattle.bodega.specs.Conflease.{first_open, last_open, any_open, prelogs}
use Rattle.bodega.specs.Heartbeat.{Walk}
use Rattle.insts.specs.Slots.{insts_of}
use Rattle.advance_commit_bar.proofs.Items.{items_then}
use Rattle.become_a_leader.specs.StepUp.{prepared_anew, released_from, step_up, StepsUp, Opens, Passes}
use Rattle.become_a_leader.proofs.Open.{any_opened}
use Rattle.become_a_leader.proofs.Lists.{ends, step_opened, step_some}

pub is_open : (start n : ℕ) (s : List ℕ) (held : ℕ) (t : List ℕ) → Opens start n s held t → any_open (insts_of start held t) ≡ true
is_open start n s held t o = ap any_open o.insts ∙ any_opened (insts_of start n s)

-- held slots after a null one is appended where none is open, in the words t; the first and the last open one of them
module _ (place start n quorum : ℕ) (leader : Option ℕ) (ballot : ℕ) (s area : List ℕ) (held : ℕ) (t : List ℕ) (o : Opens start n s held t)
    (from to : ℕ) (f : from ≡ first_open (insts_of start held t)) (g : to ≡ last_open (insts_of start held t) + 1) where
  abbrev l : List Instance
  l = insts_of start held t

  abbrev p : Walk
  p = prepared_anew start ballot l

  abbrev w : Walk
  w = released_from quorum leader (to - from) (drop from p.insts)

  abbrev all : List Item
  all = Lead true ∷ p.items ++ w.items ++ (Prepare (start + from) ballot ∷ [])

  step_is : step_up start quorum leader ballot (insts_of start n s) ≡ record { insts = take from p.insts ++ w.insts; items = all }
  step_is =
      sym (step_opened start quorum leader ballot (insts_of start n s)) ∙ ap (step_up start quorum leader ballot) (sym o.insts)
      ∙ step_some start quorum leader ballot l (is_open start n s held t o) from to f g

  count_is : length (step_up start quorum leader ballot (insts_of start n s)).items ≡ 2 + length p.items + length w.items
  count_is = ap (λ (v : Walk). length v.items) step_is ∙ ends (Lead true) (Prepare (start + from) ballot) p.items w.items

  module _ (room : place + length (step_up start quorum leader ballot (insts_of start n s)).items ≤ places area)
      (area₁ : List ℕ) (b : Bool) (e : ◌≡◌ {A = Put} (record { taken = b; area = area₁ }) (put_item area place (Lead true))) where
    lead_put : area₁ ≡ writes area (place * 6) (encode (Lead true ∷ []))
    unfolding encode
    lead_put = ap (λ (x : Put). x.area) e ∙ put_area area place (Lead true) (omega (arith, count_is))

    long₁ : length area₁ ≡ length area
    long₁ = ap length lead_put ∙ length_writes area (place * 6) (encode (Lead true ∷ []))

    pub lead_counted : (r : ℕ) → r ≡ place + (if b then 1 else 0) → r ≡ place + 1
    lead_counted r q = q ∙ ap (λ (v : Bool). place + (if v then 1 else 0)) (ap (λ (x : Put). x.taken) e ∙ put_true area place (Lead true) (omega (arith, count_is)))

    pub prelog_room : place + 1 + length (prelogs start l) ≤ places area₁
    prelog_room = rw long₁ (omega (arith, count_is))

    module _ (r : ℕ) (t₁ area₂ : List ℕ) (q : Passes p (place + 1) start held 0 t area₁ r t₁ area₂) where
      prelogs_put : area₂ ≡ writes area (place * 6) (encode (Lead true ∷ p.items))
      prelogs_put = q.items ∙ ap (λ (a : List ℕ). writes a ((place + 1) * 6) (encode p.items)) lead_put ∙ items_then area place (place + 1) (Lead true ∷ []) p.items refl

      long₂ : length area₂ ≡ length area
      long₂ = ap length prelogs_put ∙ length_writes area (place * 6) (encode (Lead true ∷ p.items))

      same_items : length (released_from quorum leader (to - from) (drop from (insts_of start held t₁))).items ≡ length w.items
      same_items = ap (λ (x : List Instance). length (released_from quorum leader (to - from) (drop from x)).items) q.insts

      pub release_room : r + length (released_from quorum leader (to - from) (drop from (insts_of start held t₁))).items ≤ places area₂
      release_room = rw long₂ (omega (arith, count_is, same_items, q.next))

      module _ (r₂ : ℕ) (t₂ area₃ : List ℕ) (v : Passes (released_from quorum leader (to - from) (drop from (insts_of start held t₁))) r start held from t₁ area₂ r₂ t₂ area₃) where
        next_is : r₂ ≡ place + 1 + length p.items + length w.items
        next_is = omega (arith, v.next, q.next, same_items)

        answers_put : area₃ ≡ writes area (place * 6) (encode (Lead true ∷ p.items ++ w.items))
        answers_put =
            v.items
            ∙ ap (λ (x : List Instance). writes area₂ (r * 6) (encode (released_from quorum leader (to - from) (drop from x)).items)) q.insts
            ∙ ap (λ (a : List ℕ). writes a (r * 6) (encode w.items)) prelogs_put
            ∙ items_then area place r (Lead true ∷ p.items) w.items (omega (arith, q.next))

        long₃ : length area₃ ≡ length area
        long₃ = ap length answers_put ∙ length_writes area (place * 6) (encode (Lead true ∷ p.items ++ w.items))

        end_room : r₂ < places area
        end_room = omega (arith, count_is, next_is)

        long_answers : length (Lead true ∷ p.items ++ w.items) ≡ 1 + length p.items + length w.items
        long_answers = omega (arith, length-append (Lead true ∷ p.items) w.items)

        pub steps_up : (r₃ : ℕ) (area₄ : List ℕ) (c : Bool) → ◌≡◌ {A = Put} (record { taken = c; area = area₄ }) (put_item area₃ r₂ (Prepare (start + from) ballot)) → r₃ ≡ r₂ + (if c then 1 else 0)
            → StepsUp place start n quorum leader ballot s area r₃ t₂ area₄
        unfolding encode
        steps_up r₃ area₄ c d q₃ =
            record {
              next =
                  (let k : r₃ ≡ r₂ + 1 =
                  q₃ ∙ ap (λ (v : Bool). r₂ + (if v then 1 else 0)) (ap (λ (x : Put). x.taken) d ∙ put_true area₃ r₂ (Prepare (start + from) ballot) (rw long₃ end_room)) in
                  omega (arith, count_is, next_is));
              items =
                  ap (λ (x : Put). x.area) d ∙ put_area area₃ r₂ (Prepare (start + from) ballot) (rw long₃ end_room)
                  ∙ ap (λ (a : List ℕ). writes a (r₂ * 6) (encode (Prepare (start + from) ballot ∷ []))) answers_put
                  ∙ items_then area place r₂ (Lead true ∷ p.items ++ w.items) (Prepare (start + from) ballot ∷ []) (omega (arith, next_is, long_answers))
                  ∙ sym (ap (λ (x : Walk). writes area (place * 6) (encode x.items)) step_is);
              insts =
                  ap (λ (k : ℕ). insts_of start k t₂) (sym o.count) ∙ v.insts
                  ∙ ap (λ (x : List Instance). take from x ++ (released_from quorum leader (to - from) (drop from x)).insts) q.insts
                  ∙ sym (ap (λ (x : Walk). x.insts) step_is);
              size = v.size ∙ q.size ∙ o.size;
            }
