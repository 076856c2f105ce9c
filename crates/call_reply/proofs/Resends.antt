-- The Accepts that are sent again, slot by slot.
use mathlib.Core.Path.{◌≡◌, refl, sym, ap, ◌∙◌}
use mathlib.Core.Bool.{Bool, true}
use Rattle.std.specs.Prelude.{if◌then◌else◌}
use borrow.Author.Tests.{lt-ltb}
use mathlib.Core.List.{List, [], ◌∷◌, append-nil}
use Prim.Native.Nat.{ℕ, suc, ◌+◌, ◌-◌, ◌*◌, ◌%◌, ◌≤◌, ◌<◌}
use native.Mathlib.Omega.{arith}
use lib.ListN.{length}
use Rattle.words.specs.Writes.{writes, writes_append, length_writes}
use Rattle.layout.specs.Layout.{slot_places}
use Rattle.items.specs.Item.{Item, Resend, item_words, encode, places, length_encode, encode_append}
use Rattle.items.specs.Area.{Put, put_item}
use Rattle.items.proofs.Laws.{put_area}
use Rattle.insts.specs.Slots.{short_at}
use Rattle.call_reply.specs.declared.Missed.{Missed}
use Rattle.call_reply.specs.declared.Missed.TheVariants.{Skip, Stop, Send}
use Rattle.call_reply.specs.Resends.{missed_of, and_more, resends_of}

-- ---- items written

pub none_written : (area : List ℕ) (at : ℕ) → area ≡ writes area at (encode [])
unfolding encode
none_written area at = refl

pub put_one : (area : List ℕ) (place : ℕ) (x : Item) (t : Bool) (after : List ℕ) → place < places area → ◌≡◌ {A = Put} (record { taken = t; area = after }) (put_item area place x)
    → after ≡ writes area (place * 6) (encode (x ∷ []))
unfolding encode
put_one area place x t after h p = ap (λ (q : Put). q.area) p ∙ put_area area place x h ∙ ap (writes area (place * 6)) (sym (append-nil (item_words x)))

-- ---- the slots, one after the other

pub no_resend : (s : List ℕ) (commit peer prepared : ℕ) → resends_of s commit peer prepared 0 ≡ []
unfolding resends_of
no_resend s commit peer prepared = refl

module _ (s : List ℕ) (commit peer prepared : ℕ) where
  abbrev rest : ℕ → List Item
  rest to = resends_of s commit peer prepared (to - commit)

  pub ended : (to : ℕ) → to ≤ commit → rest to ≡ []
  ended to h =
      let z : to - commit ≡ 0 = omega arith in ap (resends_of s commit peer prepared) z ∙ no_resend s commit peer prepared

  -- the last of the slots up to one, and those that are left
  module _ (to : ℕ) (h : commit < to) where
    abbrev found : Missed
    found = missed_of (short_at s ((to - 1) % slot_places)) peer prepared

    last_first : (q : Missed) → q ≡ found → rest to ≡ and_more q (to - 1) peer (rest (to - 1))
    unfolding resends_of
    last_first q e =
        let z : to - commit ≡ suc (to - 1 - commit) = omega arith in
        let w : commit + (to - 1 - commit) ≡ to - 1 = omega arith in
        ap (resends_of s commit peer prepared) z
        ∙ ap (λ (j : ℕ). and_more (missed_of (short_at s (j % slot_places)) peer prepared) j peer (rest (to - 1))) w
        ∙ ap (λ (x : Missed). and_more x (to - 1) peer (rest (to - 1))) (sym e)

    pub skipped : Skip ≡ found → rest to ≡ rest (to - 1)
    skipped e = last_first Skip e

    pub stopped : Stop ≡ found → rest to ≡ []
    stopped e = last_first Stop e

    pub sent : Send ≡ found → rest to ≡ Resend (to - 1) peer ∷ rest (to - 1)
    sent e = last_first Send e

  module _ (area whole : List ℕ) (place to : ℕ) (g : writes area (place * 6) (encode (rest to)) ≡ whole) where
    pub put_end : rest to ≡ [] → area ≡ whole
    put_end e = none_written area (place * 6) ∙ ap (λ (l : List Item). writes area (place * 6) (encode l)) (sym e) ∙ g

    pub put_same : rest to ≡ rest (to - 1) → writes area (place * 6) (encode (rest (to - 1))) ≡ whole
    put_same e = ap (λ (l : List Item). writes area (place * 6) (encode l)) (sym e) ∙ g

    pub put_step : (x : Item) (t : Bool) (after : List ℕ) → rest to ≡ x ∷ rest (to - 1) → place < places area → ◌≡◌ {A = Put} (record { taken = t; area = after }) (put_item area place x)
        → (length after ≡ length area) × (writes after ((place + 1) * 6) (encode (rest (to - 1))) ≡ whole)
    put_step x t after e h p =
        let put : after ≡ writes area (place * 6) (encode (x ∷ [])) = put_one area place x t after h p in
        let z : (place + 1) * 6 ≡ place * 6 + length (encode (x ∷ [])) = omega (arith, length_encode (x ∷ [])) in (
          ap length put ∙ length_writes area (place * 6) (encode (x ∷ [])),
          ap (λ (a : List ℕ). writes a ((place + 1) * 6) (encode (rest (to - 1)))) put
              ∙ ap (λ (j : ℕ). writes (writes area (place * 6) (encode (x ∷ []))) j (encode (rest (to - 1)))) z
              ∙ writes_append area (place * 6) (encode (x ∷ [])) (encode (rest (to - 1)))
              ∙ ap (writes area (place * 6)) (sym (encode_append (x ∷ []) (rest (to - 1))) ∙ ap encode (sym e)) ∙ g,
        )

-- a push that has room
pub pushed : (area : List ℕ) (count : ℕ) (x : Item) (t : Bool) (after : List ℕ) (n : ℕ) → count < places area → ◌≡◌ {A = Put} (record { taken = t; area = after }) (put_item area count x)
    → n ≡ count + (if t then 1 else 0) → n ≡ count + 1
unfolding put_item
pushed area count x t after n h p e =
    let q : ◌≡◌ {A = Put} (record { taken = t; area = after }) (record { taken = true; area = writes area (count * 6) (item_words x) }) = p ∙ rw (lt-ltb count (places area) h) refl in
    e ∙ ap (λ (y : Put). count + (if y.taken then 1 else 0)) q
