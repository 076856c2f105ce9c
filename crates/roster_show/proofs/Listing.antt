-- The listing, span by span.
use mathlib.Core.Path.{◌≡◌, refl, sym, ap, ◌∙◌}
use mathlib.Core.Bool.{Bool, true, false}
use mathlib.Core.List.{List, ◌∷◌, ◌++◌, []}
use Prim.Native.Nat.{ℕ, suc, ◌+◌, ◌*◌, ◌≤◌, ◌<◌}
use native.Mathlib.Omega.{arith}
use lib.ListN.{length, length-append}
use borrow.Author.Tests.{lt-ltb, le-ltb}
use Rattle.words.specs.Writes.{writes, length_writes}
use Rattle.layout.specs.Layout.{roster_row}
use Rattle.items.specs.Item.{Item, Rest, encode, places}
use Rattle.items.specs.Area.{Put, put_item}
use Rattle.items.proofs.Laws.{put_after, put_true}
use Rattle.roster_ranges.specs.Range.{Range}
use Rattle.roster_map.specs.Rows.{range_at, ranges_of}
use Rattle.roster_map.proofs.Laws.{more_is, length_ranges}
use Rattle.roster_conf.specs.declared.RespondersConf.{RespondersConf}
use Rattle.roster_conf.specs.Edits.{view, holds_rows}
use Rattle.roster_show.specs.Show.{span_of, spans_of, show, Listing, listing}
use Rattle.std.specs.Prelude.{Ok, Err, if◌then◌else◌}
use Rattle.ids.specs.declared.Refusal.TheVariants.{NotReady, AreaTooSmall}

spans_snoc : (l : List Range) (r : Range) → spans_of (l ++ (r ∷ [])) ≡ spans_of l ++ (span_of r ∷ [])
unfolding spans_of
spans_snoc [] r = refl
spans_snoc (x ∷ l) r = ap (λ (k : List Item). span_of x ∷ k) (spans_snoc l r)

length_spans : (l : List Range) → length (spans_of l) ≡ length l
unfolding spans_of
length_spans [] = refl
length_spans (x ∷ l) = ap suc (length_spans l)

-- an item put after those that stand there
module _ (rows area now after : List ℕ) (place i n : ℕ) (t : Bool) (x : Item) (p : ◌≡◌ {A = Put} (record { taken = t; area = after }) (put_item now (place + i) x))
    (w : now ≡ writes area (place * 6) (encode (spans_of (ranges_of rows i)))) where
  long : length (spans_of (ranges_of rows i)) ≡ i
  long = length_spans (ranges_of rows i) ∙ length_ranges rows i

  pub put_next : place + i < places area → after ≡ writes area (place * 6) (encode (spans_of (ranges_of rows i) ++ (x ∷ [])))
  put_next h =
      let l = spans_of (ranges_of rows i) in
      let room : place + length l < places area = rw long h in
      ap (λ (q : Put). q.area) p ∙ ap (λ (s : List ℕ). (put_item s (place + i) x).area) w
      ∙ ap (λ (k : ℕ). (put_item (writes area (place * 6) (encode l)) (place + k) x).area) (sym long) ∙ put_after area place l x room

  pub taken_next : place + i < places area → t ≡ true
  taken_next h =
      ap (λ (q : Put). q.taken) p ∙ put_true now (place + i) x (rw (w, length_writes area (place * 6) (encode (spans_of (ranges_of rows i)))) h)

  pub next_span : i < n → place + n ≤ places area → x ≡ span_of (range_at rows (i * roster_row)) → after ≡ writes area (place * 6) (encode (spans_of (ranges_of rows (i + 1))))
  next_span h k e =
      put_next (omega arith)
      ∙ ap (λ (l : List Item). writes area (place * 6) (encode l))
      (ap (λ (y : Item). spans_of (ranges_of rows i) ++ (y ∷ [])) e ∙ sym (ap spans_of (more_is rows i) ∙ spans_snoc (ranges_of rows i) (range_at rows (i * roster_row))))

pub no_span : (rows area : List ℕ) (place : ℕ) → area ≡ writes area (place * 6) (encode (spans_of (ranges_of rows 0)))
unfolding ranges_of spans_of encode
no_span rows area place = refl

-- ---- the answer

module _ (c : RespondersConf) (rows area : List ℕ) (t : Bool) (e : t ≡ holds_rows (length rows) c.count) where
  abbrev items : List Item
  items = show (view c rows)

  length_show : length items ≡ c.count + 1
  unfolding show view
  length_show =
      length-append (spans_of (ranges_of rows c.count)) (Rest c.default ∷ [])
      ∙ ap (λ (k : ℕ). k + 1) (length_spans (ranges_of rows c.count) ∙ length_ranges rows c.count)

  pub show_2 : t ≡ false → ◌≡◌ {A = Listing} (record { answer = Err NotReady; area = area }) (listing c rows area)
  unfolding listing
  show_2 f = sym (simp (sym e ∙ f))

  module _ (f : t ≡ true) where
    pub show_20 : places area < c.count + 1 → ◌≡◌ {A = Listing} (record { answer = Err AreaTooSmall; area = area }) (listing c rows area)
    unfolding listing
    show_20 h =
        let few : places area < length items = rw length_show (omega arith) in
        sym (simp (sym e ∙ f, lt-ltb (places area) (length items) few))

    pub show_all : (s after : List ℕ) (b : Bool) (k m : ℕ) → c.count + 1 ≤ places area → s ≡ writes area 0 (encode (spans_of (ranges_of rows c.count)))
        → k ≡ 0 + c.count → ◌≡◌ {A = Put} (record { taken = b; area = after }) (put_item s k (Rest c.default)) → m ≡ k + (if b then 1 else 0)
        → ◌≡◌ {A = Listing} (record { answer = Ok m; area = after }) (listing c rows area)
    unfolding listing show view
    show_all s after b k m h w n p q =
        let p' : ◌≡◌ {A = Put} (record { taken = b; area = after }) (put_item s (0 + c.count) (Rest c.default)) = rw n at p in
        let all : after ≡ writes area 0 (encode items) = put_next rows area s after 0 c.count 0 b (Rest c.default) p' w (omega arith) in
        let put : b ≡ true = taken_next rows area s after 0 c.count 0 b (Rest c.default) p' w (omega arith) in
        let room : length items ≤ places area = rw length_show h in
        let size : m ≡ length items = rw length_show (q ∙ rw (put, n) (omega arith)) in
        ap (λ (q : List ℕ). record { answer = Ok m; area = q }) all
        ∙ ap (λ (k : ℕ). record { answer = Ok k; area = writes area 0 (encode items) }) size
        ∙ sym (simp (sym e ∙ f, le-ltb (places area) (length items) room))
