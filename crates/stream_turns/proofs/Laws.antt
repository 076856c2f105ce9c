-- What a turn leaves, with the premises as the code has them.
use mathlib.Core.Path.{◌≡◌, refl, sym, ap, ◌∙◌}
use mathlib.Core.Bool.{true, false, true≢false}
use mathlib.Core.List.{List, [], append-nil}
use Prim.Native.Nat.{ℕ, ◌+◌, ◌-◌, ◌≤◌}
use native.Mathlib.Omega.{arith}
use lib.ListN.{length, take, drop, take-append-drop}
use lib.Seq.{take-add, drop_at, drop-drop, length-take-le}
use Rattle.words.specs.Text.{Bytes}
use Rattle.stream_pieces.specs.declared.Carry.{Carry}
use Rattle.stream_pieces.specs.Pieces.{Begun, kept}
use Rattle.stream_pieces.specs.Streamed.{Streamed, streamed, OutputAfter, output_after}
use Rattle.stream_pieces.proofs.Laws.{cut, runs_none}
use Rattle.stream_events.specs.declared.LineState.{LineState}
use Rattle.stream_events.specs.declared.Fed.{Fed}
use Rattle.stream_events.specs.Lines.{State, start, line_output}
use Rattle.stream_events.specs.Fed.{state_of, WritesLines}
use Rattle.stream_turns.specs.declared.Stream.{Stream}
use Rattle.stream_turns.specs.Turn.{Begins, TurnLeaves, waiting, streamed_on}

pub begins : (c : LineState) → ((mem rows : List ℕ) → state_of c mem rows ≡ start) × (c.host.draft.count ≤ 64) → Begins (record { place = record { at = 0; state = c; long = false }; end = 0; more = false })
begins c f = record { state = f.0; draft = f.1; at_start = refl; no_byte = refl; short = refl; none = refl }

drop_take : (k n : ℕ) (l : List ℕ) → k ≤ n → n ≤ length l → drop k (take n l) ≡ take (n - k) (drop k l)
drop_take k n l h g =
    let e : n ≡ k + (n - k) = omega arith in
    ap (λ (j : ℕ). drop k (take j l)) e ∙ (ap (drop k) (take-add k (n - k) l) ∙ drop_at (take k l) (take (n - k) (drop k l)) k (length-take-le k l (omega arith)))

pub within_end : (at end : ℕ) (buf : Bytes) → end ≤ length buf → at ≤ length (take end buf) → at ≤ end
within_end at end buf g h = omega (arith, length-take-le end buf (omega arith))

module _ (buf : Bytes) (s : Stream) (mem rows : List ℕ) (out : Bytes) (f : Fed) (mem' rows' area' groups' : List ℕ) (out' : Bytes) (g : s.end ≤ length buf)
    (feeds : WritesLines (take s.end buf) s.place mem rows out f mem' rows' area' groups' out') where
  within : f.place.at ≤ s.end
  within = within_end f.place.at s.end buf g feeds.within

  pub turns_full : f.more ≡ true → TurnLeaves buf s mem rows out (record { stream = record { place = f.place; end = s.end; more = true }; used = f.used }) buf mem' rows' area' groups' out'
  turns_full m = record {
    rests = λ e. absurd (true≢false e);
    stops = λ _. record { same_bytes = refl; same_end = refl; on = feeds.on m; within = within; full = feeds.full m; answered = feeds.answered };
    order = within;
    within = g;
    held = feeds.held;
    lent = feeds.lent;
  }

  pub turns_ended : (left : Carry) (buf' : Bytes) → f.more ≡ false → 1024 ≤ length buf
      → (left.have ≤ 1024) × (record { long = left.long; line = take left.have buf' } ≡ kept (record { long = f.place.long; line = take (s.end - f.place.at) (drop f.place.at buf) }))
      → TurnLeaves buf s mem rows out (record { stream = record { place = record { at = 0; state = f.place.state; long = left.long }; end = left.have; more = false }; used = f.used }) buf' mem' rows' area' groups' out'
  turns_ended left buf' m room keeps = record {
    rests = λ _. record { at_start = refl; few = keeps.0; answered = answered };
    stops = λ e. absurd (true≢false (sym e));
    order = omega arith;
    within = omega (arith, keeps.0);
    held = feeds.held;
    lent = feeds.lent;
  }
    where
      answered : record { bytes = out'; used = f.used; state = state_of f.place.state mem' rows'; begun = record { long = left.long; line = take left.have buf' } }
          ≡ output_after out 0 (record { out = (streamed_on s mem rows (waiting s buf)).out; state = (streamed_on s mem rows (waiting s buf)).state; begun = kept (streamed_on s mem rows (waiting s buf)).begun })
      answered =
          let k : ℕ = f.place.at - s.place.at in
          let w : List ℕ = waiting s buf in
          let b : Begun = record { long = s.place.long; line = [] } in
          let d : Streamed State = streamed line_output (state_of s.place.state mem rows) b (take k w) in
          let it : record { bytes = out'; used = f.used; state = state_of f.place.state mem' rows'; begun = record { long = f.place.long; line = [] } } ≡ output_after out 0 d = feeds.answered in
          let to : s.place.at + k ≡ f.place.at = omega (arith, feeds.order) in
          let rest : drop k w ≡ drop f.place.at (take s.end buf) = drop-drop k s.place.at (take s.end buf) ∙ ap (λ (j : ℕ). drop j (take s.end buf)) to in
          let st : state_of f.place.state mem' rows' ≡ d.state = ap (λ (x : OutputAfter State). x.state) it in
          let bg : record { long = f.place.long; line = [] } ≡ d.begun = ap (λ (x : OutputAfter State). x.begun) it in
          let whole : streamed_on s mem rows w ≡ record { out = d.out; state = d.state; begun = record { long = f.place.long; line = drop f.place.at (take s.end buf) } } =
          ap (streamed line_output (state_of s.place.state mem rows) b) (sym (take-append-drop k w))
          ∙ (cut line_output (state_of s.place.state mem rows) b (take k w) (drop k w)
          ∙ rw (rest, ← bg, runs_none line_output d.state (record { long = f.place.long; line = [] }) (drop f.place.at (take s.end buf)) (feeds.ended m), append-nil)) in
          rw (whole, drop_take f.place.at s.end buf within g, keeps.1) (ap (λ (x : OutputAfter State). record { bytes = x.bytes; used = x.used; state = x.state; begun = kept (record { long = f.place.long; line = take (s.end - f.place.at) (drop f.place.at buf) }) }) it)
