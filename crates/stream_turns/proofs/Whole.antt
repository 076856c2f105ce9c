-- A stream answered turn by turn is answered as its lines are, one after the other.
use mathlib.Core.Path.{◌≡◌, refl, sym, ap, ◌∙◌}
use mathlib.Core.Bool.{Bool, true, false, true≢false}
use mathlib.Core.List.{List, [], ◌∷◌, ◌++◌, append_assoc, append-nil}
use Prim.Native.Nat.{ℕ, ◌+◌, ◌-◌, ◌≤◌}
use native.Mathlib.Nat.{zero-add}
use native.Mathlib.Omega.{arith}
use lib.ListN.{length, take, drop, take-append-drop}
use lib.Seq.{take-take, drop-drop}
use Rattle.words.specs.Text.{Bytes}
use Rattle.words.specs.Tab.{run_part}
use Rattle.words.specs.Writes.{writes, length_writes, run_writes}
use Rattle.line_host.specs.Host.{fresh_host}
use Rattle.stream_pieces.specs.Pieces.{Begun, none_begun, kept, concat}
use Rattle.stream_pieces.specs.Streamed.{Streamed, prepend, streamed, last_line, total, OutputAfter}
use Rattle.stream_pieces.proofs.Laws.{cut, runs_none}
use Rattle.stream_pieces.proofs.Stream.{Plain, plain_kept, plain_runs, resumed, total_alike, out_alike}
use Rattle.stream_events.specs.Lines.{State, start, line_output}
use Rattle.stream_events.specs.Fed.{state_of}
use Rattle.stream_events.proofs.Stream.{alike, numbered}
use Rattle.stream_turns.specs.declared.Stream.{Stream}
use Rattle.stream_turns.specs.declared.TurnResult.{TurnResult}
use Rattle.stream_turns.specs.Turn.{TurnLeaves, Rests, Stops, waiting, streamed_on}
use Rattle.stream_turns.specs.TurnList as spec

concat_snoc : (ps : List Bytes) (p l : Bytes) → concat (ps ++ (p ∷ [])) ++ l ≡ concat ps ++ (p ++ l)
concat_snoc [] p l = rw append-nil
concat_snoc (q ∷ ps) p l = append_assoc q (concat (ps ++ (p ∷ []))) l ∙ (ap (λ (x : Bytes). q ++ x) (concat_snoc ps p l) ∙ sym (append_assoc q (concat ps) (p ++ l)))

-- what was written from the start is read back
written : (out vs : Bytes) (n : ℕ) → n ≡ 0 + length vs → n ≤ length out → take n (writes out 0 vs) ≡ vs
written out vs n e h =
    let z : length (writes out 0 vs) ≡ length out = length_writes out 0 vs in
    let m : n ≡ length vs = e ∙ zero-add (length vs) in
    rw m (run_part (length vs) (writes out 0 vs) 0 (omega arith) ∙ run_writes out 0 vs (omega arith))

module _ (buf : Bytes) (s : Stream) (mem rows : List ℕ) (out : Bytes) (r : TurnResult) (buf' : Bytes) (mem' rows' : List ℕ) (out' : Bytes) (held : r.used ≤ length out) where
  -- a turn that stopped, and then any bytes
  stopped : (l : Bytes) → Stops buf s mem rows out r buf' mem' rows' out'
      → streamed_on s mem rows (waiting s buf ++ l) ≡ prepend (take r.used out') (streamed_on r.stream mem' rows' (waiting r.stream buf' ++ l))
  stopped l t =
      let k : ℕ = r.stream.place.at - s.place.at in
      let w : Bytes = waiting s buf in
      let d : Streamed State = streamed_on s mem rows (take k w) in
      let e : out' ≡ writes out 0 d.out = ap (λ (x : OutputAfter State). x.bytes) t.answered in
      let u : r.used ≡ 0 + length d.out = ap (λ (x : OutputAfter State). x.used) t.answered in
      let st : state_of r.stream.place.state mem' rows' ≡ d.state = ap (λ (x : OutputAfter State). x.state) t.answered in
      let bg : record { long = r.stream.place.long; line = [] } ≡ d.begun = ap (λ (x : OutputAfter State). x.begun) t.answered in
      let text : take r.used out' ≡ d.out = rw e (written out d.out r.used u held) in
      let to : s.place.at + k ≡ r.stream.place.at = omega (arith, t.on) in
      let rest : drop k w ≡ waiting r.stream buf' = rw (t.same_bytes, t.same_end) (drop-drop k s.place.at (take s.end buf) ∙ ap (λ (j : ℕ). drop j (take s.end buf)) to) in
      let split : w ++ l ≡ take k w ++ (waiting r.stream buf' ++ l) = ap (λ (x : Bytes). x ++ l) (sym (take-append-drop k w)) ∙ (append_assoc (take k w) (drop k w) l ∙ ap (λ (x : Bytes). take k w ++ (x ++ l)) rest) in
      ap (streamed_on s mem rows) split
      ∙ (cut line_output (state_of s.place.state mem rows) (record { long = s.place.long; line = [] }) (take k w) (waiting r.stream buf' ++ l) ∙ rw (text, st, bg))

  module _ (t : Rests buf s mem rows out r buf' mem' rows' out') where
    d : Streamed State
    d = streamed_on s mem rows (waiting s buf)

    begun : record { long = r.stream.place.long; line = waiting r.stream buf' } ≡ kept d.begun
    unfolding d
    begun = ap (λ (x : OutputAfter State). x.begun) t.answered

    plain_left : Plain (waiting r.stream buf')
    unfolding d
    plain_left = rw (ap (λ (x : Begun). x.line) begun) (plain_kept d.begun (plain_runs line_output (state_of s.place.state mem rows) (record { long = s.place.long; line = [] }) (waiting s buf) refl))

    -- a turn that went through all, and then any bytes, for a view of runs to which a kept line is as the line
    rested : (view : Streamed State → Bytes) (alike : (x : State) (b : Begun) (l : Bytes) → view (streamed line_output x (kept b) l) ≡ view (streamed line_output x b l)) (ahead : (x : Bytes) (q : Streamed State) → view (prepend x q) ≡ x ++ view q) (l : Bytes)
        → view (streamed_on s mem rows (waiting s buf ++ l)) ≡ take r.used out' ++ view (streamed_on r.stream mem' rows' (waiting r.stream buf' ++ l))
    unfolding d
    rested view alike ahead l =
        let e : out' ≡ writes out 0 d.out = ap (λ (x : OutputAfter State). x.bytes) t.answered in
        let u : r.used ≡ 0 + length d.out = ap (λ (x : OutputAfter State). x.used) t.answered in
        let st : state_of r.stream.place.state mem' rows' ≡ d.state = ap (λ (x : OutputAfter State). x.state) t.answered in
        let text : take r.used out' ≡ d.out = rw e (written out d.out r.used u held) in
        let on : streamed_on r.stream mem' rows' (waiting r.stream buf' ++ l) ≡ streamed line_output d.state (kept d.begun) l =
        rw st (resumed line_output d.state (record { long = r.stream.place.long; line = waiting r.stream buf' }) l plain_left ∙ ap (λ (b : Begun). streamed line_output d.state b l) begun) in
        ap view (cut line_output (state_of s.place.state mem rows) (record { long = s.place.long; line = [] }) (waiting s buf) l)
        ∙ (ahead d.out (streamed line_output d.state d.begun l) ∙ rw (text, on) (ap (λ (x : Bytes). d.out ++ x) (sym (alike d.state d.begun l))))

-- where nothing more ends in the bytes, they stand at the buffer's start, and have no newline
at_start_lem : {ps : List Bytes} {text : Bytes} {s : Stream} {buf : Bytes} {mem rows : List ℕ} → spec.TurnList ps text s buf mem rows → s.more ≡ false → s.place.at ≡ 0
at_start_lem (spec.none b) m = b.at_start
at_start_lem (spec.read end buf' w n f) m = absurd (true≢false m)
at_start_lem (spec.turn out r buf' mem' rows' area' groups' out' w t) m = (t.rests m).at_start

plain : {ps : List Bytes} {text : Bytes} {s : Stream} {buf : Bytes} {mem rows : List ℕ} → spec.TurnList ps text s buf mem rows → s.more ≡ false → Plain (waiting s buf)
plain (spec.none b) m = rw (b.at_start, b.no_byte) refl
plain (spec.read end buf' w n f) m = absurd (true≢false m)
plain (spec.turn out r buf' mem' rows' area' groups' out' w t) m = plain_left _ _ _ _ out r buf' mem' rows' out' t.held (t.rests m)

-- the bytes that wait, and then the piece
filled_up : (s : Stream) (buf buf' : Bytes) (end : ℕ) (l : Bytes) → s.place.at ≡ 0 → spec.Fills buf s.end end buf'
    → waiting s buf ++ (drop s.end (take end buf') ++ l) ≡ waiting (spec.filled s end) buf' ++ l
filled_up s buf buf' end l z f =
    rw z
    (sym (append_assoc (take s.end buf) (drop s.end (take end buf')) l)
    ∙ ap (λ (x : Bytes). x ++ l) (ap (λ (x : Bytes). x ++ drop s.end (take end buf')) (sym f.same ∙ sym (take-take s.end end buf' f.order)) ∙ take-append-drop s.end (take end buf')))

module _ (view : Streamed State → Bytes) (same : (x : State) (b : Begun) (l : Bytes) → view (streamed line_output x (kept b) l) ≡ view (streamed line_output x b l)) (ahead : (x : Bytes) (q : Streamed State) → view (prepend x q) ≡ x ++ view q) where
  -- what the whole leaves, is what was written, and then what the bytes that wait and the rest leave
  abbrev Goes : List Bytes → Bytes → Stream → Bytes → List ℕ → List ℕ → Type 0
  Goes ps text s buf mem rows = (l : Bytes) → view (streamed line_output start none_begun (concat ps ++ l)) ≡ text ++ view (streamed_on s mem rows (waiting s buf ++ l))

  refused_line : (buf : Bytes) (s : Stream) (mem rows : List ℕ) (out : Bytes) (r : TurnResult) (buf' : Bytes) (mem' rows' area' groups' : List ℕ) (out' : Bytes) → TurnLeaves buf s mem rows out r buf' mem' rows' area' groups' out'
      → (l : Bytes) → view (streamed_on s mem rows (waiting s buf ++ l)) ≡ take r.used out' ++ view (streamed_on r.stream mem' rows' (waiting r.stream buf' ++ l))
  refused_line buf s mem rows out r buf' mem' rows' area' groups' out' t l = go r.stream.more refl
    where
      go : (q : Bool) → r.stream.more ≡ q → view (streamed_on s mem rows (waiting s buf ++ l)) ≡ take r.used out' ++ view (streamed_on r.stream mem' rows' (waiting r.stream buf' ++ l))
      go true p =
          ap view (stopped buf s mem rows out r buf' mem' rows' out' t.held l (t.stops p)) ∙ ahead (take r.used out') (streamed_on r.stream mem' rows' (waiting r.stream buf' ++ l))
      go false p = rested buf s mem rows out r buf' mem' rows' out' t.held (t.rests p) view same ahead l

  goes : {ps : List Bytes} {text : Bytes} {s : Stream} {buf : Bytes} {mem rows : List ℕ} → spec.TurnList ps text s buf mem rows → Goes ps text s buf mem rows
  goes {mem = mem} {rows = rows} (spec.none b) l = rw (b.state mem rows, b.at_start, b.no_byte, b.short) refl
  goes {mem = mem} {rows = rows} (spec.read {ps = ps} {text = text} {s = s} {buf = buf} end buf' w n f) l =
      ap (λ (x : Bytes). view (streamed line_output start none_begun x)) (concat_snoc ps (drop s.end (take end buf')) l)
      ∙ (goes w (drop s.end (take end buf') ++ l) ∙ ap (λ (x : Bytes). text ++ view (streamed_on s mem rows x)) (filled_up s buf buf' end l (at_start_lem w n) f))
  goes (spec.turn {text = text} {s = s} {buf = buf} {mem = mem} {rows = rows} out r buf' mem' rows' area' groups' out' w t) l =
      goes w l
      ∙ (ap (λ (x : Bytes). text ++ x) (refused_line buf s mem rows out r buf' mem' rows' area' groups' out' t l)
      ∙ sym (append_assoc text (take r.used out') (view (streamed_on r.stream mem' rows' (waiting r.stream buf' ++ l)))))

  -- where no line ends in the bytes that wait
  rests : {ps : List Bytes} {text : Bytes} {s : Stream} {buf : Bytes} {mem rows : List ℕ} → spec.TurnList ps text s buf mem rows → s.more ≡ false
      → view (streamed line_output start none_begun (concat ps)) ≡ text ++ view (record { out = []; state = state_of s.place.state mem rows; begun = record { long = s.place.long; line = waiting s buf } })
  rests {ps = ps} {text = text} {s = s} {buf = buf} {mem = mem} {rows = rows} w m =
      let it : view (streamed line_output start none_begun (concat ps)) ≡ text ++ view (streamed_on s mem rows (waiting s buf)) = rw (append-nil (concat ps), append-nil (waiting s buf)) at (goes w []) in
      it ∙ ap (λ (x : Streamed State). text ++ view x) (runs_none line_output (state_of s.place.state mem rows) (record { long = s.place.long; line = [] }) (waiting s buf) (plain w m))

pub turns_as_whole : spec.TurnsAsWhole
turns_as_whole ps text s buf mem rows out r mem' rows' area' groups' out' w m e room h =
    let last : Bytes = last_line line_output (state_of s.place.state mem rows) (record { long = s.place.long; line = waiting s buf }) in
    let read : take r.end out' ≡ last = rw e.text.bytes (written out last r.end e.text.end (omega (arith, e.text.end, e.text.short))) in
    ap (λ (x : Bytes). text ++ x) read
    ∙ (sym (rests (total line_output) (total_alike line_output alike) (λ x q. append_assoc x q.out (last_line line_output q.state q.begun)) w m)
    ∙ numbered fresh_host 1 [] (concat ps) (omega arith))

pub turns_cut_off : spec.TurnsCutOff
turns_cut_off ps text s buf mem rows w m = sym (rests (λ (x : Streamed State). x.out) (out_alike line_output alike) (λ x q. refl) w m ∙ append-nil text)
