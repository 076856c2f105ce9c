-- What the proofs of the lines share, with the premises as the code has them.
use Rattle.std.specs.Prelude.{if◌then◌else◌}
use mathlib.Core.Path.{◌≡◌, refl, sym, ap, ◌∙◌}
use mathlib.Core.Bool.{Bool, true, false, ◌||◌, true≢false}
use mathlib.Core.List.{List, [], ◌∷◌, ◌++◌}
use Rattle.std.specs.Prelude.{Option, None, Some}
use Prim.Native.Nat.{ℕ, ◌+◌, ◌-◌, ◌*◌, ◌^◌, ◌≤◌, ◌<◌, min}
use native.Mathlib.Nat.{zero-add, suc-add}
use native.Mathlib.Omega.{arith}
use lib.ListN.{length, set, take, drop, length-set, length-drop}
use lib.Seq.{length-take-le, set-append_left}
use lib.Dec.{ltb}
use mir.Syntax.{w64}
use mir.Val.{Fits}
use borrow.Author.Tests.{ltb-true, ltb-false, le-leb, eq-eqb}
use Rattle.layout.specs.Layout.{node_words}
use Rattle.words.specs.Text.{Bytes}
use Rattle.words.specs.Part.{splice, splice_same}
use Rattle.words.specs.Writes.{writes, length_writes}
use Rattle.std.specs.Prelude.{Result, Ok, Err}
use Rattle.ids.specs.declared.Refusal as code-refusal
use Rattle.ids.specs.declared.Refusal.TheVariants.{Malformed}
use Rattle.ids.specs.Limits.{items}
use Rattle.items.specs.Item.{Item, places, encode}
use Rattle.roster_conf.specs.Edit as edits
use Rattle.bodega.specs.Replica.{Replica, Heartbeat}
use Rattle.bodega.specs.Step.{Step, Refused, Taken, step}
use Rattle.node.specs.View.{in_range}
use Rattle.line_answer.specs.Text.{refused_text}
use Rattle.text.specs.Wrote.{Wrote}
use Rattle.line_answer.specs.Wrote.{Answered}
use Rattle.line_host.specs.declared.Host as code
use Rattle.line_host.specs.Line.{Line, NodeLine, EditLine, ShowLine, HeardLine, CallLine, line_of}
use Rattle.line_host.specs.Host.{Host, fresh_host, Outcome, Refusal, Items, LineResult, called, edited, line_at, first_line, at_host, answer_line, text_of}
use Rattle.line_host.specs.Follows.{host_of, sound, line_given, LineFollowsBy}
use Rattle.line_event.specs.declared.LineAnswer.{LineAnswer}
use Rattle.line_event.specs.Event.{whole, fit, due, told, Stays as HostStays, AnswersEvent}
use Rattle.stream_pieces.specs.Pieces.{before}
use Rattle.stream_pieces.specs.Streamed.{streamed, last_line, output_after}
use Rattle.stream_pieces.proofs.Laws.{line_none, line_below, done_line}
use Rattle.stream_events.specs.declared.LineState.{LineState}
use Rattle.stream_events.specs.declared.Place.{Place}
use Rattle.stream_events.specs.Lines.{State, start, bumped, result_of, line_output, last_state}
use Rattle.stream_events.specs.Fed.{Lent, LineWritten, state_of, WritesLine, WritesLastLine, WritesLines}

-- ---- the number of the next line
pub counted : (n m : ℕ) → n < 2 ^ 64 → m ≡ min (n + 1) (2 ^ 64 - 1) → m ≡ bumped n
counted n m h e = go (ltb n (2 ^ 64 - 1)) refl
  where
    go : (t : Bool) → ltb n (2 ^ 64 - 1) ≡ t → m ≡ bumped n
    go true p = let k : n < 2 ^ 64 - 1 = ltb-true n (2 ^ 64 - 1) p in simp p (omega arith)
    go false p = let k : 2 ^ 64 - 1 ≤ n = ltb-false n (2 ^ 64 - 1) p in simp p (omega arith)

-- ---- before the first line
pub fresh_state : (h : code.Host) (mem rows : List ℕ) → host_of h mem rows ≡ fresh_host → state_of (record { host = h; number = 1 }) mem rows ≡ start
unfolding state_of
fresh_state h mem rows e = rw e

pub fresh_lent : (h : code.Host) (mem rows area groups : List ℕ) → h.draft.count ≤ 64 → node_words ≤ length mem → 320 ≤ length rows → length area ≡ 3276 → 1542 ≤ length groups → Lent h mem rows area groups
unfolding sound
fresh_lent h mem rows area groups c m r a g = record {
  is_sound = rw (le-leb node_words (length mem) m, le-leb 320 (length rows) r, le-leb h.draft.count 64 c);
  area_size = omega arith;
  groups_size = g;
}

-- ---- a line that is turned away leaves the host as it was
abbrev Stays : Host → LineResult → Type 0
Stays h t = (n : ℕ) → t.outcome ≡ Refusal n → t.host ≡ h

never : {A : Type 0} (l : List Item) (n : ℕ) → Items l ≡ Refusal n → A
never l n e = absurd (let z : ◌≡◌ {A = ℕ} 0 1 = cc in omega arith)

called_stays : (h : Host) (s : Step) → Stays h (called h s)
called_stays h (Refused k) n e = refl
called_stays h (Taken r l) n e = never l n e

edited_stays : (h : Host) (a : edits.EditResult) → Stays h (edited h a)
edited_stays h (edits.refused k) n e = refl
edited_stays h (edits.taken c) n e = never [] n e

at_stays : (h : Host) (r : Replica) (l : Line) → Stays h (line_at h r l)
unfolding line_at
at_stays h r (NodeLine id population quorum) n e = refl
at_stays h r (EditLine x) n e = edited_stays h (edits.edit_result r.me.population h.draft x) n e
at_stays h r ShowLine n e = never _ n e
at_stays h r (HeardLine peer ballot with commit exec snap) n e = called_stays h (step r (Heartbeat peer ballot (if with then Some h.draft else None) commit exec snap) items) n e
at_stays h r (CallLine c) n e = called_stays h (step r c items) n e

first_stays : (h : Host) (l : Line) → Stays h (first_line h l)
unfolding first_line
first_stays h (NodeLine id population quorum) n e = go (in_range id population quorum) refl
  where
    go : (t : Bool) → in_range id population quorum ≡ t → (first_line h (NodeLine id population quorum)).host ≡ h
    go true p = never [] n (simp p at e)
    go false p = simp p
first_stays h (EditLine x) n e = refl
first_stays h ShowLine n e = refl
first_stays h (HeardLine peer ballot with commit exec snap) n e = refl
first_stays h (CallLine c) n e = refl

taking_stays : (h : Host) (l : Line) → Stays h (at_host h l)
taking_stays h l = go h.node refl
  where
    go : (o : Option Replica) → h.node ≡ o → Stays h (at_host h l)
    go None p n e = simp p (first_stays h l n (simp p at e))
    go (Some r) p n e = simp p (at_stays h r l n (simp p at e))

heard_stays : (h : Host) (s : Bytes) → Stays h (answer_line h s)
unfolding answer_line
heard_stays h s = go (line_of s) refl
  where
    go : (o : Option Line) → line_of s ≡ o → Stays h (answer_line h s)
    go None p n e = simp p
    go (Some l) p n e = simp p (taking_stays h l n (simp p at e))

-- the host that a line leaves, whether it is refused or not
left : (h h' : code.Host) (a : Result ℕ code-refusal.Refusal) → HostStays h a h' → h' ≡ (line_given h (told h' a)).host
left h h' (Ok n) s = refl
left h h' (Err r) s = s

-- ---- a line in the code's buffers
module _ (h : code.Host) (mem rows area groups : List ℕ) (n : ℕ) (line out : Bytes) (lent : Lent h mem rows area groups) (room : 65536 ≤ length out) where
  fits : fit h.draft mem rows area groups out ≡ true
  unfolding fit whole
  fits = rw (lent.is_sound, eq-eqb (places area) items lent.area_size, le-leb 1542 (length groups) lent.groups_size, le-leb 65536 (length out) room)

  is_due : due h mem rows area groups out line ≡ answer_line (host_of h mem rows) line
  unfolding due
  is_due = rw fits

  module _ (r : LineAnswer) (h' : code.Host) (mem' rows' area' groups' : List ℕ) (out' : Bytes) (tells : AnswersEvent h mem rows area groups n line out r h' mem' rows' area' groups' out') where
    acts : LineFollowsBy (answer_line (host_of h mem rows) line).host (answer_line (host_of h mem rows) line).outcome h mem rows area (line_given h (told h' r.acted)) mem' rows' area'
    acts = rw is_due at tells.acts

    next_host : host_of (line_given h (told h' r.acted)).host mem' rows' ≡ (answer_line (host_of h mem rows) line).host
    next_host = go (answer_line (host_of h mem rows) line).outcome refl acts
      where
        go : (a : Outcome) → (answer_line (host_of h mem rows) line).outcome ≡ a → LineFollowsBy (answer_line (host_of h mem rows) line).host a h mem rows area (line_given h (told h' r.acted)) mem' rows' area' → host_of (line_given h (told h' r.acted)).host mem' rows' ≡ (answer_line (host_of h mem rows) line).host
        go (Refusal k) e x = rw (x.same_host, x.same_mem, x.same_rows) (sym (heard_stays (host_of h mem rows) line k e))
        go (Items l) e x = x.host

    lent_again : Lent (line_given h (told h' r.acted)).host mem' rows' area' groups'
    lent_again = go (answer_line (host_of h mem rows) line).outcome acts
      where
        more : 1542 ≤ length groups'
        more = omega (arith, lent.groups_size, tells.groups_size)

        go : (a : Outcome) → LineFollowsBy (answer_line (host_of h mem rows) line).host a h mem rows area (line_given h (told h' r.acted)) mem' rows' area' → Lent (line_given h (told h' r.acted)).host mem' rows' area' groups'
        go (Refusal k) x = record {
          is_sound = rw (x.same_host, x.same_mem, x.same_rows) lent.is_sound;
          area_size = rw x.same_area lent.area_size;
          groups_size = more;
        }
        go (Items l) x = record { is_sound = x.sound_again; area_size = rw (x.items, length_writes area 0 (encode l)) lent.area_size; groups_size = more }

module _ (c : LineState) (mem rows area groups : List ℕ) (line out : Bytes) (long : Bool) (m : ℕ) (lent : Lent c.host mem rows area groups) (b : m ≡ bumped c.number) where
  -- bytes of the line were dropped
  pub says_long : (e : ℕ) (out' : Bytes) → long ≡ true → Answered out c.number (Err Malformed) area e out'
      → WritesLine c mem rows (record { long = long; line = line }) out (record { state = record { host = c.host; number = m }; end = e }) mem rows area groups out'
  unfolding line_output result_of state_of
  says_long e out' l a =
      let w : Wrote out 0 (refused_text c.number 1) 64 e out' = a.text in
      record { next = rw (l, b); text = rw l (record { end = w.end; bytes = w.bytes; short = omega (arith, w.short) }); lent = lent }

  -- none were
  pub says_heard : (r : LineAnswer) (k : code.Host) (mem' rows' area' groups' : List ℕ) (out' : Bytes) → 65536 ≤ length out → long ≡ false → AnswersEvent c.host mem rows area groups c.number line out r k mem' rows' area' groups' out'
      → WritesLine c mem rows (record { long = long; line = line }) out (record { state = record { host = k; number = m }; end = r.end }) mem' rows' area' groups' out'
  unfolding line_output result_of state_of
  says_heard r k mem' rows' area' groups' out' room l t =
      let z : k ≡ (line_given c.host (told k r.acted)).host = left c.host k r.acted t.stays in
      let w : Wrote out 0 (text_of c.number (answer_line (host_of c.host mem rows) line).outcome) 65536 r.end out' =
      rw (is_due c.host mem rows area groups c.number line out lent room) at (t.text room) in
      record {
        next = rw (l, b, z, next_host c.host mem rows area groups c.number line out lent room r k mem' rows' area' groups' out' t);
        text = rw l w;
        lent = rw z (lent_again c.host mem rows area groups c.number line out lent room r k mem' rows' area' groups' out' t);
      }

-- ---- the output after an answer was written from used on
set_behind : (a l : List ℕ) (i v : ℕ) → set (a ++ l) (length a + i) v ≡ a ++ set l i v
set_behind [] l i v = rw zero-add
set_behind (x ∷ a) l i v = rw suc-add (ap (λ (y : List ℕ). x ∷ y) (set_behind a l i v))

module _ (s : List ℕ) (a n : ℕ) (h : a + n ≤ length s) where
  splice_set : (p : List ℕ) (i v : ℕ) → i < length p → splice s a n (set p i v) ≡ set (splice s a n p) (a + i) v
  splice_set p i v l =
      let z : length (take a s) ≡ a = length-take-le a s (omega arith) in
      sym (ap (λ (k : ℕ). set (splice s a n p) (k + i) v) (sym z) ∙ (set_behind (take a s) (p ++ drop n (drop a s)) i v ∙ ap (λ (y : List ℕ). take a s ++ y) (set-append_left p (drop n (drop a s)) i v l)))

  splice_writes : (p : List ℕ) (i : ℕ) (vs : List ℕ) → i + length vs ≤ length p → splice s a n (writes p i vs) ≡ writes (splice s a n p) (a + i) vs
  splice_writes p i [] l = refl
  splice_writes p i (v ∷ vs) l =
      let e : a + (i + 1) ≡ a + i + 1 = omega arith in
      splice_writes (set p i v) (i + 1) vs (rw length-set (omega arith)) ∙ (ap (λ (k : ℕ). writes (splice s a n (set p i v)) k vs) e ∙ ap (λ (y : List ℕ). writes y (a + i + 1) vs) (splice_set p i v (omega arith)))

  -- the part lent, and put back
  part_writes : (vs : List ℕ) → length vs ≤ n → splice s a n (writes (take n (drop a s)) 0 vs) ≡ writes s a vs
  part_writes vs l =
      let z : length (take n (drop a s)) ≡ n = length-take-le n (drop a s) (omega (arith, length-drop a s)) in
      let e : a + 0 ≡ a = omega arith in
      splice_writes (take n (drop a s)) 0 vs (omega arith) ∙ (ap (λ (y : List ℕ). writes y (a + 0) vs) (splice_same s a n) ∙ ap (λ (k : ℕ). writes s k vs) e)

-- ---- the turns of feed
pub record Inv (piece : Bytes) (s₀ : State) (long₀ : Bool) (at₀ : ℕ) (out₀ : Bytes) (mem rows area groups : List ℕ) (out : Bytes) (place : Place) (used : ℕ) : Type 0 where
  pub answered : record { bytes = out; used = used; state = state_of place.state mem rows; begun = record { long = place.long; line = [] } } ≡ output_after out₀ 0 (streamed line_output s₀ (record { long = long₀; line = [] }) (take (place.at - at₀) (drop at₀ piece)))
  pub order : at₀ ≤ place.at
  pub within : place.at ≤ length piece
  pub size : length out ≡ length out₀
  pub held : used ≤ length out₀
  pub paid : used ≤ 65536 * (place.at - at₀)
  pub lent : Lent place.state.host mem rows area groups

pub inv_start : (piece : Bytes) (p : Place) (mem rows area groups : List ℕ) (out : Bytes) → p.at ≤ length piece → Lent p.state.host mem rows area groups
    → Inv piece (state_of p.state mem rows) p.long p.at out mem rows area groups out p 0
unfolding streamed
inv_start piece p mem rows area groups out h l =
    let z : p.at - p.at ≡ 0 = omega arith in
    record { answered = rw z; order = omega arith; within = h; size = refl; held = omega arith; paid = omega arith; lent = l }

module _ (piece : Bytes) (s₀ : State) (long₀ : Bool) (at₀ : ℕ) (out₀ : Bytes) (mem rows area groups : List ℕ) (out : Bytes) (place : Place) (used : ℕ)
    (i : Inv piece s₀ long₀ at₀ out₀ mem rows area groups out place used) (e : ℕ) (f : e ≡ place.at + before (drop place.at piece)) (room : 65536 ≤ length out - used) (n : e ≡ length piece → ⊥) where
  below : e < length piece
  below = line_below piece place.at e i.within f n

  pub feed_part_end : e ≤ length piece
  feed_part_end = omega (arith, below)

  module _ (r : LineWritten) (mem' rows' area' groups' : List ℕ) (out' : Bytes)
      (t : WritesLine place.state mem rows (record { long = place.long; line = take (e - place.at) (drop place.at piece) }) (take (length out - used) (drop used out)) r mem' rows' area' groups' out') where
    pub feed_fits : length out₀ < 2 ^ 64 → Fits w64 (used + r.end)
    feed_fits h = record { fits = omega (arith, t.text.end, t.text.short, i.size) }

    pub inv_turn : Inv piece s₀ long₀ at₀ out₀ mem' rows' area' groups' (splice out used (length out - used) out') (record { at = e + 1; state = r.state; long = false }) (used + r.end)
    inv_turn =
        let text : List ℕ = (line_output (state_of place.state mem rows) (record { long = place.long; line = take (e - place.at) (drop place.at piece) })).text in
        let z : r.end ≡ length text = t.text.end ∙ zero-add (length text) in
        let w : splice out used (length out - used) out' ≡ writes out used text =
        ap (splice out used (length out - used)) t.text.bytes ∙ part_writes out used (length out - used) (omega arith) text (omega (arith, t.text.short)) in
        record {
          answered = rw (w, z, t.next) (done_line line_output piece at₀ place.at e s₀ (state_of place.state mem rows) (record { long = long₀; line = [] }) place.long out₀ out used i.order i.within f below i.answered);
          order = omega (arith, i.order);
          within = omega (arith, below);
          size = rw w (length_writes out used text ∙ i.size);
          held = omega (arith, t.text.short, i.size);
          paid = omega (arith, t.text.short, i.paid, i.order);
          lent = t.lent;
        }

-- ---- where feed stops
module _ (piece : Bytes) (p : Place) (mem₀ rows₀ : List ℕ) (out₀ : Bytes) (mem rows area groups : List ℕ) (out : Bytes) (place : Place) (used : ℕ)
    (i : Inv piece (state_of p.state mem₀ rows₀) p.long p.at out₀ mem rows area groups out place used) where
  pub feeds_ended : (e : ℕ) → e ≡ place.at + before (drop place.at piece) → e ≡ length piece
      → WritesLines piece p mem₀ rows₀ out₀ (record { place = place; used = used; more = false }) mem rows area groups out
  feeds_ended e f g = record {
    answered = i.answered;
    order = i.order;
    within = i.within;
    held = i.held;
    ended = λ _. line_none piece place.at e i.within f g;
    on = λ x. absurd (true≢false (sym x));
    full = λ x. absurd (true≢false (sym x));
    lent = i.lent;
  }

  pub feeds_full : 65536 ≤ length out₀ → length out - used < 65536
      → WritesLines piece p mem₀ rows₀ out₀ (record { place = place; used = used; more = true }) mem rows area groups out
  feeds_full h g = record {
    answered = i.answered;
    order = i.order;
    within = i.within;
    held = i.held;
    ended = λ x. absurd (true≢false x);
    on = λ _. omega (arith, i.paid, i.order, i.size);
    full = λ _. omega (arith, i.size);
    lent = i.lent;
  }

-- ---- the last line
module _ (c : LineState) (mem rows area groups : List ℕ) (long : Bool) (line out : Bytes) (t : Bool) (b : t ≡ (long || ltb 0 (length line))) where
  pub last_none : t ≡ false → Lent c.host mem rows area groups → WritesLastLine c mem rows (record { long = long; line = line }) out (record { state = c; end = 0 }) mem rows area groups out
  unfolding last_line last_state
  last_none e l = record { next = rw (← b, e); text = rw (← b, e) (record { end = refl; bytes = refl; short = omega arith }); lent = l }

  pub last_some : (r : LineWritten) (mem' rows' area' groups' : List ℕ) (out' : Bytes) → t ≡ true → WritesLine c mem rows (record { long = long; line = line }) out r mem' rows' area' groups' out'
      → WritesLastLine c mem rows (record { long = long; line = line }) out r mem' rows' area' groups' out'
  unfolding last_line last_state
  last_some r mem' rows' area' groups' out' e w = record { next = rw (← b, e) w.next; text = rw (← b, e) w.text; lent = w.lent }
