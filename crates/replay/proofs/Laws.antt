-- What the steps of the program leave, with the premises as the code has them.
use Rattle.std.specs.Prelude.{◌≡◌, Bool, true, false, List, [], ◌∷◌, ◌++◌, ℕ, zero, suc, ◌≤◌, ◌<◌, length, take, drop, ℤ, pos, negsuc, Option, Result}
use Rattle.std.proofs.Common.{arith, take_at}
use Rattle.std.proofs.Math.Seq.{length-take-le}
use Rattle.words.specs.Text.{Bytes}
use Rattle.words.specs.Part.{splice}
use Rattle.layout.specs.Layout.{roster_words, node_words}
use Rattle.stream_events.proofs.Laws.{fresh_lent}
use Rattle.stream_turns.specs.declared.Stream.{Stream}
use Rattle.stream_turns.specs.declared.TurnResult.{TurnResult}
use Rattle.stream_turns.specs.Turn.{Begins, TurnLeaves}
use Rattle.stream_turns.specs.TurnList as spec
use Rattle.replay.specs.declared.Failure.{Failure}
use Rattle.replay.specs.Reads.{filled_as, Filling}
use Rattle.replay.specs.Steps.{Stands, TurnsSoFar, Steps}

-- bytes before a part that was lent
pub before_part : (s : List ℕ) (a n : ℕ) (m : List ℕ) → a < length s → take a (splice s a n m) ≡ take a s
before_part s a n m h = take_at (take a s) (m ++ drop n (drop a s)) a (length-take-le a s (omega arith))

-- whatever a read came to, the bytes that were kept stand as they were
pub filling : (z : ℤ) (interrupted : Bool) (have end : ℕ) (r : Result (Option ℕ) Failure) (buf buf' : Bytes) → r ≡ filled_as z interrupted have end → have ≤ end → end ≤ length buf' → take have buf' ≡ take have buf → Filling buf have r buf'
unfolding filled_as
filling z interrupted have end r buf buf' e h g s = rw e (go z interrupted)
  where
    stay : spec.Fills buf have have buf'
    stay = record { order = omega arith; within = omega arith; same = s }

    go : (z : ℤ) (interrupted : Bool) → Filling buf have (filled_as z interrupted have end) buf'
    go (pos zero) interrupted = stay
    go (pos (suc k)) interrupted = record { order = h; within = g; same = s }
    go (negsuc k) true = stay
    go (negsuc k) false = stay

-- ---- where a step leaves the stream
pub begins : (s : Stream) (buf : Bytes) (mem rows : List ℕ) → Begins s → TurnsSoFar s buf mem rows
begins s buf mem rows b = record { pieces = []; text = []; went = spec.none b }

pub begun : (s : Stream) (buf : Bytes) (mem rows area groups : List ℕ) → Begins s → node_words ≤ length mem → roster_words ≤ length rows → length area ≡ 3276 → 1542 ≤ length groups → Stands s buf mem rows area groups
begun s buf mem rows area groups b m r a g = record {
  order = omega (arith, b.at_start);
  within = omega (arith, b.no_byte);
  few = λ _. omega (arith, b.no_byte);
  lent = fresh_lent s.place.state.host mem rows area groups b.draft m r a g;
}

pub turned : (s : Stream) (buf : Bytes) (mem rows : List ℕ) (out : Bytes) (r : TurnResult) (buf' : Bytes) (mem' rows' area' groups' : List ℕ) (out' : Bytes) → length buf' ≡ length buf → TurnLeaves buf s mem rows out r buf' mem' rows' area' groups' out'
    → Steps s buf mem rows r.stream buf' mem' rows' area' groups'
turned s buf mem rows out r buf' mem' rows' area' groups' out' e t = record {
  stands = record { order = t.order; within = omega (arith, t.within); few = λ m. (t.rests m).few; lent = t.lent };
  on = λ w. record { pieces = w.pieces; text = w.text ++ take r.used out'; went = spec.turn out r buf' mem' rows' area' groups' out' w.went t };
}

module _ (s : Stream) (buf : Bytes) (mem rows area groups : List ℕ) (st : Stands s buf mem rows area groups) (m : s.more ≡ false) where
  pub piece_read : (end : ℕ) (buf' : Bytes) → spec.Fills buf s.end end buf' → Steps s buf mem rows (record { place = s.place; end = end; more = true }) buf' mem rows area groups
  piece_read end buf' f = record {
    stands = record { order = omega (arith, st.order, f.order); within = f.within; few = λ z. absurd (cc); lent = st.lent };
    on = λ w. record { pieces = w.pieces ++ (drop s.end (take end buf') ∷ []); text = w.text; went = spec.read end buf' w.went m f };
  }
