-- A line's fields as a call's arguments.
use Rattle.std.specs.Prelude.{if◌then◌else◌, Option, Some, Result}
use mathlib.Core.Path.{◌≡◌, refl, sym, ap, subst, ◌∙◌, fun_ext}
use mathlib.Core.Bool.{Bool, true, false, ◌&&◌, and-true, true≢false}
use mathlib.Core.List.{List}
use Prim.Native.Nat.{ℕ, ◌≤◌}
use native.Mathlib.Omega.{arith}
use lib.Dec.{leb, ltb, eqb}
use lib.ListN.{length}
use borrow.Author.Tests.{le-leb, ltb-true}
use Rattle.std.specs.Bool.{then_some}
use Rattle.words.specs.Text.{Bytes}
use Rattle.ids.specs.declared.Refusal.{Refusal}
use Rattle.items.specs.Item.{places}
use Rattle.roster_conf.specs.declared.RespondersConf.{RespondersConf}
use Rattle.roster_conf.specs.Edits.{holds_rows}
use Rattle.roster_conf.specs.Conf.{Conf}
use Rattle.bodega.specs.Replica as machine
use Rattle.bodega.specs.Replica.{Call, Heartbeat, Guard, Reply, Notice, CommitNotice}
use Rattle.bodega.specs.Grounds.{grounds, unformed}
use Rattle.bodega.specs.Step.{Step, Refused, step, refusal_of}
use Rattle.bodega.specs.Answers.{due, Follows, Answers}
use Rattle.node.specs.declared.Node.{Node}
use Rattle.node.specs.declared.Taken.{Taken}
use Rattle.node.specs.View.{view, ready, given_of}
use Rattle.node.proofs.Calls.{is_ready}
use Rattle.call_apply.specs.declared.Call as code
use Rattle.call_apply.specs.declared.Call.TheVariants as call
use Rattle.call_apply.specs.Call.{call_of as applied, ready_for}
use Rattle.call_heartbeat.specs.Heartbeat.{fitting}
use Rattle.line_fields.specs.Number.{number_at}
use Rattle.line_kind.specs.declared.CallKind.{CallKind}
use Rattle.line_kind.specs.declared.CallKind.TheVariants as kinds
use Rattle.line_host.specs.Line.{is_heard, is_call, call_of}
use Rattle.line_host.specs.Follows.{AnswersLine, as_byte}
use Rattle.line_host.proofs.Laws.{not_both}
use Rattle.line_calls.specs.declared.Asked.{Asked}
use Rattle.line_calls.specs.Asks.{in_byte, AskedAs, heard_by, HeardAs}

-- ---- a replica number that no byte has: from 255 on the number of the refusal is the same

module _ (n : Node) (m : List ℕ) (places : ℕ) where
  past : (peer : ℕ) → 255 ≤ peer → ready n m ≡ true → leb n.population peer ≡ true
  past peer h e = le-leb n.population peer (omega (arith, is_ready n m true (sym e) refl))

  guard_3 : (number bar peer : ℕ) → 255 ≤ peer → ready n m ≡ true → refusal_of (view n m) (Guard peer number bar) places ≡ Some 3
  unfolding refusal_of grounds view
  guard_3 number bar peer h e = rw (past peer h e)

  reply_3 : (slot ballot peer : ℕ) → 255 ≤ peer → ready n m ≡ true → refusal_of (view n m) (Reply peer slot ballot) places ≡ Some 3
  unfolding refusal_of grounds view
  reply_3 slot ballot peer h e = rw (past peer h e)

  notice_3 : (slot ballot peer : ℕ) → 255 ≤ peer → ready n m ≡ true → refusal_of (view n m) (Notice peer slot ballot) places ≡ Some 3
  unfolding refusal_of grounds view
  notice_3 slot ballot peer h e = rw (past peer h e)

  commit_3 : (ballot bar peer : ℕ) → 255 ≤ peer → ready n m ≡ true → refusal_of (view n m) (CommitNotice peer ballot bar) places ≡ Some 3
  unfolding refusal_of grounds view
  commit_3 ballot bar peer h e = rw (past peer h e)

  heartbeat_3 : (ballot : ℕ) (conf : Option Conf) (commit exec snap peer : ℕ) → 255 ≤ peer → ready n m ≡ true
      → refusal_of (view n m) (Heartbeat peer ballot conf commit exec snap) places ≡ Some (if unformed conf then 2 else 3)
  unfolding refusal_of grounds view
  heartbeat_3 ballot conf commit exec snap peer h e = go (unformed conf) refl
    where
      go : (t : Bool) → unformed conf ≡ t → refusal_of (view n m) (Heartbeat peer ballot conf commit exec snap) places ≡ Some (if t then 2 else 3)
      go true f = rw f
      go false f = rw (f, past peer h e)

module _ (n : Node) (m area m' area' : List ℕ) (r : Result Taken Refusal) where
  as_byte_lem : (c : ℕ → Call) (k peer : ℕ) → ((p : ℕ) → 255 ≤ p → ready n m ≡ true → refusal_of (view n m) (c p) (places area) ≡ Some k)
      → Answers ready view (c (as_byte peer)) n m area (given_of n r) m' area' → Answers ready view (c peer) n m area (given_of n r) m' area'
  unfolding due step
  as_byte_lem c k peer f a = go (ltb 255 peer) refl a
    where
      due_k : (p : ℕ) → 255 ≤ p → (t : Bool) → ready n m ≡ t → (if t then step (view n m) (c p) (places area) else Refused 2) ≡ (if t then Refused k else Refused 2)
      due_k p l true g = rw (f p l g)
      due_k p l false g = refl

      go : (t : Bool) → ltb 255 peer ≡ t → Answers ready view (c (if t then 255 else peer)) n m area (given_of n r) m' area' → Answers ready view (c peer) n m area (given_of n r) m' area'
      go true g x =
          let q = due_k 255 (omega arith) (ready n m) refl ∙ sym (due_k peer (omega (arith, ltb-true 255 peer g)) (ready n m) refl) in
          subst (λ (y : Step). Follows ready view y n m area (given_of n r) m' area') q x
      go false g x = x

  -- what is answered to the call in bytes is answered to the call
  in_byte_lem : (c : Call) → Answers ready view (in_byte c) n m area (given_of n r) m' area' → Answers ready view c n m area (given_of n r) m' area'
  in_byte_lem (machine.Heartbeat peer ballot conf commit exec snap) a = as_byte_lem (λ p. Heartbeat p ballot conf commit exec snap) _ peer (heartbeat_3 n m (places area) ballot conf commit exec snap) a
  in_byte_lem (machine.Guard peer number bar) a = as_byte_lem (λ p. Guard p number bar) 3 peer (guard_3 n m (places area) number bar) a
  in_byte_lem (machine.Prepared ballot) a = a
  in_byte_lem (machine.Record slot ballot reqs) a = a
  in_byte_lem (machine.Reply peer slot ballot) a = as_byte_lem (λ p. Reply p slot ballot) 3 peer (reply_3 n m (places area) slot ballot) a
  in_byte_lem (machine.Notice peer slot ballot) a = as_byte_lem (λ p. Notice p slot ballot) 3 peer (notice_3 n m (places area) slot ballot) a
  in_byte_lem (machine.CommitNotice peer ballot bar) a = as_byte_lem (λ p. CommitNotice p ballot bar) 3 peer (commit_3 n m (places area) ballot bar) a
  in_byte_lem (machine.Bars start accept commit exec) a = a
  in_byte_lem (machine.Read leases q) a = a
  in_byte_lem (machine.Release slot) a = a

-- ---- a line whose call was made

well_formed : (good : Bool) (c : Call) (n : Node) (m area m' area' : List ℕ) (r : Result Taken Refusal) → good ≡ true → Answers ready view (in_byte c) n m area (given_of n r) m' area'
    → AnswersLine good c n m area r m' area'
well_formed good c n m area m' area' r g h =
    record {
      bad = λ b. not_both b g;
      well = λ b. in_byte_lem n m area m' area' r c h;
    }

-- ---- the calls but for the heartbeat ask nothing of the rows

abbrev beats : Call → Bool
beats (machine.Heartbeat peer ballot conf commit exec snap) = true
beats (machine.Guard peer number bar) = false
beats (machine.Prepared ballot) = false
beats (machine.Record slot ballot reqs) = false
beats (machine.Reply peer slot ballot) = false
beats (machine.Notice peer slot ballot) = false
beats (machine.CommitNotice peer ballot bar) = false
beats (machine.Bars start accept commit exec) = false
beats (machine.Read leases q) = false
beats (machine.Release slot) = false

no_beat : (kind : CallKind) (fs : List Bytes) → beats (in_byte (call_of kind fs)) ≡ false
no_beat kinds.Guard fs = refl
no_beat kinds.Prepared fs = refl
no_beat kinds.Reply fs = refl
no_beat kinds.Notice fs = refl
no_beat kinds.Commit fs = refl
no_beat kinds.Bars fs = refl
no_beat kinds.Read fs = refl
no_beat kinds.Release fs = refl

ready_for_lem : (d : code.Call) (rows text : List ℕ) → beats (applied d rows text) ≡ false → ready_for d rows ≡ ready
ready_for_lem (call.Heartbeat peer ballot conf commit exec snap) rows text e = absurd (true≢false e)
ready_for_lem (call.Guard peer number bar) rows text e = refl
ready_for_lem (call.Prepared ballot) rows text e = refl
ready_for_lem (call.Record slot ballot) rows text e = refl
ready_for_lem (call.Reply peer slot ballot) rows text e = refl
ready_for_lem (call.Notice peer slot ballot) rows text e = refl
ready_for_lem (call.Commit peer ballot bar) rows text e = refl
ready_for_lem (call.Bars start accept commit exec) rows text e = refl
ready_for_lem (call.Read client request leases) rows text e = refl
ready_for_lem (call.Release slot) rows text e = refl

pub asked : (kind : CallKind) (fs : List Bytes) (x : Asked) → AskedAs (is_call kind fs) (call_of kind fs) x → (n : Node) (m area : List ℕ) (r : Result Taken Refusal) (rows m' area' : List ℕ)
    → Answers (ready_for x.call rows) view (applied x.call rows x.key.now) n m area (given_of n r) m' area' → AnswersLine (is_call kind fs) (call_of kind fs) n m area r m' area'
asked kind fs x h n m area r rows m' area' a =
    let e = h.call rows in
    let q : ready_for x.call rows ≡ ready = ready_for_lem x.call rows x.key.now (ap beats e ∙ no_beat kind fs) in
    well_formed _ _ n m area m' area' r h.good (rw (q, e) at a)

-- ---- a heartbeat

fits_roster : (attached : Bool) (draft : RespondersConf) (rows : List ℕ) → holds_rows (length rows) draft.count ≡ true → fitting (then_some attached draft) rows ≡ true
fits_roster true draft rows h = h
fits_roster false draft rows h = refl

-- a roster that is whole asks no more of the node
whole_roster : (attached : Bool) (draft : RespondersConf) (rows : List ℕ) → holds_rows (length rows) draft.count ≡ true → (λ (k : Node) (w : List ℕ). ready k w && fitting (then_some attached draft) rows) ≡ ready
whole_roster attached draft rows e =
    fun_ext (λ (k : Node). fun_ext (λ (w : List ℕ). ap (λ (b : Bool). ready k w && b) (fits_roster attached draft rows e) ∙ and-true (ready k w)))

pub heard : (draft : RespondersConf) (fs : List Bytes) (d : code.Call) → HeardAs draft fs d → (n : Node) (m area : List ℕ) (r : Result Taken Refusal) (rows text m' area' : List ℕ) → holds_rows (length rows) draft.count ≡ true
    → Answers (ready_for d rows) view (applied d rows text) n m area (given_of n r) m' area' → AnswersLine (is_heard fs) (heard_by draft rows fs) n m area r m' area'
heard draft fs d h n m area r rows text m' area' w a =
    let q = whole_roster (eqb (number_at fs 2) 1) draft rows w in
    well_formed (is_heard fs) (heard_by draft rows fs) n m area m' area' r h.good
    (subst (λ (z : Node → List ℕ → Bool). Answers z view (in_byte (heard_by draft rows fs)) n m area (given_of n r) m' area') q (rw h.call at a))
