-- *notice*: its grounds; below start; of a higher ballot; of the replica's own.
use Rattle.std.specs.Prelude.{if◌then◌else◌, Result, Ok, Err, IsErrAnd}
use borrow.Author.Rules.{rules}
use Rattle.std.specs.Ordering.{is_lt, nat_cmp}
use Rattle.std.specs.Result.{result_unwrap_or}
use mathlib.Core.Path.{◌≡◌, refl, sym, ap, ◌∙◌}
use mathlib.Core.Bool.{Bool, true, false, not, ◌&&◌, true≢false}
use mathlib.Core.List.{List, [], ◌∷◌}
use Rattle.std.specs.Prelude.{Option}
use Prim.Native.Nat.{ℕ, ◌+◌, ◌-◌, ◌*◌, ◌/◌, ◌≤◌, ◌<◌}
use native.Mathlib.Nat.{zero-add}
use native.Mathlib.Decide.{dec_lt}
use native.Mathlib.Omega.{arith}
use lib.Dec.{ltb, leb, eqb}
use lib.ListN.{length, take, drop}
use borrow.Author.Tests.{lt-ltb, le-ltb, le-leb, lt-leb, leb-false}
use Rattle.words.specs.Part.{part, splice, length_part}
use Rattle.words.specs.Writes.{writes}
use Rattle.ids.specs.Leader.{leader_of}
use Rattle.ids.specs.declared.Ballot.{Ballot}
use Rattle.ids.specs.Limits.{window}
use Rattle.layout.specs.Layout.{slot_places, slot_words, roster_words, rows_at, slots_at, node_words}
use Rattle.items.specs.Item.{Lead, encode, places}
use Rattle.items.specs.Area.{HasRoom, put_item, put_answer}
use Rattle.items.proofs.Laws.{answer_err, answer_ok, put_area}
use Rattle.roster_conf.specs.Conf.{Conf, into_filtered}
use Rattle.roster_conf.specs.Edit.{IntoFiltered, edit, edit_result, taken, grounds as edit-grounds}
use Rattle.roster_conf.specs.Edits.{view as roster_of, due as edit-due, Leaves, Edits}
use Rattle.roster_conf.specs.Ground.{◌when◌or◌}
use Rattle.roster_conf.specs.declared.RespondersConf.{RespondersConf}
use Rattle.bodega.specs.Replica as machine
use Rattle.bodega.specs.Heartbeat.{check_ballot}
use Rattle.bodega.specs.Messages.{noticed, handle_msg_accept_notice}
use Rattle.bodega.specs.Grounds.{grounds}
use Rattle.bodega.specs.Step.{effect}
use Rattle.bodega.specs.Answers.{Answers}
use Rattle.insts.specs.Slots.{insts_of}
use Rattle.accept_notice_at.specs.Notices.{Noticed, noticed_at, after, NotesAt}
use Rattle.accept_notice_at.proofs.Laws.{after_range}
use Rattle.accept_notice_at.proofs.Machine.{noticed_is}
use Rattle.node.specs.declared.Node.{Node}
use Rattle.node.specs.declared.Taken.{Taken}
use Rattle.node.specs.View.{view, ready, given_of, lowest, leads_it}
use Rattle.node.proofs.Calls.{Ready, is_ready, made_ready, refused_by, few_places, taken_with, taken_by, none_applies}
use Rattle.node.proofs.Frames.{rows_back, rows_size_lem, rows_beyond, slots_back, slots_size, slots_beyond}
use Rattle.call_notice.specs.Notice.{notice_refusal, step_down, StepsDown}
use Rattle.std.specs.Prelude.{Result, Ok, Err}
use Rattle.ids.specs.declared.Refusal.{Refusal}
use Rattle.ids.specs.declared.Refusal.TheVariants.{AreaTooSmall}
use Rattle.ids.specs.Refusal.{number_of}

pub less : (a b : ℕ) → true ≡ is_lt (nat_cmp a b) → a < b
less a b e = search rules

pub leads_is : (n : Node) (t : Bool) → t ≡ machine.is_leader (view n []) → t ≡ leads_it (leader_of n.bodega_conf.leader) n.id.0
unfolding view roster_of
leads_is n t e = e

-- ---- the roster without a replica

module _ (c : RespondersConf) (s : List ℕ) (p id : ℕ) (w : (id < p) × (p ≤ 64) × (c.count ≤ 64) × (roster_words ≤ length s)) where
  due_is : edit-due p c s (IntoFiltered id) ≡ taken (into_filtered id (roster_of c s))
  unfolding edit-due edit_result edit edit-grounds
  due_is = simp (le-leb roster_words (length s) w.3, le-leb c.count 64 w.2, le-leb 1 p (omega (arith, w.0)), le-leb p 64 w.1, lt-leb p id w.0)

  -- the edit never fails
  pub filtered_is : (r : Result RespondersConf Refusal) (after : List ℕ) → Edits (IntoFiltered id) p c s r after → (d : RespondersConf) → length after ≡ length s → d ≡ result_unwrap_or r c
      → (roster_of d after ≡ into_filtered id (roster_of c s)) × (d.count ≤ 64) × (length after ≡ length s)
  filtered_is (Ok x) after w d l e =
      let y : Leaves (into_filtered id (roster_of c s)) s x after = rw due_is at w in
      rw e (y.roster, y.few, l)
  filtered_is (Err x) after w d l e = absurd (rw due_is at w)

-- ---- a leader that steps down

pub no_lead : (led : Bool) (area : List ℕ) → led ≡ false → StepsDown led area (Ok 0) area
unfolding encode
no_lead led area h = rw h (refl, omega arith, refl)

lead_items : (area : List ℕ) → writes area 0 (encode (Lead false ∷ [])) ≡ writes area (0 * 6) (9 ∷ 0 ∷ 0 ∷ 0 ∷ 0 ∷ 0 ∷ [])
unfolding encode
lead_items area = refl

module _ (led : Bool) (area after : List ℕ) (h : led ≡ true) (p : after ≡ (put_item area 0 (Lead false)).area) where
  pub lead_put : (u : Unit {0}) → Ok u ≡ put_answer (put_item area 0 (Lead false)) → StepsDown led area (Ok 1) after
  lead_put u e =
      let k = answer_ok area 0 (Lead false) u e in
      rw h (refl, omega arith, p ∙ put_area area 0 (Lead false) k ∙ sym (lead_items area))

  pub no_place : (x : Refusal) (r : Result ℕ Refusal) → Err x ≡ put_answer (put_item area 0 (Lead false)) → IsErrAnd r (λ v. v ≡ x) → StepsDown led area r after
  no_place x (Ok k) e i = absurd i
  no_place x (Err v) e i =
      let k = answer_err area 0 (Lead false) x e in
      rw h (i ∙ k.0, omega (arith, k.1), p ∙ k.2)

-- ---- the node after

abbrev pub stepped : Node → RespondersConf → Ballot → Node
stepped n c b = record n { bodega_conf = c; bal_max_seen = b }

abbrev pub grown : Node → ℕ → Node
grown n k = record n { slots = k }

pub rows_long : (m : List ℕ) → node_words ≤ length m → length (take roster_words (drop rows_at m)) ≡ roster_words
unfolding part
rows_long m h = length_part m rows_at roster_words (omega arith)

-- ---- the call

module _ (n : Node) (m area : List ℕ) (peer slot : ℕ) (b : Ballot) (z : ready n m ≡ true)
    (cur : Bool) (y : cur ≡ not (leads_it (leader_of n.bodega_conf.leader) n.id.0) && eqb b.0 n.bal_max_seen.0) where
  abbrev start : ℕ
  start = n.start_slot.0

  abbrev seen : ℕ
  seen = n.bal_max_seen.0

  abbrev leader : Option ℕ
  leader = leader_of n.bodega_conf.leader

  abbrev call : machine.Call
  call = machine.Notice peer slot b.0

  abbrev refusal : ℕ
  refusal = notice_refusal n.population cur n.start_slot.0 peer slot

  refusal_is : refusal ≡ lowest (grounds (view n m) call)
  unfolding grounds view roster_of
  refusal_is = ap (λ (c : Bool). lowest (3 when leb n.population peer or 8 when ltb 281474976710655 slot or 15 when c && leb (start + window) slot or [])) y

  pub notice_refused : (x : Refusal) (w : Result Taken Refusal) → number_of x ≡ refusal → IsErrAnd w (λ u. u ≡ x) → Answers ready view call n m area (given_of n w) m area
  notice_refused x w g = refused_by call n m area true (sym z) refl x w (g ∙ refusal_is)

  r : Ready n m
  r = is_ready n m true (sym z) refl

  pub long : node_words ≤ length m
  long = r.long

  pub filter_room : (n.id.0 < n.population) × (n.population ≤ 64) × (n.bodega_conf.count ≤ 64) × (roster_words ≤ length (take roster_words (drop rows_at m)))
  filter_room = (r.own, r.few, r.ranges, omega (arith, rows_long m r.long))

  module _ (g : 0 ≡ refusal) where
    number_is : 0 ≡ lowest (grounds (view n m) call)
    number_is = g ∙ refusal_is

    below_is : slot < start → effect (view n m) call ≡ machine.done (view n m) []
    unfolding effect handle_msg_accept_notice view
    below_is h = rw (lt-ltb slot start h)

    pub below_start : slot < start → Answers ready view call n m area (given_of n (Ok (record { node = n; count = 0 }))) m area
    below_start h = taken_by call n m number_is area true (sym z) refl (view n m) n m (below_is h) refl refl (λ j l. refl) z

    module _ (h : start ≤ slot) where
      -- a higher ballot
      module _ (a : seen < b.0) (led : Bool) (x : led ≡ leads_it leader n.id.0) where
        abbrev demoted : machine.Replica
        demoted = machine.with_max_seen b.0 (machine.with_conf (into_filtered n.id.0 (view n m).conf) (view n m))

        higher_is : effect (view n m) call ≡ machine.done demoted (step_down led)
        unfolding effect handle_msg_accept_notice check_ballot view roster_of
        higher_is = rw (le-ltb slot start h, lt-ltb seen b.0 a) (ap (λ (l : Bool). machine.done demoted (step_down l)) (sym x))

        pub higher_20 : (q : Refusal) (w : Result Taken Refusal) (area' : List ℕ) → StepsDown led area (Err q) area' → IsErrAnd w (λ u. u ≡ q) → Answers ready view call n m area (given_of n w) m area'
        higher_20 q w area' s e = rw (s.2) (few_places call n m number_is area true (sym z) refl q w (s.0, rw higher_is s.1) e)

        module _ (c : RespondersConf) (rows : List ℕ)
            (v : (roster_of c rows ≡ into_filtered n.id.0 (roster_of n.bodega_conf (take roster_words (drop rows_at m)))) × (c.count ≤ 64) × (length rows ≡ length (take roster_words (drop rows_at m)))) where
          abbrev d : Node
          d = stepped n c b

          size : length rows ≡ roster_words
          size = v.2 ∙ rows_long m r.long

          roster_back : view d (splice m rows_at roster_words rows) ≡ demoted
          unfolding view part
          roster_back = rows_back d m r.long rows size ∙ ap (λ (o : Conf). machine.with_conf o (view d m)) v.0

          ready_d : ready d (splice m rows_at roster_words rows) ≡ true
          ready_d =
              made_ready d (splice m rows_at roster_words rows)
              (record {
                long = rw (rows_size_lem n m r.long rows size) r.long;
                quorate = r.quorate;
                enough = r.enough;
                few = r.few;
                own = r.own;
                ranges = v.1;
                start_low_lem = r.start_low_lem;
                start_exec_lem = r.start_exec_lem;
                exec_commit_lem = r.exec_commit_lem;
                window = r.window;
                commit_end_lem = r.commit_end_lem;
              })

          pub higher_taken : (count : ℕ) (area' : List ℕ) → StepsDown led area (Ok count) area' → Answers ready view call n m area (given_of n (Ok (record { node = d; count = count }))) (splice m rows_at roster_words rows) area'
          higher_taken count area' s =
              rw s.0
              (taken_with call n m number_is area true (sym z) refl demoted (step_down led) d (splice m rows_at roster_words rows) area' higher_is
              (rw (← s.0) s.1) roster_back s.2 (rows_size_lem n m r.long rows size) (rows_beyond n m r.long rows size) ready_d)

      -- none higher
      module _ (a : b.0 ≤ seen) where
        handled_by : effect (view n m) call ≡ (if cur then noticed (machine.pad slot (view n m)) peer slot b.0 else machine.done (view n m) [])
        unfolding effect handle_msg_accept_notice view roster_of
        handled_by =
            rw (le-ltb slot start h, le-ltb seen b.0 a)
            (ap (λ (c : Bool). if c then noticed (machine.pad slot (view n m)) peer slot b.0 else machine.done (view n m) []) (sym y))

        pub other_taken : cur ≡ false → Answers ready view call n m area (given_of n (Ok (record { node = n; count = 0 }))) m area
        other_taken q =
            taken_by call n m number_is area true (sym z) refl (view n m) n m
            (handled_by ∙ ap (λ (c : Bool). if c then noticed (machine.pad slot (view n m)) peer slot b.0 else machine.done (view n m) []) q) refl refl (λ j l. refl) z

        module _ (q : cur ≡ true) where
          abbrev i : ℕ
          i = slot - start

          abbrev due : Noticed
          due = noticed_at n.quorum leader peer b.0 i (insts_of start n.slots (part m slots_at slot_words))

          noticed_here : effect (view n m) call ≡ machine.done (machine.with_insts due.insts (view n m)) due.items
          unfolding view roster_of
          noticed_here =
              handled_by ∙ ap (λ (c : Bool). if c then noticed (machine.pad slot (view n m)) peer slot b.0 else machine.done (view n m) []) q
              ∙ noticed_is (view n m) peer slot b.0 h

          in_window : slot < start + window
          unfolding grounds view roster_of
          in_window =
              let no : cur && leb (start + window) slot ≡ false = ap (λ (c : Bool). c && leb (start + window) slot) y ∙ (none_applies call n m number_is).1.1.0 in
              leb-false (start + window) slot (ap (λ (c : Bool). c && leb (start + window) slot) (sym q) ∙ no)

          pub below : (i < slot_places) × (slot_words ≤ length (part m slots_at slot_words))
          below = (omega (arith, in_window), omega (arith, length_part m slots_at slot_words (omega (arith, r.long))))

          module _ (many : ℕ) (l : (o : Option ℕ) → many ≡ length (noticed_at n.quorum o peer b.0 i (insts_of start n.slots (part m slots_at slot_words))).items) where
            pub notice_20 : (x : Refusal) (w : Result Taken Refusal) → HasRoom area many (Err x) → IsErrAnd w (λ u. u ≡ x) → Answers ready view call n m area (given_of n w) m area
            notice_20 x w o = few_places call n m number_is area true (sym z) refl x w (o.0, rw (noticed_here, ← l leader) o.1)

            module _ (o : many ≤ places area) where
              pub room : length due.items ≤ places area
              room = rw (← l leader) o

              module _ (s' area' : List ℕ) (count : ℕ) (x : NotesAt n.quorum leader peer b.0 start n.slots i 0 (part m slots_at slot_words) area count s' area')
                  (held : ℕ) (v : held ≡ after n.slots i) where
                abbrev d' : Node
                d' = grown n held

                long' : length s' ≡ slot_words
                long' = x.size ∙ length_part m slots_at slot_words (omega (arith, r.long))

                slots_here : view d' (splice m slots_at slot_words s') ≡ machine.with_insts due.insts (view n m)
                unfolding view
                slots_here =
                    slots_back d' m r.long s' long'
                    ∙ ap (λ (is : List machine.Instance). machine.with_insts is (view d' m)) (ap (λ (j : ℕ). insts_of start j s') v ∙ x.insts)

                ready_d' : ready d' (splice m slots_at slot_words s') ≡ true
                ready_d' =
                    let w = after_range n.slots i r.window below.0 in
                    made_ready d' (splice m slots_at slot_words s')
                    (record {
                      long = rw (slots_size n m r.long s' long') r.long;
                      quorate = r.quorate;
                      enough = r.enough;
                      few = r.few;
                      own = r.own;
                      ranges = r.ranges;
                      start_low_lem = r.start_low_lem;
                      start_exec_lem = r.start_exec_lem;
                      exec_commit_lem = r.exec_commit_lem;
                      window = omega (arith, w.1, v);
                      commit_end_lem = omega (arith, w.0, v, r.commit_end_lem);
                    })

                pub notice_taken : Answers ready view call n m area (given_of n (Ok (record { node = d'; count = count }))) (splice m slots_at slot_words s') area'
                notice_taken =
                    rw (x.next ∙ zero-add (length due.items))
                    (taken_with call n m number_is area true (sym z) refl (machine.with_insts due.insts (view n m)) due.items d' (splice m slots_at slot_words s') area' noticed_here
                    room slots_here x.items (slots_size n m r.long s' long') (slots_beyond n m r.long s' long') ready_d')
