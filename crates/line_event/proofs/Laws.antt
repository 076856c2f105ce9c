-- What a line's call, edit or listing leaves for the host.
use Rattle.std.specs.Prelude.{if◌then◌else◌}
use mathlib.Core.Path.{◌≡◌, refl, sym, ap, subst, ◌∙◌}
use mathlib.Core.Bool.{Bool, true, false, ◌&&◌, true≢false, and-true, and-false}
use mathlib.Core.List.{List, [], ◌∷◌, ◌++◌}
use Rattle.std.specs.Prelude.{Option, None, Some, IsSome}
use Prim.Native.Nat.{ℕ, ◌+◌, ◌*◌, ◌<◌, ◌≤◌}
use native.Mathlib.Omega.{arith}
use lib.Dec.{leb, ltb, eqb}
use lib.ListN.{length, length-append, length-map}
use borrow.Author.Tests.{le-leb, lt-leb, lt-ltb, le-ltb, leb-true, ltb-false, eqb-true}
use denote.Bor.{Bor}
use Rattle.words.specs.Text.{Bytes}
use Rattle.words.specs.Choice.{if_none◌then◌else◌}
use Rattle.words.proofs.Tests.{and_both}
use Rattle.ids.specs.Limits.{items}
use Rattle.items.specs.Item.{Item, encode, places}
use Rattle.roster_conf.specs.declared.RespondersConf.{RespondersConf}
use Rattle.roster_conf.specs.Ground.{Ground, ◌when◌or◌, refusal}
use Rattle.roster_conf.proofs.Grounds.{NoneApply, none_apply, not_0, edit_positive}
use Rattle.roster_conf.specs.Conf.{Conf}
use Rattle.roster_conf.specs.Edit.{Edit, grounds, edit_result, edit}
use Rattle.roster_conf.specs.Edit as answers
use Rattle.roster_conf.specs.Edits.{holds_rows, in_range, Gives, due}
use Rattle.roster_conf.specs.Edits as edits-specs
use Rattle.roster_show.specs.Show.{Listing, listing, show, spans_of}
use Rattle.roster_map.proofs.Laws.{length_ranges}
use Rattle.bodega.specs.Replica.{Replica, Call, Heartbeat, fresh}
use Rattle.bodega.specs.Step.{Step, Refused, Taken, step, step_by, refusal_of, all_grounds, effect}
use Rattle.bodega.specs.Grounds as machine-grounds
use Rattle.bodega.specs.Answers as machine
use Rattle.bodega.proofs.Taken.{refused_not_0}
use Rattle.node.specs.declared.Node.{Node}
use Rattle.node.specs.declared.Taken as code-taken
use Rattle.node.specs.View.{size, view, ready, given_of, in_range as inRangeOf}
use Rattle.node.proofs.Calls.{is_ready, number-not-0}
use Rattle.line_fields.specs.Split.{fields_from}
use Rattle.line_fields.specs.Reads.{none_left}
use Rattle.line_kind.specs.Kind.{kind_of}
use Rattle.line_kind.specs.declared.Kind.{Kind}
use Rattle.line_fields.proofs.Laws.{from_start, some_left}
use Rattle.line_reader.specs.declared.LineReader.{LineReader}
use Rattle.line_reader.specs.Takes.{moved_to, FirstBytes, TakesBytes}
use Rattle.line_host.specs.declared.Host as code
use Rattle.line_host.specs.Line.{Line, NodeLine, EditLine, ShowLine, HeardLine, CallLine, only, line_by, line_of}
use Rattle.line_host.specs.Host.{Host, LineResult, refused_line, first_line, line_at, answer_line, text_of}
use Rattle.line_host.specs.Host as lines
use Rattle.line_host.specs.Follows.{host_of, sound, LineTaken, LineGiven, line_given, LineFollowsBy, LineFollows, result_by, AnswersLine, EditsLine}
use Rattle.line_draft.specs.Drafts.{ShowsLine, Refuses, BeginsLine, BeginsBy}
use Rattle.line_answer.specs.Text.{refused_text}
use Rattle.text.specs.Wrote.{Wrote}
use Rattle.line_answer.specs.Wrote.{Says, Answered}
use Rattle.line_answer.proofs.Items.{holds}
use Rattle.words.specs.Writes.{length_writes}
use Rattle.layout.specs.Layout.{roster_words, node_words}
use Rattle.line_event.specs.Ways as ways
use Rattle.line_event.specs.Event.{whole, fit, due_in, due as due-line, told, Stays, AnswersEvent}
use Rattle.std.specs.Prelude.{Result, Ok, Err, IfOk, option_map}
use Rattle.std.specs.Bool.{then_some}
use Rattle.ids.specs.declared.Refusal.{Refusal}
use Rattle.ids.specs.declared.Refusal.TheVariants.{Malformed, NotReady}
use Rattle.ids.specs.Refusal.{number_of}

-- ---- a refusal changes nothing

turned_acts : (x : Refusal) (next : Host) (h : code.Host) (mem rows area : List ℕ) → 0 < number_of x → LineFollowsBy next (lines.Refusal (number_of x)) h mem rows area (line_given h (Err x)) mem rows area
turned_acts x next h mem rows area p =
    record { refused = p; number = refl; count = refl; same_host = refl; same_mem = refl; same_rows = refl; same_area = refl }

-- ---- calls

step_positive : (r : Replica) (c : Call) (places n : ℕ) → step r c places ≡ Refused n → 0 < n
unfolding step
step_positive r c places n e = go (refusal_of r c places) refl e
  where
    go : (o : Option ℕ) → refusal_of r c places ≡ o → step_by o (effect r c) ≡ Refused n → 0 < n
    go None f g = let z : ◌≡◌ {A = ℕ} 0 1 = cc in absurd (omega arith)
    go (Some k) f g = let q : k ≡ n = cc in refused_not_0 r c places n (f ∙ ap Some q)

-- what a line leaves, by what it gives
abbrev FollowsGiven : LineResult → code.Host → List ℕ → List ℕ → List ℕ → LineGiven → List ℕ → List ℕ → List ℕ → Type 0
FollowsGiven t h mem rows area g mem' rows' area' = LineFollowsBy t.host t.outcome h mem rows area g mem' rows' area'

-- the host after a call
abbrev given_host : code.Host → machine.Given Node → LineGiven
given_host h g = record { number = g.number; count = g.count; host = record { node = g.node; draft = h.draft } }

called_given : (h : code.Host) (a : Result code-taken.Taken Refusal) → line_given h (ways.called h a) ≡ given_host h (given_of h.node a)
called_given h (Ok t) = refl
called_given h (Err x) = refl

module _ (h : code.Host) (mem rows area mem' area' : List ℕ) (a : Result code-taken.Taken Refusal) (r : LineGiven) (e : r ≡ given_host h (given_of h.node a)) where
  refuses : (n : ℕ) (next : Host) → 0 < n → machine.Refuses ready view n h.node mem area (given_of h.node a) mem' area' → LineFollowsBy next (lines.Refusal n) h mem rows area r mem' rows area'
  refuses n next p f =
      rw e
      (record {
        refused = p;
        number = f.number;
        count = f.count;
        same_host = λ i. record { node = f.same_node i; draft = h.draft };
        same_mem = f.same_mem;
        same_rows = refl;
        same_area = f.same_area;
      })

  module _ (s : sound h.draft mem rows ≡ true) where
    long_again : length mem' ≡ length mem → sound h.draft mem' rows ≡ true
    unfolding sound
    long_again l = rw l s

    takes : (x : Replica) (l : List Item) → machine.Takes ready view x l mem area (given_of h.node a) mem' area'
        → LineFollowsBy (record { node = Some x; draft = (host_of h mem rows).draft }) (lines.Items l) h mem rows area r mem' rows area'
    takes x l t =
        rw e
        (record {
          number = t.number;
          count = t.count;
          host = rw (t.ready_again, t.next);
          items = t.items;
          mem_size = t.size;
          rows_size = refl;
          beyond_mem = t.beyond;
          beyond_rows = λ j b. refl;
          sound_again = long_again t.size;
        })

    follows : (x : Step) (H : Host) → H ≡ host_of h mem rows → ((n : ℕ) → x ≡ Refused n → 0 < n) → machine.Follows ready view x h.node mem area (given_of h.node a) mem' area'
        → LineFollowsBy (lines.called H x).host (lines.called H x).outcome h mem rows area r mem' rows area'
    follows (Refused n) H g p f = refuses n H (p n refl) f
    follows (Taken x l) H g p f = rw g (takes x l f)

    -- a line that is the call c: where there is no node it is refused 2
    pub acts : (good : Bool) (c : Call) (l : Line) → places area ≡ items → ((H : Host) → first_line H l ≡ refused_line H 2)
        → ((x : Replica) → line_at (host_of h mem rows) x l ≡ lines.called (host_of h mem rows) (step x c items)) → AnswersLine good c h.node mem area a mem' area'
        → FollowsGiven (result_by (host_of h mem rows) (only good l)) h mem rows area r mem' rows area'
    unfolding machine.due
    acts false c l q first later f = refuses 1 (host_of h mem rows) (omega arith) (f.bad refl)
    acts true c l q first later f = go (ready h.node mem) refl (f.well refl)
      where
        go : (t : Bool) → ready h.node mem ≡ t
            → machine.Follows ready view (if t then step (view h.node mem) c (places area) else Refused 2) h.node mem area (given_of h.node a) mem' area'
            → FollowsGiven (if_none (if t then Some (view h.node mem) else None) then first_line (host_of h mem rows) l else λ x. line_at (host_of h mem rows) x l) h mem rows area r mem' rows area'
        go true g k = rw (later (view h.node mem)) (follows _ _ refl (step_positive _ c items) (rw q at k))
        go false g k = rw (first (host_of h mem rows)) (refuses 2 (host_of h mem rows) (omega arith) k)

-- the nine calls' lines, and the heartbeat's
pub call_line : (h : code.Host) (mem rows area mem' area' : List ℕ) (a : Result code-taken.Taken Refusal) (r : Result LineTaken Refusal) (good : Bool) (c : Call) → r ≡ ways.called h a → sound h.draft mem rows ≡ true → places area ≡ items
    → AnswersLine good c h.node mem area a mem' area' → LineFollows (result_by (host_of h mem rows) (only good (CallLine c))) h mem rows area r mem' rows area'
unfolding first_line line_at
call_line h mem rows area mem' area' a r good c e s q f = acts h mem rows area mem' area' a (line_given h r) (ap (line_given h) e ∙ called_given h a) s good c (CallLine c) q (λ H. refl) (λ x. refl) f

pub heard_line_lem : (h : code.Host) (mem rows area mem' area' : List ℕ) (a : Result code-taken.Taken Refusal) (r : Result LineTaken Refusal) (good : Bool) (peer ballot : ℕ) (attached : Bool) (commit exec snap : ℕ) → r ≡ ways.called h a
    → sound h.draft mem rows ≡ true → places area ≡ items
    → (holds_rows (length rows) h.draft.count ≡ true
    → AnswersLine good (Heartbeat peer ballot (option_map (λ c. edits-specs.view c rows) (then_some attached h.draft)) commit exec snap) h.node mem area a mem' area')
    → LineFollows (result_by (host_of h mem rows) (only good (HeardLine peer ballot attached commit exec snap))) h mem rows area r mem' rows area'
unfolding first_line line_at sound
heard_line_lem h mem rows area mem' area' a r good peer ballot attached commit exec snap e s q f =
    acts h mem rows area mem' area' a (line_given h r) (ap (line_given h) e ∙ called_given h a) s good _ (HeardLine peer ballot attached commit exec snap) q (λ H. refl)
    (λ x. ap (λ (o : Option Conf). lines.called (host_of h mem rows) (step x (Heartbeat peer ballot o commit exec snap) items)) (carries attached))
    (f (and_both (leb size (length mem)) _ s).1)
  where
    carries : (b : Bool) → (if b then Some (edits-specs.view h.draft rows) else None) ≡ option_map (λ c. edits-specs.view c rows) (then_some b h.draft)
    carries true = refl
    carries false = refl

-- ---- edits

abbrev Above0 : answers.EditResult → Type 0
Above0 (answers.refused n) = 0 < n
Above0 (answers.taken c) = Unit {0}

answer_positive : (population : ℕ) (c : Conf) (e : Edit) → Above0 (edit_result population c e)
unfolding edit_result
answer_positive population c e = go (refusal (grounds population c e)) refl
  where
    go : (o : Option ℕ) → refusal (grounds population c e) ≡ o → Above0 (if_none o then answers.taken (edit c e) else answers.refused)
    go None f = tt
    go (Some n) f = not_0 (grounds population c e) n (edit_positive population c e) f

module _ (h : code.Host) (mem rows area rows' : List ℕ) (s : sound h.draft mem rows ≡ true) (l : length rows' ≡ length rows) where
  gives : (x : answers.EditResult) (d : Result RespondersConf Refusal) → Above0 x → Gives x d rows rows' → FollowsGiven (lines.edited (host_of h mem rows) x) h mem rows area (line_given h (ways.edited h d)) mem rows' area
  unfolding sound encode
  gives (answers.refused n) (Err k) p g =
      record { refused = p; number = g.0; count = refl; same_host = refl; same_mem = refl; same_rows = g.1; same_area = refl }
  gives (answers.refused n) (Ok c) p g = absurd g
  gives (answers.taken c) (Err k) p g = absurd g
  gives (answers.taken c) (Ok k) p g =
      let m = and_both (leb size (length mem)) (holds_rows (length rows) h.draft.count) s in
      record {
        number = refl;
        count = refl;
        host = rw g.roster;
        items = refl;
        mem_size = refl;
        rows_size = l;
        beyond_mem = λ j b. refl;
        beyond_rows = g.beyond;
        sound_again = rw (m.0, l, (and_both (leb roster_words (length rows)) (leb h.draft.count 64) m.1).0, le-leb k.count 64 g.few);
      }

  -- the population that the code gave the edit
  by_population : (d : Result RespondersConf Refusal) (good : Bool) (x : Edit) (population : ℕ) → population ≡ (if ready h.node mem then h.node.population else 0) → EditsLine good x population h.draft rows d rows'
      → FollowsGiven (result_by (host_of h mem rows) (only good (EditLine x))) h mem rows area (line_given h (ways.edited h d)) mem rows' area
  unfolding due line_at first_line sound view
  by_population d false x population p f = gives (answers.refused 1) d (omega arith) (f.bad refl)
  by_population d true x population p f = go (ready h.node mem) refl p (f.well refl)
    where
      whole : holds_rows (length rows) h.draft.count ≡ true
      whole = (and_both (leb size (length mem)) _ s).1

      go : (t : Bool) → ready h.node mem ≡ t → population ≡ (if t then h.node.population else 0) → Gives (due population h.draft rows x) d rows rows'
          → FollowsGiven (if_none (if t then Some (view h.node mem) else None) then first_line (host_of h mem rows) (EditLine x) else λ y. line_at (host_of h mem rows) y (EditLine x)) h mem rows area (line_given h (ways.edited h d)) mem rows'
          area
      go true g u k =
          let y = is_ready h.node mem true (sym g) refl in
          let b : in_range population ≡ true = rw (le-leb 1 population (omega (arith, u, y)), le-leb population 64 (omega (arith, u, y))) in
          let w : Gives (edit_result population (edits-specs.view h.draft rows) x) d rows rows' = rw (whole, b) at k in
          gives (edit_result h.node.population (edits-specs.view h.draft rows) x) d (answer_positive h.node.population (edits-specs.view h.draft rows) x) (rw u at w)
      go false g u k =
          let b : in_range population ≡ false = rw (lt-leb 1 population (omega (arith, u))) in
          let w : Gives (answers.refused 2) d rows rows' = rw (whole, b) at k in
          gives (answers.refused 2) d (omega arith) w

pub edit_line : (h : code.Host) (mem rows area rows' : List ℕ) (d : Result RespondersConf Refusal) (r : Result LineTaken Refusal) → r ≡ ways.edited h d → sound h.draft mem rows ≡ true → length rows' ≡ length rows
    → (good : Bool) (x : Edit) (population : ℕ) → population ≡ (if ready h.node mem then h.node.population else 0) → EditsLine good x population h.draft rows d rows'
    → LineFollows (result_by (host_of h mem rows) (only good (EditLine x))) h mem rows area r mem rows' area
edit_line h mem rows area rows' d r e s l good x population p f = rw e (by_population h mem rows area rows' s l d good x population p f)

-- ---- the listing

show_length : (c : RespondersConf) (rows : List ℕ) → c.count ≤ 64 → length (show (edits-specs.view c rows)) ≤ 65
unfolding show spans_of edits-specs.view
show_length c rows l = simp (length-append, length-map, length_ranges) (omega arith)

module _ (h : code.Host) (mem rows area area' : List ℕ) (d : Result ℕ Refusal) (s : sound h.draft mem rows ≡ true) (q : places area ≡ items) where
  shown_refused : (x : Refusal) → 0 < number_of x → d ≡ Err x → area' ≡ area → LineFollowsBy (host_of h mem rows) (lines.Refusal (number_of x)) h mem rows area (line_given h (told h d)) mem rows area'
  shown_refused x p f g = rw f (record { refused = p; number = refl; count = refl; same_host = refl; same_mem = refl; same_rows = refl; same_area = g })

  room : h.draft.count ≤ 64
  unfolding sound
  room = leb-true h.draft.count 64 (and_both (leb roster_words (length rows)) _ (and_both (leb size (length mem)) _ s).1).1

  lists : ◌≡◌ {A = Listing} (record { answer = d; area = area' }) (listing h.draft rows area)
      → LineFollowsBy (host_of h mem rows) (lines.Items (show (edits-specs.view h.draft rows))) h mem rows area (line_given h (told h d)) mem rows area'
  unfolding listing sound
  lists f =
      let whole : holds_rows (length rows) h.draft.count ≡ true = (and_both (leb size (length mem)) _ s).1 in
      let fits : ltb (places area) (length (show (edits-specs.view h.draft rows))) ≡ false = le-ltb (places area) (length (show (edits-specs.view h.draft rows))) (omega (arith, q, room, show_length h.draft rows room)) in
      let g = rw (whole, fits) at f in
      rw (ap (λ (x : Listing). x.answer) g)
      (record {
        number = refl;
        count = refl;
        host = refl;
        items = ap (λ (x : Listing). x.area) g;
        mem_size = refl;
        rows_size = refl;
        beyond_mem = λ j b. refl;
        beyond_rows = λ j b. refl;
        sound_again = s;
      })

  shows_line : (good : Bool) (population : ℕ) → population ≡ (if ready h.node mem then h.node.population else 0) → ShowsLine good population h.draft rows area d area'
      → FollowsGiven (result_by (host_of h mem rows) (only good ShowLine)) h mem rows area (line_given h (told h d)) mem rows area'
  unfolding line_at first_line
  shows_line false population p f = shown_refused Malformed (omega arith) (f.bad refl).0 (f.bad refl).1
  shows_line true population p f = go (ready h.node mem) refl p
    where
      go : (t : Bool) → ready h.node mem ≡ t → population ≡ (if t then h.node.population else 0)
          → FollowsGiven (if_none (if t then Some (view h.node mem) else None) then first_line (host_of h mem rows) ShowLine else λ y. line_at (host_of h mem rows) y ShowLine) h mem rows area (line_given h (told h d)) mem rows area'
      go true g u = lists (f.well refl (λ z. omega (arith, u, is_ready h.node mem true (sym g) refl)))
      go false g u = shown_refused NotReady (omega arith) (f.unmade refl u).0 (f.unmade refl u).1

pub show_line : (h : code.Host) (mem rows area area' : List ℕ) (d : Result ℕ Refusal) (r : Result LineTaken Refusal) → r ≡ told h d → sound h.draft mem rows ≡ true → places area ≡ items
    → (good : Bool) (population : ℕ) → population ≡ (if ready h.node mem then h.node.population else 0) → ShowsLine good population h.draft rows area d area'
    → LineFollows (result_by (host_of h mem rows) (only good ShowLine)) h mem rows area r mem rows area'
show_line h mem rows area area' d r e s q good population p f = rw e (shows_line h mem rows area area' d s q good population p f)

-- ---- the node line

module _ (h : code.Host) (mem rows area mem' : List ℕ) (a : Result code-taken.Taken Refusal) (r : LineGiven) (e : r ≡ given_host h (given_of h.node a)) (s : sound h.draft mem rows ≡ true) (id population quorum : ℕ) where
  node_refused : (n : ℕ) → 0 < n → Refuses n h.node mem a mem' → LineFollowsBy (host_of h mem rows) (lines.Refusal n) h mem rows area r mem' rows area
  node_refused n p f = rw (e, f.answer) (record { refused = p; number = refl; count = refl; same_host = refl; same_mem = f.same_mem; same_rows = refl; same_area = refl })

  begins : (t : Bool) → BeginsBy t id population quorum h.node mem a mem'
      → FollowsGiven (if t then record { host = record { node = Some (fresh id population quorum); draft = (host_of h mem rows).draft }; outcome = lines.Items [] } else refused_line (host_of h mem rows) 2) h mem rows area r
      mem' rows area
  unfolding encode
  begins true f =
      rw e
      (record {
        number = f.number;
        count = f.count;
        host = rw (f.readied, f.replica);
        items = refl;
        mem_size = f.size;
        rows_size = refl;
        beyond_mem = f.beyond;
        beyond_rows = λ j b. refl;
        sound_again = long_again h mem rows area mem' area a r e s f.size;
      })
  begins false f = node_refused 2 (omega arith) f

  begins_line : (good : Bool) → (node_words ≤ length mem → BeginsLine good id population quorum h.node mem a mem')
      → FollowsGiven (result_by (host_of h mem rows) (only good (NodeLine id population quorum))) h mem rows area r mem' rows area
  unfolding line_at first_line sound
  begins_line good f = by_fields good (f (leb-true node_words (length mem) (and_both (leb size (length mem)) _ s).0))
    where
      go : (t : Bool) → ready h.node mem ≡ t → BeginsLine true id population quorum h.node mem a mem'
          → FollowsGiven (if_none (if t then Some (view h.node mem) else None) then first_line (host_of h mem rows) (NodeLine id population quorum) else λ y. line_at (host_of h mem rows) y (NodeLine id population quorum)) h
          mem rows area r mem' rows area
      go true g f = node_refused 2 (omega arith) (f.second refl g)
      go false g f = begins (inRangeOf id population quorum) (f.first refl g)

      by_fields : (good : Bool) → BeginsLine good id population quorum h.node mem a mem'
          → FollowsGiven (result_by (host_of h mem rows) (only good (NodeLine id population quorum))) h mem rows area r mem' rows area
      by_fields false f = node_refused 1 (omega arith) (f.bad refl)
      by_fields true f = go (ready h.node mem) refl f

pub node_line : (h : code.Host) (mem rows area mem' : List ℕ) (a : Result code-taken.Taken Refusal) (r : Result LineTaken Refusal) → r ≡ ways.called h a → sound h.draft mem rows ≡ true → (id population quorum : ℕ) (good : Bool)
    → (node_words ≤ length mem → BeginsLine good id population quorum h.node mem a mem') → LineFollows (result_by (host_of h mem rows) (only good (NodeLine id population quorum))) h mem rows area r mem' rows area
node_line h mem rows area mem' a r e s id population quorum good f = begins_line h mem rows area mem' a (line_given h r) (ap (line_given h) e ∙ called_given h a) s id population quorum good f

-- ---- the kind of the name

pub unknown : (h : code.Host) (mem rows area : List ℕ) → LineFollows (refused_line (host_of h mem rows) 1) h mem rows area (Err Malformed) mem rows area
unknown h mem rows area = turned_acts Malformed (host_of h mem rows) h mem rows area (omega arith)

pub of_kind : (k x : Kind) (h : code.Host) (mem rows area mem' rows' area' : List ℕ) (r : Result LineTaken Refusal) (fs : List Bytes) → k ≡ x
    → LineFollows (result_by (host_of h mem rows) (line_by x fs)) h mem rows area r mem' rows' area' → LineFollows (result_by (host_of h mem rows) (line_by k fs)) h mem rows area r mem' rows' area'
of_kind k x h mem rows area mem' rows' area' r fs e f = subst (λ (y : Kind). LineFollows (result_by (host_of h mem rows) (line_by y fs)) h mem rows area r mem' rows' area') (sym e) f

-- ---- the name, and the line

pub long_line : (h : code.Host) (mem rows area : List ℕ) (s : Bytes) → 1024 < length s → LineFollows (answer_line (host_of h mem rows) s) h mem rows area (Err Malformed) mem rows area
unfolding answer_line line_of
long_line h mem rows area s l = rw (lt-ltb 1024 (length s) l) (unknown h mem rows area)

-- a line has a field
pub has_name : (line : Bor (List ℕ)) (r r' : LineReader) → r ≡ record { line = line; at = 0 } → (o : Option (Bor (List ℕ))) → TakesBytes r o r' → IsSome o
has_name line r r' e (Some f) t = refl
has_name line r r' e None t =
    let z : fields_from line.now 0 ≡ [] = rw e at t.0 in
    absurd (true≢false (sym (ap none_left z) ∙ ap none_left (some_left line.now 0 (omega arith))))

pub named : (r r' : LineReader) (o : Option (Bor (List ℕ))) → TakesBytes r o r' → (f : Bor (List ℕ)) → o ≡ Some f → FirstBytes r.line.now r.at f.now × (r' ≡ moved_to r (r.at + length f.now + 1))
named r r' o t f e = rw e at t

pub by_name : (h : code.Host) (mem rows area mem' rows' area' : List ℕ) (s f : Bytes) (k : Kind) (r : Result LineTaken Refusal) → length s ≤ 1024 → FirstBytes s 0 f
    → k ≡ kind_of f → LineFollows (result_by (host_of h mem rows) (line_by k (fields_from s (0 + length f + 1)))) h mem rows area r mem' rows' area'
    → LineFollows (answer_line (host_of h mem rows) s) h mem rows area r mem' rows' area'
unfolding answer_line line_of
by_name h mem rows area mem' rows' area' s f k r l g e a =
    let q = sym (from_start s) ∙ g.here in
    rw (le-ltb 1024 (length s) l, q) (subst (λ (y : Kind). LineFollows (result_by (host_of h mem rows) (line_by y (fields_from s (0 + length f + 1)))) h mem rows area r mem' rows' area') e a)

-- ---- no line has more than 546 items

last_none : (gs : List Ground) (t : Bool) → NoneApply (gs ++ (20 when t or [])) → t ≡ false
last_none [] t n = n.0
last_none (g ∷ gs) t n = last_none gs t n.1

taken_fits : (r : Replica) (c : Call) (p : ℕ) (x : Replica) (l : List Item) → step r c p ≡ Taken x l → length l ≤ p
unfolding step refusal_of
taken_fits r c p x l e = go (refusal_of r c p) refl e
  where
    go : (o : Option ℕ) → refusal_of r c p ≡ o → step_by o (effect r c) ≡ Taken x l → length l ≤ p
    go None f g =
        let q : (effect r c).items ≡ l = cc in
        let b = ltb-false p (length (effect r c).items) (last_none (machine-grounds.grounds r c) _ (none_apply (all_grounds r c p) f)) in
        omega (arith, b, ap length q)
    go (Some k) f g = let z : ◌≡◌ {A = ℕ} 0 1 = cc in absurd (omega arith)

abbrev Few : lines.Outcome → Type 0
Few (lines.Refusal n) = Unit {0}
Few (lines.Items l) = length l ≤ 546

few_called : (H : Host) (x : Step) → ((s : Replica) (l : List Item) → x ≡ Taken s l → length l ≤ 546) → Few (lines.called H x).outcome
few_called H (Refused n) f = tt
few_called H (Taken s l) f = f s l refl

few_edited : (H : Host) (x : answers.EditResult) → Few (lines.edited H x).outcome
few_edited H (answers.refused n) = tt
few_edited H (answers.taken c) = omega arith

few_begun : (t : Bool) (H : Host) (x : Host) → Few (if t then record { host = x; outcome = lines.Items [] } else refused_line H 2).outcome
few_begun true H x = omega arith
few_begun false H x = tt

module _ (H : Host) (s : length (show H.draft) ≤ 65) where
  few_at : (r : Replica) (l : Line) → Few (line_at H r l).outcome
  unfolding line_at
  few_at r (NodeLine id population quorum) = tt
  few_at r (EditLine e) = few_edited H (edit_result r.me.population H.draft e)
  few_at r ShowLine = omega (arith, s)
  few_at r (HeardLine peer ballot with commit exec snap) = few_called H _ (taken_fits r _ items)
  few_at r (CallLine c) = few_called H _ (taken_fits r c items)

  few_first : (l : Line) → Few (first_line H l).outcome
  unfolding first_line
  few_first (NodeLine id population quorum) = few_begun (inRangeOf id population quorum) H _
  few_first (EditLine e) = tt
  few_first ShowLine = tt
  few_first (HeardLine peer ballot with commit exec snap) = tt
  few_first (CallLine c) = tt

  few_told : (o : Option Line) → Few (result_by H o).outcome
  few_told None = tt
  few_told (Some l) = go H.node
    where
      go : (n : Option Replica) → Few (if_none n then first_line H l else λ r. line_at H r l).outcome
      go None = few_first l
      go (Some r) = few_at r l

few_heard : (h : code.Host) (mem rows : List ℕ) (s : Bytes) → sound h.draft mem rows ≡ true → Few (answer_line (host_of h mem rows) s).outcome
unfolding answer_line sound
few_heard h mem rows s e =
    few_told (host_of h mem rows) (show_length h.draft rows (leb-true h.draft.count 64 (and_both (leb roster_words (length rows)) _ (and_both (leb size (length mem)) _ e).1).1)) (line_of s)

-- ---- whole buffers

module _ (d : RespondersConf) (mem rows area groups : List ℕ) (t : Bool) (e : t ≡ whole d mem rows area groups) (f : t ≡ true) where
  is_whole : whole d mem rows area groups ≡ true
  is_whole = sym e ∙ f

  pub is_sound_lem : sound d mem rows ≡ true
  unfolding whole
  is_sound_lem = (and_both (sound d mem rows) _ (and_both (sound d mem rows && eqb (places area) items) _ is_whole).0).0

  pub has_places : places area ≡ 546
  unfolding whole
  has_places = eqb-true (places area) 546 (and_both (sound d mem rows) _ (and_both (sound d mem rows && eqb (places area) items) _ is_whole).0).1

  pub has_groups : 1542 ≤ length groups
  unfolding whole
  has_groups = leb-true 1542 (length groups) (and_both (sound d mem rows && eqb (places area) items) _ is_whole).1

module _ (h : code.Host) (mem rows area groups : List ℕ) (line : Bytes) (t : Bool) (a : Result LineTaken Refusal) (e : t ≡ whole h.draft mem rows area groups) where
  pub unfit : t ≡ false → LineFollows (due_in h mem rows area groups line) h mem rows area (Err NotReady) mem rows area
  unfolding due_in
  unfit f = rw (sym e ∙ f) (turned_acts NotReady (host_of h mem rows) h mem rows area (omega arith))

  pub fitted : (mem' rows' area' : List ℕ) → t ≡ true → LineFollows (answer_line (host_of h mem rows) line) h mem rows area a mem' rows' area'
      → LineFollows (due_in h mem rows area groups line) h mem rows area a mem' rows' area'
  unfolding due_in
  fitted mem' rows' area' f x = rw (is_whole h.draft mem rows area groups t e f) x

-- ---- the text

-- few items, and places for as many
abbrev Fits : List ℕ → lines.Outcome → Type 0
Fits area (lines.Refusal k) = Unit {0}
Fits area (lines.Items m) = (length m ≤ 546) × (places area ≡ 546)

module _ (h : code.Host) (mem rows area groups : List ℕ) (out line : Bytes) where
  small_fit : length out < 65536 → due-line h mem rows area groups out line ≡ refused_line (host_of h mem rows) 2
  unfolding due-line fit
  small_fit l = rw (lt-leb 65536 (length out) l, and-false (whole h.draft mem rows area groups))

  pub small_out : (n : ℕ) → length out < 65536 → AnswersEvent h mem rows area groups n line out (record { acted = Err NotReady; end = 0 }) h mem rows area groups out
  small_out n l =
      record {
        acts = subst (λ (t : LineResult). LineFollows t h mem rows area (Err NotReady) mem rows area) (sym (small_fit l)) (turned_acts NotReady (host_of h mem rows) h mem rows area (omega arith));
        stays = refl;
        text = λ m. absurd (omega arith);
        silent = λ m. (refl, refl);
        groups_size = refl;
      }

  module _ (l : 65536 ≤ length out) (a : Result ℕ Refusal) (h' : code.Host) (mem' rows' area' : List ℕ) (x : LineFollows (due_in h mem rows area groups line) h mem rows area (told h' a) mem' rows' area') where
    abbrev pub given : LineGiven
    given = line_given h (told h' a)

    same_due : due_in h mem rows area groups line ≡ due-line h mem rows area groups out line
    unfolding due_in due-line fit
    same_due = rw (le-leb 65536 (length out) l, and-true (whole h.draft mem rows area groups))

    fits : Fits area (due_in h mem rows area groups line).outcome
    unfolding due_in
    fits = go (whole h.draft mem rows area groups) refl
      where
        both : (y : lines.Outcome) → Few y → places area ≡ 546 → Fits area y
        both (lines.Refusal k) p q = tt
        both (lines.Items m) p q = (p, q)

        go : (t : Bool) → whole h.draft mem rows area groups ≡ t → Fits area (if t then answer_line (host_of h mem rows) line else refused_line (host_of h mem rows) 2).outcome
        go true g = both (answer_line (host_of h mem rows) line).outcome (few_heard h mem rows line (is_sound_lem h.draft mem rows area groups true (sym g) refl)) (has_places h.draft mem rows area groups true (sym g) refl)
        go false g = tt

    few_of : (next : Host) (y : lines.Outcome) → Fits area y → LineFollowsBy next y h mem rows area given mem' rows' area' → (given.count ≤ 546) × (given.count * 6 ≤ length area')
    few_of next (lines.Refusal k) p g = (omega (arith, g.count), omega (arith, g.count))
    few_of next (lines.Items m) p g = (omega (arith, p.0, g.count), omega (arith, p.0, p.1, g.count, ap length g.items ∙ length_writes area 0 (encode m)))

    pub few_items : IfOk a (λ count. (count ≤ 546) × (count * 6 ≤ length area'))
    few_items = go a (few_of _ (due_in h mem rows area groups line).outcome fits x)
      where
        go : (b : Result ℕ Refusal) → ((line_given h (told h' b)).count ≤ 546) × ((line_given h (told h' b)).count * 6 ≤ length area') → IfOk b (λ count. (count ≤ 546) × (count * 6 ≤ length area'))
        go (Ok count) f = f
        go (Err refusal) f = tt

    module _ (n end : ℕ) (out' : Bytes) (w : Answered out n a area' end out') where
      wrote : (b : Result ℕ Refusal) (next : Host) (y : lines.Outcome) → Fits area y → LineFollowsBy next y h mem rows area (line_given h (told h' b)) mem' rows' area' → Says out n b area' end out' → Wrote out 0 (text_of n y) 65536 end out'
      wrote (Err refusal) next (lines.Refusal k) p g v = subst (λ (i : ℕ). Wrote out 0 (refused_text n i) 65536 end out') g.number (record { end = v.end; bytes = v.bytes; short = omega (arith, v.short) })
      wrote (Err refusal) next (lines.Items m) p g v = absurd (number-not-0 refusal g.number)
      wrote (Ok count) next (lines.Refusal k) p g v = absurd (omega (arith, g.number, g.refused))
      wrote (Ok count) next (lines.Items m) p g v =
          let t = v m (holds area area' m count g.count (omega (arith, p.0, p.1, g.count, ap length g.items ∙ length_writes area 0 (encode m))) g.items) in
          record { end = t.end; bytes = t.bytes; short = omega (arith, t.short, p.0, g.count) }

      pub tells : (groups' : List ℕ) → length groups' ≡ length groups → Stays h a h' → AnswersEvent h mem rows area groups n line out (record { acted = a; end = end }) h' mem' rows' area' groups' out'
      tells groups' q s =
          record {
            acts = subst (λ (y : LineResult). LineFollows y h mem rows area (told h' a) mem' rows' area') same_due x;
            stays = s;
            text = λ m. subst (λ (y : LineResult). Wrote out 0 (text_of n y.outcome) 65536 end out') same_due (wrote a _ (due_in h mem rows area groups line).outcome fits x w.text);
            silent = λ m. absurd (omega arith);
            groups_size = q;
          }
