-- A stream that comes in pieces, cut anywhere, is answered as a whole is, wherever no byte of a long line changes its
-- answer.
use mathlib.Core.Path.{◌≡◌, refl, sym, ap, ◌∙◌}
use mathlib.Core.Bool.{Bool, true, false}
use mathlib.Core.List.{List, [], ◌∷◌, ◌++◌, append_assoc}
use Prim.Native.Nat.{ℕ, suc, ◌<◌}
use native.Mathlib.Omega.{arith}
use lib.ListN.{length, length-append}
use lib.Dec.{eqb, ltb}
use borrow.Author.Tests.{lt-ltb, ltb-true}
use Rattle.stream_pieces.specs.Pieces.{Begun, none_begun, longer, before, kept, concat}
use Rattle.stream_pieces.specs.Streamed.{LineOutput, Streamed, prepend, streamed, last_line, total, piecewise, LongAlike}
use Rattle.stream_pieces.proofs.Laws.{runs_none, cut}

-- no newline in what a line has so far
abbrev pub Plain : List ℕ → Type 0
Plain l = before l ≡ length l

plain_snoc : (l : List ℕ) (c : ℕ) → Plain l → eqb c 10 ≡ false → Plain (l ++ (c ∷ []))
plain_snoc [] c h e = simp e
plain_snoc (x ∷ l) c h e = go (eqb x 10) refl (plain_snoc l c)
  where
    go : (q : Bool) → eqb x 10 ≡ q → (Plain l → eqb c 10 ≡ false → Plain (l ++ (c ∷ []))) → Plain (x ∷ (l ++ (c ∷ [])))
    go true p ih = absurd (let k : 0 ≡ suc (length l) = simp p at h in omega arith)
    go false p ih =
        let k : suc (before l) ≡ suc (length l) = simp p at h in
        simp p (ap suc (ih (omega arith) e))

pub plain_kept : (b : Begun) → Plain b.line → Plain (kept b).line
unfolding kept
plain_kept b h = go (ltb 1024 (length b.line)) refl
  where
    go : (q : Bool) → ltb 1024 (length b.line) ≡ q → Plain (kept b).line
    go true p = simp p
    go false p = simp p h

module _ {S : Type 0} (answer : S → Begun → LineOutput S) where
  pub plain_runs : (s : S) (b : Begun) (l : List ℕ) → Plain b.line → Plain (streamed answer s b l).begun.line
  unfolding streamed
  plain_runs s b [] h = h
  plain_runs s b (c ∷ l) h = go (eqb c 10) refl (plain_runs (answer s b).next none_begun l) (plain_runs s (longer b c) l)
    where
      go : (q : Bool) → eqb c 10 ≡ q → (Plain [] → Plain (streamed answer (answer s b).next none_begun l).begun.line)
          → (Plain (b.line ++ (c ∷ [])) → Plain (streamed answer s (longer b c) l).begun.line) → Plain (streamed answer s b (c ∷ l)).begun.line
      go true p i j = simp p (i refl)
      go false p i j = simp p (j (plain_snoc b.line c h p))

  -- the bytes that were kept, and the piece after them
  pub resumed : (s : S) (b : Begun) (l : List ℕ) → Plain b.line → streamed answer s (record { long = b.long; line = [] }) (b.line ++ l) ≡ streamed answer s b l
  resumed s b l h = rw (cut answer s (record { long = b.long; line = [] }) b.line l, runs_none answer s (record { long = b.long; line = [] }) b.line h)

  last_long : (s : S) (b : Begun) → 1024 < length b.line → last_line answer s b ≡ (answer s b).text
  unfolding last_line
  last_long s b h = go b.long refl
    where
      go : (q : Bool) → b.long ≡ q → last_line answer s b ≡ (answer s b).text
      go true p = simp p
      go false p = let z : 0 < length b.line = omega arith in simp (p, lt-ltb 0 (length b.line) z)

  module _ (alike : LongAlike answer) where
    -- what is read off a run: all that is written for it, or what is written for the lines that end in it
    module _ (view : Streamed S → List ℕ)
        (last : (s : S) (b : Begun) (acc : List ℕ) → 1024 < length b.line → view (record { out = []; state = s; begun = record { long = true; line = acc } }) ≡ view (record { out = []; state = s; begun = b })) where
      dropped : (s : S) (b : Begun) (acc t : List ℕ) → 1024 < length b.line → view (streamed answer s (record { long = true; line = acc }) t) ≡ view (streamed answer s b t)
      unfolding streamed
      dropped s b acc [] h = last s b acc h
      dropped s b acc (c ∷ t) h = go (eqb c 10) refl (dropped s (longer b c) (acc ++ (c ∷ [])) t)
        where
          go : (q : Bool) → eqb c 10 ≡ q
              → (1024 < length (b.line ++ (c ∷ [])) → view (streamed answer s (record { long = true; line = acc ++ (c ∷ []) }) t) ≡ view (streamed answer s (longer b c) t))
              → view (streamed answer s (record { long = true; line = acc }) (c ∷ t)) ≡ view (streamed answer s b (c ∷ t))
          go true p ih = simp p (ap (λ (x : LineOutput S). view (prepend x.text (streamed answer x.next none_begun t))) (sym (alike s b acc h)))
          go false p ih = simp p (ih (omega (arith, length-append b.line (c ∷ []))))

      pub kept_alike : (s : S) (b : Begun) (t : List ℕ) → view (streamed answer s (kept b) t) ≡ view (streamed answer s b t)
      unfolding kept
      kept_alike s b t = go (ltb 1024 (length b.line)) refl
        where
          go : (q : Bool) → ltb 1024 (length b.line) ≡ q → view (streamed answer s (kept b) t) ≡ view (streamed answer s b t)
          go true p = simp p (dropped s b [] t (ltb-true 1024 (length b.line) p))
          go false p = simp p

    pub total_alike : (s : S) (b : Begun) (t : List ℕ) → total answer (streamed answer s (kept b) t) ≡ total answer (streamed answer s b t)
    unfolding last_line
    total_alike = kept_alike (total answer) (λ s b acc h. sym (last_long s b h ∙ ap (λ (x : LineOutput S). x.text) (alike s b acc h)))

    pub out_alike : (s : S) (b : Begun) (t : List ℕ) → (streamed answer s (kept b) t).out ≡ (streamed answer s b t).out
    out_alike = kept_alike (λ (r : Streamed S). r.out) (λ s b acc h. refl)

    from : (s : S) (b : Begun) (ps : List (List ℕ)) → Plain b.line → piecewise answer s b ps ≡ total answer (streamed answer s b (concat ps))
    unfolding piecewise streamed
    from s b [] h = refl
    from s b (p ∷ ps) h =
        let r = streamed answer s b p in
        let ih = from r.state (kept r.begun) ps (plain_kept r.begun (plain_runs s b p h)) in
        rw (resumed s b p h)
        (ap (λ (x : List ℕ). r.out ++ x) (ih ∙ total_alike r.state r.begun (concat ps)) ∙ (sym (append_assoc r.out _ _) ∙ ap (total answer) (sym (cut answer s b p (concat ps)))))

    pub whole : (s : S) (ps : List (List ℕ)) → piecewise answer s none_begun ps ≡ total answer (streamed answer s none_begun (concat ps))
    whole s ps = from s none_begun ps refl
