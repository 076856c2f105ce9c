-- What a written key asks of the acks, and the requests of a batch one by one.
use Rattle.std.specs.Prelude.{if◌then◌else◌}
use mathlib.Core.Path.{◌≡◌, refl, ap, ◌∙◌}
use Rattle.std.specs.List.{list_all}
use mathlib.Core.Bool.{Bool, true, false, ◌&&◌}
use mathlib.Core.List.{List, [], ◌∷◌}
use Rattle.std.specs.Prelude.{Option, None, Some}
use Prim.Native.Nat.{ℕ, ◌≤◌, ◌<◌}
use native.Mathlib.Omega.{arith}
use borrow.Author.Tests.{lt-leb, lt-ltb, le-ltb, le-leb}
use lib.Dec.{leb}
use lib.ListN.{length, take}
use Rattle.words.specs.Choice.{if_none◌then◌else◌}
use Rattle.layout.specs.Layout.{roster_words}
use Rattle.key_words.specs.Key.{bytes_of, at_most_48}
use Rattle.key_words.specs.declared.Key.{Key}
use Rattle.key_words.proofs.Laws.{foreign_unread}
use Rattle.bitmap.specs.Bitmap.{count}
use Rattle.inst_reqs.specs.Batch.{requests_of}
use Rattle.bodega.specs.Replica as machine
use Rattle.bodega.specs.Localread.{acked, all_acked, commit_condition}
use Rattle.roster_conf.specs.declared.RespondersConf.{RespondersConf}
use Rattle.roster_conf.specs.Conf.{Conf, get_responders_by_key}
use Rattle.roster_conf.specs.Edits.{view, lookup}
use Rattle.std.specs.Result.{result_unwrap_or}

-- ---- the roster of a key

-- bytes that were shown are the key's
shown : (b x : List ℕ) → ◌≡◌ {A = Option (List ℕ)} (Some x) (at_most_48 b) → x ≡ b
shown b x e = go (leb (length b) 48) e
  where
    go : (t : Bool) → ◌≡◌ {A = Option (List ℕ)} (Some x) (if t then Some b else None) → x ≡ b
    go true e = cc
    go false e = cc

-- t is what was unpacked
module _ (c : RespondersConf) (rows : List ℕ) (key : Key) (t : List ℕ) where
  pub no_bytes : None ≡ at_most_48 (bytes_of key) → None ≡ get_responders_by_key (view c rows) (bytes_of key)
  unfolding get_responders_by_key
  no_bytes e = rw (foreign_unread key e)

  pub looked_up : (n : ℕ) → Some (take n t) ≡ at_most_48 (bytes_of key) → roster_words ≤ length rows → c.count ≤ 64 → (o : Option ℕ) → o ≡ result_unwrap_or (lookup c rows (take n t)) None
      → o ≡ get_responders_by_key (view c rows) (bytes_of key)
  unfolding lookup
  looked_up n told long few o f =
      let b : take n t ≡ bytes_of key = shown (bytes_of key) (take n t) told in
      rw (f, b, le-leb roster_words (length rows) long, le-leb c.count 64 few)

-- ---- the batch

each : (c : Conf) (acks : ℕ) (qs : List machine.Request) → list_all (acked c acks) qs ≡ all_acked c acks qs
each c acks [] = refl
each c acks (q ∷ qs) = ap (λ (t : Bool). acked c acks q && t) (each c acks qs)

module _ (c : Conf) (acks : ℕ) (s : List ℕ) (quorum a w : ℕ) (p : a ≡ count acks) (q : w ≡ quorum) where
  pub few_acks : a < w → leb w a ≡ commit_condition acks (requests_of s) quorum c
  unfolding commit_condition
  few_acks h = rw (lt-leb w a h, lt-ltb (count acks) quorum (omega arith))

  pub enough : (r : Bool) → w ≤ a → r ≡ list_all (acked c acks) (requests_of s) → r ≡ commit_condition acks (requests_of s) quorum c
  unfolding commit_condition
  enough r h e = e ∙ rw (le-ltb (count acks) quorum (omega arith)) (each c acks (requests_of s))
