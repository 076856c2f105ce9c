-- The ack of a peer at its slot: whether it is taken, what it does, and the slot's words after it.
use mathlib.Core.Path.{◌≡◌, refl, sym, subst, ◌∙◌}
use mathlib.Core.Bool.{Bool, true, false}
use mathlib.Core.List.{List}
use Rattle.std.specs.Prelude.{None, Some}
use Prim.Native.Nat.{ℕ, ◌+◌, ◌*◌, ◌≤◌}
use native.Mathlib.Omega.{arith}
use lib.ListN.{take, drop}
use Rattle.words.specs.Part.{part}
use Rattle.words.specs.Writes.{writes}
use Rattle.layout.specs.Layout.{batch_words}
use Rattle.items.specs.Item.{Commit, encode, places}
use Rattle.items.specs.Area.{Put, put_item}
use Rattle.roster_conf.specs.Conf.{Conf}
use Rattle.bodega.specs.Replica.{Request, ReadReq, Committed}
use Rattle.bodega.specs.Localread.{commit_condition}
use Rattle.inst_reqs.specs.Batch.{requests_of}
use Rattle.inst_cell.specs.declared.Cell.{Cell}
use Rattle.inst_cell.specs.Cell.{Short, cell_of, with_status}
use Rattle.insts.specs.Slots.{batch_start, short_at, batch_at, reads_at, Puts}
use Rattle.insts.proofs.Laws.{short_after}
use Rattle.call_reply.specs.declared.Ack.{Ack}
use Rattle.call_reply.specs.declared.Ack.TheVariants.{Ignored, Marks, Commits}
use Rattle.call_reply.specs.Acks.{with_acks, acks_with, ack_of, commits_by, commit_items, Acts}
use Rattle.call_reply.proofs.Resends.{none_written, put_one}
use Rattle.std.specs.Prelude.{Option}

-- ---- what it does

module _ (s : List ℕ) (c peer ballot quorum : ℕ) (conf : Conf) (r : Option ℕ) (e : r ≡ acks_with (short_at s c) peer ballot) where
  pub ignored : r ≡ None → Ignored ≡ ack_of (short_at s c) (batch_at s c) peer ballot quorum conf
  unfolding ack_of
  ignored f = sym (rw (sym e ∙ f))

  module _ (acks : ℕ) (f : r ≡ Some acks) (from k : ℕ) (h : from ≡ batch_start c) (w : k ≡ batch_words) (t : Bool)
      (g : t ≡ commit_condition acks (requests_of (take k (drop from s))) quorum conf) where
    condition : t ≡ commit_condition acks (batch_at s c) quorum conf
    unfolding batch_at part
    condition = rw (h, w) at g

    pub commits : t ≡ true → Commits acks ≡ ack_of (short_at s c) (batch_at s c) peer ballot quorum conf
    unfolding ack_of
    commits h = sym (rw (sym e ∙ f, sym condition ∙ h))

    pub marks : t ≡ false → Marks acks ≡ ack_of (short_at s c) (batch_at s c) peer ballot quorum conf
    unfolding ack_of
    marks h = sym (rw (sym e ∙ f, sym condition ∙ h))

-- ---- its item

module _ (area : List ℕ) (place slot : ℕ) where
  pub no_commit : (a : Ack) → ((m : ℕ) → a ≡ Commits m → ⊥) → area ≡ writes area (place * 6) (encode (commit_items a slot))
  no_commit Ignored f = none_written area (place * 6)
  no_commit (Marks m) f = none_written area (place * 6)
  no_commit (Commits m) f = absurd (f m refl)

  pub one_commit : (a : Ack) (m : ℕ) → a ≡ Commits m → place + commits_by a ≤ places area → (t : Bool) (after : List ℕ) → ◌≡◌ {A = Put} (record { taken = t; area = after }) (put_item area place (Commit slot))
      → after ≡ writes area (place * 6) (encode (commit_items a slot))
  one_commit a m e f t after p =
      let g = rw e at f in rw e (put_one area place (Commit slot) t after (omega (arith, g)) p)

-- ---- the words after it
