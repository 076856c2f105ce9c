-- Trusted: what holds of every replica that calls reach: the order of the bars, the window, the ballots, who leads.
use Rattle.std.specs.Prelude.{ℕ, suc, ◌+◌, ◌≤◌, ◌<◌, Bool, true, false, List, [], ◌∷◌, eqb, ◌⊎◌, ◌≡◌, length}
use Rattle.std.specs.Prelude.{Option}
use Rattle.words.specs.Choice.{if_none◌then◌else◌}
use Rattle.ids.specs.Limits.{window}
use Rattle.roster_conf.specs.Conf.{Conf, leads}
use Rattle.bodega.specs.Replica.{Me, Ballots, Status, order, is_open, Book, Instance, Replica, fresh}
use Rattle.bodega.specs.Step.{Event, run}

-- the part that it speaks of
pub record Core : Type 0 where
  pub me : Me
  pub bal : Ballots
  pub conf : Conf
  pub start : ℕ
  pub commit : ℕ
  pub exec : ℕ
  pub size : ℕ

unfoldable pub core : Replica → Core
core r = record { me = r.me; bal = r.bal; conf = r.conf; start = r.bar.start; commit = r.bar.commit; exec = r.bar.exec; size = length r.insts }

pub record Sound (c : Core) : Type 0 where
  -- start ≤ exec ≤ commit ≤ end ≤ start + 32
  pub start_exec : c.start ≤ c.exec
  pub exec_commit : c.exec ≤ c.commit
  pub commit_end : c.commit ≤ c.start + c.size
  pub in_window : c.size ≤ window
  -- prep_sent ≤ ballot; prepared is 0 or prep_sent; a leader has prep_sent = ballot > 0
  pub sent : c.bal.prep_sent ≤ c.bal.max_seen
  pub prep : (c.bal.prepared ≡ 0) ⊎ (c.bal.prepared ≡ c.bal.prep_sent)
  pub leader : leads c.conf c.me.id ≡ true → (c.bal.prep_sent ≡ c.bal.max_seen) × (0 < c.bal.max_seen)

-- ---- of each slot

abbrev pub is_executed : Status → Bool
is_executed s = eqb (order s) 4

abbrev pub book_bal : Option Book → ℕ
book_bal o = if_none o then 0 else λ b. b.bal

-- below the commit bar none is open; Executed exactly below the exec bar; no slot's and no notice book's ballot is
-- above the replica's
pub record SlotSound (bal commit exec slot : ℕ) (i : Instance) : Type 0 where
  pub closed : slot < commit → is_open i.status ≡ false
  pub executed : slot < exec → is_executed i.status ≡ true
  pub unexecuted : exec ≤ slot → is_executed i.status ≡ false
  pub slot_bal : i.bal ≤ bal
  pub notices_bal : book_bal i.replica_bk ≤ bal

abbrev pub EachSlot : (ℕ → Instance → Type 0) → ℕ → List Instance → Type 0
EachSlot P slot [] = Unit {0}
EachSlot P slot (i ∷ is) = P slot i × EachSlot P (suc slot) is

abbrev pub SlotsSound : Replica → Type 0
SlotsSound r = EachSlot (SlotSound r.bal.max_seen r.bar.commit r.bar.exec) r.bar.start r.insts

-- Every replica that calls reach is sound, and so are its slots.
abbrev pub ReachSound : Type 0
ReachSound = (id population quorum : ℕ) (es : List Event) → Sound (core (run (fresh id population quorum) es)) × SlotsSound (run (fresh id population quorum) es)
