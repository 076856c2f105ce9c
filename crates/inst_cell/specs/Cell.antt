-- Trusted: the short part of an instance that eight words stand for: ballot, status, whether there are acks, the acks,
-- whether there is a notice book, its ballot, its notices, and one that is not used.
use Rattle.std.specs.Prelude.{ℕ, ◌+◌, Bool, true, false, List, [], ◌∷◌, eqb, get_or, if◌then◌else◌}
use Rattle.std.specs.Prelude.{Option, None, Some}
use Rattle.words.specs.Choice.{if_none◌then◌else◌}
use Rattle.bodega.specs.Replica as machine
use Rattle.inst_cell.specs.declared.Status.{Status}
use Rattle.inst_cell.specs.declared.Status.TheVariants.{Null, Preparing, Accepting, Committed, Executed}
use Rattle.inst_cell.specs.declared.Cell.{Cell}
use Rattle.inst_cell.specs.declared.NoticeBook.{NoticeBook}

abbrev pub status_of : Status → machine.Status
status_of Null = machine.Null
status_of Preparing = machine.Preparing
status_of Accepting = machine.Accepting
status_of Committed = machine.Committed
status_of Executed = machine.Executed

-- a book's ballot and notices
pub record Notices : Type 0 where
  pub bal : ℕ
  pub notices : ℕ

abbrev pub book_of : Option NoticeBook → Option Notices
book_of None = None
book_of (Some b) = Some (record { bal = b.bal.0; notices = b.notices })

pub record Short : Type 0 where
  pub bal : ℕ
  pub status : machine.Status
  pub leader_bk : Option ℕ
  pub replica_bk : Option Notices

abbrev pub with_status : machine.Status → Short → Short
with_status s x = record { bal = x.bal; status = s; leader_bk = x.leader_bk; replica_bk = x.replica_bk }

abbrev pub has_book : Short → Bool
has_book x = if_none x.replica_bk then false else λ b. true

abbrev pub cell_of : Cell → Short
cell_of c = record { bal = c.bal.0; status = status_of c.status; leader_bk = c.leader_bk; replica_bk = book_of c.replica_bk }

-- ---- words, any words

abbrev pub status_named : ℕ → machine.Status
status_named w =
    if eqb w 0 then machine.Null else
    if eqb w 1 then machine.Preparing else
    if eqb w 2 then machine.Accepting else
    if eqb w 3 then machine.Committed else machine.Executed

abbrev pub acks_named : ℕ → ℕ → Option ℕ
acks_named has m = if eqb has 0 then None else Some m

abbrev pub book_named : ℕ → ℕ → ℕ → Option Notices
book_named has bal m = if eqb has 0 then None else Some (record { bal = bal; notices = m })

-- the cell at word p
unfoldable pub cell_at : List ℕ → ℕ → Short
cell_at s p =
    record {
      bal = get_or s p 0;
      status = status_named (get_or s (p + 1) 0);
      leader_bk = acks_named (get_or s (p + 2) 0) (get_or s (p + 3) 0);
      replica_bk = book_named (get_or s (p + 4) 0) (get_or s (p + 5) 0) (get_or s (p + 6) 0);
    }

abbrev pub present : {A : Type 0} → Option A → ℕ
present None = 0
present (Some x) = 1

abbrev pub acks_in : Option ℕ → ℕ
acks_in o = if_none o then 0 else λ m. m

abbrev pub bal_in : Option Notices → ℕ
bal_in o = if_none o then 0 else λ b. b.bal

abbrev pub notices_in : Option Notices → ℕ
notices_in o = if_none o then 0 else λ b. b.notices

abbrev pub cell_words : Short → List ℕ
cell_words c =
    c.bal ∷ machine.order c.status ∷ present c.leader_bk ∷ acks_in c.leader_bk ∷ present c.replica_bk ∷ bal_in c.replica_bk ∷ notices_in c.replica_bk ∷ []
