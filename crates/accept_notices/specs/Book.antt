-- Trusted: document 01, "A slot's notice book takes one notice at a time": a new one, one emptied, and one that takes
-- a notice.
use Rattle.std.specs.Prelude.{◌≡◌, List, ℕ}
use Rattle.bodega.specs.Replica.{ReadReq, Book}
use Rattle.bodega.specs.Messages.{take_notice}
use Rattle.inst_cell.specs.declared.NoticeBook.{NoticeBook}

-- the code's book with the reads that wait
abbrev pub book_with : NoticeBook → List ReadReq → Book
book_with b held = record { bal = b.bal.0; notices = b.notices; holding = held }

-- "a notice book (ballot 0, no notices)", `new_book` without its reads
abbrev pub fresh_book : NoticeBook
fresh_book = record { bal = record { 0 = 0 }; notices = 0 }

-- `accept_notices.clear()`: the ballot stays
abbrev pub cleared : NoticeBook → NoticeBook
cleared b = record { bal = b.bal; notices = 0 }

-- the book r is b with the notice, whatever reads wait
abbrev pub Takes : ℕ → ℕ → NoticeBook → NoticeBook → Type 0
Takes peer ballot b r = (held : List ReadReq) → book_with r held ≡ take_notice peer ballot (book_with b held)
