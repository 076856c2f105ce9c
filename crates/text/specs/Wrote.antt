-- Trusted: what a writer of text into lent bytes answers and leaves.
use Rattle.std.specs.Prelude.{◌≡◌, ℕ, ◌+◌, ◌≤◌, length}
use Rattle.words.specs.Text.{Bytes}
use Rattle.words.specs.Writes.{writes}

-- the text stands at index at of what was out, and r is where it ends; it is of at most so many bytes
pub record Wrote (out : Bytes) (at : ℕ) (text : Bytes) (most r : ℕ) (out' : Bytes) : Type 0 where
  pub end : r ≡ at + length text
  pub bytes : out' ≡ writes out at text
  pub short : length text ≤ most
