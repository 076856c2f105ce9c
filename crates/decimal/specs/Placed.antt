-- Trusted: what a writer of decimals answers and leaves in the lent bytes.
use Rattle.std.specs.Prelude.{ℕ, ◌+◌, List, leb, length, if◌then◌else◌}
use Rattle.words.specs.Writes.{writes}
use Rattle.std.specs.Prelude.{Option, Some, None}

pub record Placed : Type 0 where
  pub answer : Option ℕ
  pub bytes : List ℕ

-- text at index at of out where it fits there; else out stays as it is
abbrev pub placed : List ℕ → ℕ → List ℕ → Placed
placed out at text =
    if leb (at + length text) (length out)
    then record { answer = Some (at + length text); bytes = writes out at text }
    else record { answer = None; bytes = out }
