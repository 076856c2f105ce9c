-- Trusted: what a method of a writer puts into the bytes that it holds.
use Rattle.std.specs.Prelude.{◌≡◌, ℕ, length}
use Rattle.words.specs.Text.{Bytes}
use Rattle.text.specs.Wrote.{Wrote}
use Rattle.text.specs.declared.TextMut.{TextMut}

-- the text stands at the writer's position, which is then where it ends; the bytes are those that it held
pub record Puts (w : TextMut) (text : Bytes) (most : ℕ) (w' : TextMut) : Type 0 where
  pub held : w'.out.ghost_name ≡ w.out.ghost_name
  pub size : length w'.out.now ≡ length w.out.now
  pub wrote : Wrote w.out.now w.at text most w'.at w'.out.now
