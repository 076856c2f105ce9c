use mathlib.Core.Path.{◌≡◌}
use lib.Dec.{ltb}
use Rattle.inty.specs.Value.{value_of}
use Rattle.roster_conf.proofs.Laws as law
use borrow.Author.Rules.{rules}
use Rattle.std.proofs.lemmas.Result.{err_from_is_err_and}
use Rattle.roster_conf.proofs.ask.Goals as goal

pub returns-in_err-end : goal.returns-in_err-end
returns-in_err-end c = let p = err_from_is_err_and c.from_residual-in_err-end.result c.from_residual-in_err-end.ensures.1 in rw (p.1, p.2) (law.range_6_end _ _ _ c.fits.ensures c.if-not-fits.false _ _ c.if-start-gt-KEY_BYTES.false c.if-end-gt-KEY_BYTES.false _ c.key_to_inty.ensures _ c.in_ok-start.ensures.ok_part _ c.key_to_inty-2.ensures _ c.in_err-end.ensures.value)

pub returns-then-lt : goal.returns-then-lt
returns-then-lt c = let q : c.lt.result ≡ ltb (value_of c.in_ok-end.end) (value_of c.in_ok-start.start) = search rules in law.range_7 _ _ _ c.fits.ensures c.if-not-fits.false _ _ c.if-start-gt-KEY_BYTES.false c.if-end-gt-KEY_BYTES.false _ c.key_to_inty.ensures _ c.in_ok-start.ensures.ok_part _ c.key_to_inty-2.ensures _ c.in_ok-end.ensures.ok_part _ q c.if-lt.true

pub returns : goal.returns
returns c = let q : c.lt.result ≡ ltb (value_of c.in_ok-end.end) (value_of c.in_ok-start.start) = search rules in law.range_asked _ _ _ c.fits.ensures c.if-not-fits.false _ _ c.if-start-gt-KEY_BYTES.false c.if-end-gt-KEY_BYTES.false _ c.key_to_inty.ensures _ c.in_ok-start.ensures.ok_part _ c.key_to_inty-2.ensures _ c.in_ok-end.ensures.ok_part _ q c.if-lt.false
