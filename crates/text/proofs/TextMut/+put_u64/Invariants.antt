use Rattle.text.proofs.TextMut.+put_u64.Given as goal

abbrev pub decreases-put_u64 : goal.decreases-put_u64
decreases-put_u64 l = l.n
