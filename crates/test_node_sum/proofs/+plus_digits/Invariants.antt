use Rattle.test_node_sum.proofs.+plus_digits.Given as goal

abbrev pub decreases-plus_digits : goal.decreases-plus_digits
decreases-plus_digits l = l.n
