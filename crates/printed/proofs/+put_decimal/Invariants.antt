-- The measure is the number: what is left of it is smaller.
use Rattle.printed.proofs.+put_decimal.Given as goal

abbrev pub decreases-put_decimal : goal.decreases-put_decimal
decreases-put_decimal l = l.n
