-- The caller's array, and an answer's numbers in it.
use Rattle.std.specs.Prelude.{ℕ, List}
use Rattle.std.proofs.lemmas.List.Edits.{sets}

-- How many numbers the caller's array has.
abbrev pub out_length : ℕ
out_length = 24

-- Numbers over the first numbers of an array; those beyond keep what they held.
abbrev pub written_over : List ℕ → List ℕ → List ℕ
written_over ns out = sets out 0 ns
