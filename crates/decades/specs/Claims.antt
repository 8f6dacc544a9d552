-- What is proved of this crate's definitions. `claims`, in proofs/Claims.antt, has a proof of each field.
use Rattle.std.specs.Prelude.{◌≡◌, List, map, ℕ, ◌≤◌}
use Rattle.season.specs.declared.Season.{Season}
use Rattle.season.specs.Sheet.{Within, Valid}
use Rattle.decades.specs.Table.{Tabled, Refused, row_count, tabled, numbers_of}
use Rattle.decades.specs.Cases.{onion, edges}

pub record Claims : Type 0 where
  -- A table has at most 29 rows, in place of document 01's 37 (request T-01), whether February has 28 days or 29.
  pub rows_at_most : (s : Season) → Valid s → row_count s ≤ 29
  -- A valid season has as many: the seed onion of the edges.
  pub onion_valid : (february : ℕ) → Within 28 29 february → Valid (onion february)
  -- A refused call leaves the buffer as it was.
  pub refused_unaltered : (s : Season) (out : List ℕ) (number value : ℕ) → (tabled s out).0 ≡ Refused number value → (tabled s out).1 ≡ out
  -- Different answers have different numbers.
  pub numbers_one_to_one : (a b : Tabled) → numbers_of a ≡ numbers_of b → a ≡ b
  -- Edges that are not in document 01.
  pub edges_hold : map (λ (c : List ℕ × List ℕ). c.0) edges ≡ map (λ (c : List ℕ × List ℕ). c.1) edges
