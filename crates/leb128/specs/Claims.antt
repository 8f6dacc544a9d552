-- What is proved of this crate's definitions, for every count of groups. `claims`, in proofs/Claims.antt, has a proof of each field.
use Rattle.std.specs.Prelude.{ℕ, suc, ◌+◌, ◌-◌, ◌/◌, ◌^◌, ◌≤◌, ◌<◌, ◌≡◌, List, ◌++◌, map, length, take, get_or}
use Rattle.std.specs.Int.Count.{count_leading_zeros}
use Rattle.leb128.specs.Forms.{Whole, Short, decode}
use Rattle.leb128.specs.Groups.{group_count, encode}
use Rattle.leb128.specs.Cases.{edges}

-- Each number of a list is a byte; 0 stands past its end.
abbrev pub Bytes : List ℕ → Type 0
Bytes b = (j : ℕ) → get_or b j 0 < 256

pub record Claims : Type 0 where
  -- A number takes as many groups as its highest one bit needs, and 0 takes one: from the leading zeros, at every width.
  pub count_of_zero : group_count 0 ≡ 1
  pub count_from_leading_zeros : (w n : ℕ) → 0 < n → n < 2 ^ w → group_count n ≡ (w + 6 - count_leading_zeros w n) / 7
  -- It takes k groups or fewer exactly when it is below 128 to the k.
  pub count_at_most_iff : (n k : ℕ) → (group_count n ≤ suc k → n < 128 ^ suc k) × (n < 128 ^ suc k → group_count n ≤ suc k)
  -- It takes a byte for each group.
  pub length-encode : (n : ℕ) → length (encode n) ≡ group_count n
  -- Each byte but the last is 80 or more.
  pub more_follow : (n k : ℕ) → k + 1 < group_count n → 128 ≤ get_or (encode n) k 0
  pub last_below : (n k : ℕ) → k + 1 ≡ group_count n → get_or (encode n) k 0 < 128
  -- A number of three groups or fewer is read back, whatever follows it.
  pub decode-encode : (n : ℕ) (rest : List ℕ) → n < 2 ^ 21 → decode (encode n ++ rest) ≡ Whole n (group_count n)
  -- Bytes that are read as a number are the bytes of that number.
  pub accepted_as_encoded : (b : List ℕ) (v k : ℕ) → Bytes b → decode b ≡ Whole v k → (k ≡ group_count v) × (take k b ≡ encode v)
  -- They are three at most, so the number is one of those that are read back.
  pub three_bytes_at_most : (b : List ℕ) (v k : ℕ) → decode b ≡ Whole v k → k ≤ 3
  pub accepted_below : (b : List ℕ) (v k : ℕ) → Bytes b → decode b ≡ Whole v k → v < 2 ^ 21
  -- The first bytes of a number, not all, are no whole number.
  pub prefix_short : (n k : ℕ) → n < 2 ^ 21 → k < group_count n → decode (take k (encode n)) ≡ Short
  -- Edges that are not in document 01.
  pub edges_hold : map (λ (c : List ℕ × List ℕ). c.0) edges ≡ map (λ (c : List ℕ × List ℕ). c.1) edges
