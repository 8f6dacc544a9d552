-- Document 02, T-10: the blocks of a bank, counted from 0. Their sheets, journals and result buffers stand end to end, each kind in a lent buffer of its
-- own. `lengths` has three numbers a block: column 0 is its sheet's length, 1 its journal's, 2 its result buffer's.
use Rattle.std.specs.Prelude.{ℕ, zero, suc, ◌+◌, ◌*◌, Bool, ◌||◌, List, ltb, length, get_or, take, drop}

-- The length of block k's part in a column; where it starts, behind the parts of the blocks before it; and the part.
abbrev pub length_of : List ℕ → ℕ → ℕ → ℕ
length_of lengths column k = get_or lengths (3 * k + column) 0

unfoldable pub start_of : List ℕ → ℕ → ℕ → ℕ
start_of lengths column zero = 0
start_of lengths column (suc k) = start_of lengths column k + length_of lengths column k

abbrev pub part_of : List ℕ → ℕ → List ℕ → ℕ → List ℕ
part_of lengths column buffer k = take (length_of lengths column k) (drop (start_of lengths column k) buffer)

-- 22: a count of blocks, or a limit, outside 1 to 40; fewer than three lengths a block; or lengths whose sum passes their buffer's end.
abbrev pub outside : ℕ → Bool
outside n = ltb n 1 || ltb 40 n

unfoldable pub bank_wrong : ℕ → ℕ → List ℕ → ℕ → ℕ → ℕ → Bool
bank_wrong blocks limit lengths sheets areas depths =
    outside blocks || (outside limit || (ltb (length lengths) (3 * blocks) || (ltb sheets (start_of lengths 0 blocks) || (ltb areas (start_of lengths 1 blocks) || ltb depths (start_of lengths 2 blocks)))))
