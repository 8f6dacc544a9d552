-- The proofs of `specs/Claims.antt`, in its order.
use Prim.Native.Nat.{suc}
use mathlib.Core.Path.{refl}
use native.Mathlib.Omega.{arith}
use Rattle.leb128.specs.Groups.{encode, over_groups, over_in}
use Rattle.leb128.specs.Forms.{below, decode_from, decode}
use Rattle.leb128.specs.Cases.{edges}
use Rattle.leb128.specs.Claims.{Claims}
use Rattle.leb128.proofs.Steps.{count_last}
use Rattle.leb128.proofs.Laws.{count_leading, count_lt, count_le, encode-length, encode_on, encode_end, decode-encode, canonical, few_bytes, decode_small, decode_prefix}

pub claims : Claims
unfolding encode over_groups over_in decode decode_from below edges
claims = record {
  count_of_zero = count_last 0 (omega arith);
  count_from_leading_zeros = count_leading;
  count_at_most_iff = λ n k. (count_lt n (suc k), count_le n k);
  length-encode = encode-length;
  more_follow = encode_on;
  last_below = encode_end;
  decode-encode = decode-encode;
  accepted_as_encoded = canonical;
  three_bytes_at_most = few_bytes;
  accepted_below = decode_small;
  prefix_short = decode_prefix;
  edges_hold = refl;
}
