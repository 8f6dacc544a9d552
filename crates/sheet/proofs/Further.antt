-- A least count of numbers, and where bytes follow them some more: what reading them in one go says, what is written there, and that a sheet's start
-- decides. All over the two counts.
use Prim.Native.Nat.{ℕ, zero, suc, ◌+◌, ◌-◌, ◌*◌, ◌≤◌, ◌<◌}
use mathlib.Core.Path.{◌≡◌, refl, sym, ap, ◌∙◌}
use mathlib.Core.Bool.{Bool, true, false}
use mathlib.Core.Logic.{inl, inr}
use mathlib.Core.List.{List, [], ◌∷◌, ◌++◌, append_assoc, append-nil}
use native.Mathlib.Nat.{zero-add, suc-add}
use native.Mathlib.Omega.{arith}
use borrow.Author.Tests.{lt-ltb, le-ltb, ltb-false}
use lib.Dec.{ltb}
use lib.ListN.{length, take, drop, length-append, drop_of_length-le}
use lib.Seq.{take_all}
use Rattle.leb128.specs.Forms.{Number, Short, Bad, decode, decode_from}
use Rattle.leb128.specs.Forms as number
use Rattle.leb128.specs.Claims.{Bytes}
use Rattle.leb128.specs.Groups.{encode}
use Rattle.leb128.proofs.Steps.{lt_or_le}
use Rattle.verdict.specs.Refusals.{Accepted}
use Rattle.verdict.proofs.First.{refused_accepted}
use Rattle.sheet.specs.Numbers.{Run, run, stop, before, numbers, numbers_are, none, after, further, ended, numbers_in, written}
use Rattle.std.specs.Prelude.{Ok}
use Rattle.sheet.specs.Reading.{numbers_by}
use Rattle.sheet.proofs.Runs.{numbers_whole, numbers_short, numbers_bad, SoFar, at_short, at_bad, so_far, reach_bad}
use Rattle.sheet.proofs.Laws.{Reads, reads, Small, numbers_written, Ends, numbers_start, numbers_end}

-- ---- a branch of the definitions from its fact

further_none : (extra : ℕ) (s vs : List ℕ) (at : ℕ) → length s ≤ at → further extra s (run vs at) ≡ run vs at
unfolding further
further_none extra s vs at h = rw (le-ltb at (length s) h, further)

further_more : (extra : ℕ) (s vs : List ℕ) (at : ℕ) → at < length s → further extra s (run vs at) ≡ after vs (numbers extra at s)
unfolding further
further_more extra s vs at h = rw (lt-ltb at (length s) h, further)

ended_whole : (least : ℕ) (s vs : List ℕ) (at : ℕ) → length s ≤ at → ended least s (run vs at) ≡ numbers_are vs Accepted
unfolding ended
ended_whole least s vs at h = rw (le-ltb at (length s) h, ended)

ended_more : (least : ℕ) (s vs : List ℕ) (at : ℕ) → at < length s → ended least s (run vs at) ≡ none least 3 at
unfolding ended
ended_more least s vs at h = rw (lt-ltb at (length s) h, ended)

-- No number more.
pub further_zero : (s vs : List ℕ) (at : ℕ) → further 0 s (run vs at) ≡ run vs at
unfolding further numbers after
further_zero s vs at = go (ltb at (length s)) refl
  where
    go : (t : Bool) → ltb at (length s) ≡ t → further 0 s (run vs at) ≡ run vs at
    go true e = rw (e, further) (ap (λ (ws : List ℕ). run ws at) (append-nil vs))
    go false e = rw (e, further)

-- ---- in one go

-- A run's numbers and then so many more.
abbrev next : ℕ → List ℕ → Run → Run
next extra s (run vs at) = after vs (numbers extra at s)
next extra s (stop number place) = stop number place

after_none : (r : Run) → r ≡ after [] r
unfolding after
after_none (run ws at) = refl
after_none (stop number place) = refl

before_after : (v : ℕ) (vs : List ℕ) (r : Run) → before v (after vs r) ≡ after (v ∷ vs) r
unfolding before after
before_after v vs (run ws at) = refl
before_after v vs (stop number place) = refl

before_next : (extra v : ℕ) (s : List ℕ) (r : Run) → before v (next extra s r) ≡ next extra s (before v r)
unfolding before
before_next extra v s (run vs at) = before_after v vs (numbers extra at s)
before_next extra v s (stop number place) = refl

add_by : (count extra at : ℕ) (s : List ℕ) → ((n : ℕ) → numbers (count + extra) (at + n) s ≡ next extra s (numbers count (at + n) s)) → (d : Number) → decode (drop at s) ≡ d
    → numbers (suc (count + extra)) at s ≡ next extra s (numbers (suc count) at s)
add_by count extra at s ih (number.Whole v n) e =
    numbers_whole (count + extra) at s v n e ∙ ap (before v) (ih n) ∙ before_next extra v s (numbers count (at + n) s)
    ∙ ap (next extra s) (sym (numbers_whole count at s v n e))
add_by count extra at s ih Short e = numbers_short (count + extra) at s e ∙ ap (next extra s) (sym (numbers_short count at s e))
add_by count extra at s ih (Bad p) e = numbers_bad (count + extra) at s p e ∙ ap (next extra s) (sym (numbers_bad count at s p e))

numbers_add : (count extra at : ℕ) (s : List ℕ) → numbers (count + extra) at s ≡ next extra s (numbers count at s)
unfolding numbers
numbers_add zero extra at s = rw zero-add (after_none (numbers extra at s))
numbers_add (suc count) extra at s = rw suc-add (add_by count extra at s (λ n. numbers_add count extra (at + n) s) (decode (drop at s)) refl)

-- Where the least count of numbers ends, bytes follow.
abbrev Followed : ℕ → List ℕ → Type 0
Followed least s = (vs : List ℕ) (at : ℕ) → numbers least 0 s ≡ run vs at → at < length s

run_stop : (vs : List ℕ) (at number place : ℕ) → run vs at ≡ stop number place → ⊥
run_stop vs at number place e = let z : ◌≡◌ {A = ℕ} 0 1 = cc in omega arith

-- It is so where no run of so many is there, and where a run of more is.
stopped_followed : (least number place : ℕ) (s : List ℕ) → numbers least 0 s ≡ stop number place → Followed least s
stopped_followed least number place s e vs at f = absurd (run_stop vs at number place (sym f ∙ e))

-- No number stands behind the last byte.
nothing_there : (at : ℕ) (s : List ℕ) → length s ≤ at → decode (drop at s) ≡ Short
unfolding decode decode_from
nothing_there at s h = ap decode (drop_of_length-le s {i = at} h)

more_followed : (least more : ℕ) (s ws : List ℕ) (end : ℕ) → least < more → numbers more 0 s ≡ run ws end → Followed least s
unfolding after
more_followed least more s ws end l e vs at f =
    elim (lt_or_le at (length s)) [
      | inl h ↦ h
      | inr h ↦
          let j = more - (least + 1) in
          let is : more ≡ least + suc j = omega arith in
          absurd (run_stop ws end 1 (length s)
          (sym e ∙ ap (λ (m : ℕ). numbers m 0 s) is ∙ numbers_add least (suc j) 0 s ∙ ap (next (suc j) s) f ∙ ap (after vs) (numbers_short j at s (nothing_there at s h))))
    ]

further_next : (extra : ℕ) (s : List ℕ) (r : Run) → ((vs : List ℕ) (at : ℕ) → r ≡ run vs at → at < length s) → further extra s r ≡ next extra s r
unfolding further
further_next extra s (run vs at) h = further_more extra s vs at (h vs at refl)
further_next extra s (stop number place) h = refl

module _ (least extra : ℕ) (s : List ℕ) where
  in_one_go : Followed least s → numbers_in least extra s ≡ ended least s (numbers (least + extra) 0 s)
  unfolding numbers_in
  in_one_go h = ap (ended least s) (further_next extra s (numbers least 0 s) h ∙ sym (numbers_add least extra 0 s))

  -- The least count of numbers to the sheet's end is what is read.
  pub least_read : (vs : List ℕ) (at : ℕ) → numbers least 0 s ≡ run vs at → length s ≤ at → numbers_in least extra s ≡ numbers_are vs Accepted
  unfolding numbers_in
  least_read vs at e h =
      ap (λ (r : Run). ended least s (further extra s r)) e ∙ ap (ended least s) (further_none extra s vs at h) ∙ ended_whole least s vs at h

  -- And with the extra ones.
  pub more_read : 1 ≤ extra → (vs : List ℕ) (end : ℕ) → numbers (least + extra) 0 s ≡ run vs end → numbers_in least extra s ≡ ended least s (run vs end)
  more_read l vs end e = in_one_go (more_followed least (least + extra) s vs end (omega arith) e) ∙ ap (ended least s) e

-- ---- as the code goes

module _ (least : ℕ) {s : List ℕ} {count : ℕ} {fields : List ℕ} {at k : ℕ} (h : SoFar s count fields at k) (room : least ≤ count) where
  abbrev extra : ℕ
  extra = count - least

  all : count ≡ least + extra
  all = omega arith

  pub ends_at_least : k ≡ least → length s ≤ at → numbers_by least fields (Ok k) ≡ numbers_in least extra s
  ends_at_least e m = sym (least_read least extra s (take k fields) at (ap (λ (n : ℕ). numbers n 0 s) (sym e) ∙ so_far h) m)

  followed : (number place : ℕ) → ((n : ℕ) → k < n → numbers n 0 s ≡ stop number place) → (k ≡ least → at < length s) → Followed least s
  followed number place stops here =
      elim (lt_or_le k least) [
        | inl l ↦ stopped_followed least number place s (stops least l)
        | inr m ↦ elim (lt_or_le least k) [
          | inl l ↦ more_followed least k s (take k fields) at l (so_far h)
          | inr n ↦
              let e : k ≡ least = omega arith in
              λ vs end f.
              let same : run (take k fields) at ≡ run vs end = sym (so_far h) ∙ ap (λ (i : ℕ). numbers i 0 s) e ∙ f in
              let place : at ≡ end = cc in
              omega (arith, here e)
        ]
      ]

  stops_in : (number place : ℕ) → ((n : ℕ) → k < n → numbers n 0 s ≡ stop number place) → k < count → (k ≡ least → at < length s)
      → none least number place ≡ numbers_in least extra s
  unfolding ended
  stops_in number place stops l here =
      sym (in_one_go least extra s (followed number place stops here)
      ∙ ap (ended least s) (ap (λ (n : ℕ). numbers n 0 s) (sym all) ∙ stops count l))

  pub short_in : k < count → decode (drop at s) ≡ Short → (k ≡ least → at < length s) → none least 1 (length s) ≡ numbers_in least extra s
  short_in l e here = stops_in 1 (length s) (λ n m. at_short h n m e) l here

  pub bad_in : k < count → (p : ℕ) → decode (drop at s) ≡ Bad p → none least 2 (at + p) ≡ numbers_in least extra s
  bad_in l p e = stops_in 2 (at + p) (λ n m. at_bad h n m p e) l (λ q. omega (arith, reach_bad at s p e h.within))

  -- All that the buffer has room for.
  whole_buffer : count ≤ k → numbers (least + extra) 0 s ≡ run fields at
  whole_buffer l =
      let e : k ≡ least + extra = omega (arith, h.few) in
      ap (λ (n : ℕ). numbers n 0 s) (sym e) ∙ so_far h ∙ ap (λ (vs : List ℕ). run vs at) (take_all k fields (omega (arith, h.whole)))

  exactly : count ≤ k → extra ≡ 0 → numbers_in least extra s ≡ ended least s (run fields at)
  unfolding numbers_in
  exactly l z =
      let e : least + extra ≡ least = omega arith in
      ap (λ (n : ℕ). numbers_in least n s) z
      ∙ ap (λ (r : Run). ended least s (further 0 s r)) (ap (λ (n : ℕ). numbers n 0 s) (sym e) ∙ whole_buffer l) ∙ ap (ended least s) (further_zero s fields at)

  read_all : count ≤ k → ended least s (run fields at) ≡ numbers_in least extra s
  read_all l =
      elim (lt_or_le 0 extra) [
        | inl m ↦ sym (more_read least extra s m fields at (whole_buffer l))
        | inr m ↦ sym (exactly l (omega arith))
      ]

  pub bytes_follow : count ≤ k → at < length s → none least 3 at ≡ numbers_in least extra s
  bytes_follow l m = sym (ended_more least s fields at m) ∙ read_all l

  pub all_read : count ≤ k → length s ≤ at → numbers_by least fields (Ok (length fields)) ≡ numbers_in least extra s
  all_read l m = ap (λ (vs : List ℕ). numbers_are vs Accepted) (take_all (length fields) fields (omega arith)) ∙ sym (ended_whole least s fields at m) ∙ read_all l

-- Where the buffer has no room for more there are no extra numbers.
pub no_extra : (n : ℕ) (s : List ℕ) → numbers_in n (n - n) s ≡ numbers_in n 0 s
no_extra n s = let z : n - n ≡ 0 = omega arith in ap (λ (e : ℕ). numbers_in n e s) z

-- ---- what is accepted is written there

-- The least count of numbers, or the extra ones too. (At one extra number there is no third count.)
abbrev pub Counts : ℕ → ℕ → List ℕ → Type 0
Counts least extra vs = (least ≤ length vs) × (length vs ≤ least + extra)

abbrev Holds : ℕ → ℕ → List ℕ → Run → Type 0
Holds least extra s (run vs end) = Counts least extra vs × (Bytes s → drop 0 s ≡ written vs ++ drop end s)
Holds least extra s (stop number place) = Unit

written_both : (vs ws : List ℕ) → written (vs ++ ws) ≡ written vs ++ written ws
unfolding written
written_both [] ws = refl
written_both (v ∷ vs) ws = ap (λ (t : List ℕ). encode v ++ t) (written_both vs ws) ∙ sym (append_assoc (encode v) (written vs) (written ws))

after_holds : (least extra at : ℕ) (s vs : List ℕ) → length vs ≡ least → (Bytes s → drop 0 s ≡ written vs ++ drop at s) → (r : Run) → Reads extra at s r
    → Holds least extra s (after vs r)
unfolding after
after_holds least extra at s vs n w (Run.run ws end) h = (
  (omega (arith, length-append vs ws), omega (arith, length-append vs ws, h.0)),
  λ b. w b ∙ ap (λ (t : List ℕ). written vs ++ t) (h.1 b) ∙ sym (append_assoc (written vs) (written ws) (drop end s)) ∙ ap (λ (t : List ℕ). t ++ drop end s) (sym (written_both vs ws)),
)
after_holds least extra at s vs n w (Run.stop number place) h = tt

further_holds : (least extra : ℕ) (s : List ℕ) (r : Run) → Reads least 0 s r → Holds least extra s (further extra s r)
unfolding further
further_holds least extra s (Run.stop number place) h = tt
further_holds least extra s (Run.run vs at) h = go (ltb at (length s)) refl
  where
    go : (t : Bool) → ltb at (length s) ≡ t → Holds least extra s (further extra s (Run.run vs at))
    go true e = rw (e, further) (after_holds least extra at s vs h.0 h.1 (numbers extra at s) (reads extra at s))
    go false e = rw (e, further) ((omega (arith, h.0), omega (arith, h.0)), h.1)

ended_holds : (least extra : ℕ) (s : List ℕ) (r : Run) → Holds least extra s r → (ended least s r).verdict ≡ Accepted
    → Counts least extra (ended least s r).fields × (Bytes s → s ≡ written (ended least s r).fields)
unfolding ended
ended_holds least extra s (Run.stop number place) h e = absurd (refused_accepted number place e)
ended_holds least extra s (Run.run vs end) h e = go (ltb end (length s)) refl
  where
    go : (t : Bool) → ltb end (length s) ≡ t
        → Counts least extra (ended least s (Run.run vs end)).fields × (Bytes s → s ≡ written (ended least s (Run.run vs end)).fields)
    go true q = absurd (refused_accepted 3 end (rw (q, ended) at e))
    go false q =
        rw (q, ended)
        (h.0, λ b. h.1 b ∙ ap (λ (t : List ℕ). written vs ++ t) (drop_of_length-le s {i = end} (ltb-false end (length s) q)) ∙ append-nil (written vs))

pub in_as_written : (least extra : ℕ) (s : List ℕ) → (numbers_in least extra s).verdict ≡ Accepted
    → Counts least extra (numbers_in least extra s).fields × (Bytes s → s ≡ written (numbers_in least extra s).fields)
unfolding numbers_in
in_as_written least extra s e =
    ended_holds least extra s (further extra s (numbers least 0 s)) (further_holds least extra s (numbers least 0 s) (reads least 0 s)) e

-- ---- what is written is read

written_run : (vs : List ℕ) → Small vs → numbers (length vs) 0 (written vs) ≡ run vs (length (written vs))
written_run vs h = ap (numbers (length vs) 0) (sym (append-nil (written vs))) ∙ numbers_written vs [] [] h ∙ ap (run vs) (omega arith)

pub written_least : (least extra : ℕ) (vs : List ℕ) → Small vs → length vs ≡ least → numbers_in least extra (written vs) ≡ numbers_are vs Accepted
written_least least extra vs h n =
    least_read least extra (written vs) vs (length (written vs)) (ap (λ (k : ℕ). numbers k 0 (written vs)) (sym n) ∙ written_run vs h) (omega arith)

-- One run of all of them.
pub written_more : (least extra : ℕ) (vs : List ℕ) → Small vs → length vs ≡ least + extra → 1 ≤ extra → numbers_in least extra (written vs) ≡ numbers_are vs Accepted
written_more least extra vs h n l =
    more_read least extra (written vs) l vs (length (written vs)) (ap (λ (k : ℕ). numbers k 0 (written vs)) (sym n) ∙ written_run vs h)
    ∙ ended_whole least (written vs) vs (length (written vs)) (omega arith)

-- ---- the start decides, and what is refused stands in it

after_ends : (most : ℕ) (vs : List ℕ) (r : Run) → Ends most r → Ends most (after vs r)
unfolding after
after_ends most vs (Run.run ws end) h = h
after_ends most vs (Run.stop number place) h = h

pub further_ends : (least extra : ℕ) (s : List ℕ) (r : Run) → Ends (3 * least) r → Ends (3 * (least + extra)) (further extra s r)
unfolding further
further_ends least extra s (Run.stop number place) h = (h.0, omega (arith, h.1))
further_ends least extra s (Run.run vs at) h = go (ltb at (length s)) refl
  where
    go : (t : Bool) → ltb at (length s) ≡ t → Ends (3 * (least + extra)) (further extra s (Run.run vs at))
    go true e = rw (e, further) (after_ends (3 * (least + extra)) vs (numbers extra at s) (numbers_end extra at (3 * (least + extra)) s (omega arith)))
    go false e = rw (e, further) (omega arith)

module _ (least extra : ℕ) (t y : List ℕ) (long : 3 * (least + extra) < length t) where
  further_start : (r : Run) → Ends (3 * least) r → further extra (t ++ y) r ≡ further extra t r
  unfolding further
  further_start (Run.stop number place) h = refl
  further_start (Run.run vs at) h =
      further_more extra (t ++ y) vs at (omega (arith, length-append t y)) ∙ ap (after vs) (numbers_start t y extra at (omega arith))
      ∙ sym (further_more extra t vs at (omega arith))

  ended_start : (r : Run) → Ends (3 * (least + extra)) r → ended least (t ++ y) r ≡ ended least t r
  unfolding ended
  ended_start (Run.run vs end) l =
      ended_more least (t ++ y) vs end (omega (arith, length-append t y)) ∙ sym (ended_more least t vs end (omega arith))
  ended_start (Run.stop number place) l = refl

  pub in_start : numbers_in least extra (t ++ y) ≡ numbers_in least extra t
  unfolding numbers_in
  in_start =
      let e = numbers_end least 0 (3 * least) t (omega arith) in
      ap (λ (r : Run). ended least (t ++ y) (further extra (t ++ y) r)) (numbers_start t y least 0 (omega arith))
      ∙ ap (ended least (t ++ y)) (further_start (numbers least 0 t) e)
      ∙ ended_start (further extra t (numbers least 0 t)) (further_ends least extra t (numbers least 0 t) e)
