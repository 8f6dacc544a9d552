-- What the table call answers into a buffer of 174 numbers, as text.
use Prim.Native.Nat.{ℕ, ◌-◌, ◌*◌, ◌≤◌, ◌<◌}
use mathlib.Core.Path.{◌≡◌, refl, sym, ap, ◌∙◌}
use mathlib.Core.List.{List, ◌++◌}
use native.Mathlib.Omega.{arith}
use borrow.Author.Tests.{lt-ltb, le-ltb}
use lib.ListN.{length, take, drop}
use lib.Seq.{sets, length-sets, take_at, length-take-le}
use Rattle.leb128.proofs.Parts.{tail_part}
use Rattle.std.specs.Prelude.{Result, Ok, Err}
use Rattle.verdict.specs.declared.Refusal.{Refusal}
use Rattle.verdict.specs.Refusals.{Verdict, Accepted, Refused, number_of}
use Rattle.decades.specs.Table.{Tabled, Rows, Refused as Declined, rows_to, row_count, table, tabled, tabled_in}
use Rattle.decades.proofs.Count.{rows_at_most}
use Rattle.season.proofs.Stores.{at_start}
use Rattle.decades.proofs.Rows.{length_flat}
use Rattle.decades.proofs.Answers.{rows_refused, tabled_whole}
use Rattle.sheet.specs.Sheets.{sheets_of, climate_end}
use Rattle.sheet.proofs.Accepted.{accepted_season}
use Rattle.sheet.proofs.Start.{climate_end_within}
use Rattle.controller.specs.Calls.{on_sheets, sheet_tabled}
use Rattle.controller.specs.Roles.{tabled_by}
use Rattle.controller.proofs.Sheets.{sheets_refused, sheets_accepted}
use Rattle.controller.proofs.Roles.{same_for_roles}
use Rattle.printed.specs.Text.{cell, cells, sheets_printed, printed, printed_to}

module _ (climate block out : List ℕ) (long : length out ≡ 174) where
  accepted : (v : (sheets_of climate block).verdict ≡ Accepted) → sheet_tabled climate block out ≡ (Rows (row_count (sheets_of climate block).season), table (sheets_of climate block).season ++ drop (row_count (sheets_of climate block).season * 6) out)
  accepted v =
      let s = (sheets_of climate block).season in
      sheets_accepted (λ number value. (Declined number value, out)) (λ t. tabled t out) climate block (sheets_of climate block) refl v
      ∙ tabled_whole s out (omega (arith, rows_at_most s (accepted_season climate block v).valid))

  refused : (number value : ℕ) → (sheets_of climate block).verdict ≡ Refused number value → sheet_tabled climate block out ≡ (Declined number value, out)
  refused number value v = sheets_refused (λ n w. (Declined n w, out)) (λ t. tabled t out) climate block (sheets_of climate block) refl number value v

  -- Role 1 may look.
  looked : tabled_by 1 climate block out ≡ sheet_tabled climate block out
  looked = same_for_roles.tables 1 (omega arith) (omega arith) climate block out

  -- The table's numbers, read back from the buffer.
  pub record As-rows (k : ℕ) (l : List ℕ) : Type 0 where
    pub few : k ≤ 29
    pub text : cells 0 (take (k * 6) l) ≡ sheets_printed climate block

  rows_are : (k : ℕ) (l : List ℕ) → (Rows k, l) ≡ tabled_by 1 climate block out → As-rows k l
  unfolding on_sheets
  rows_are k l e = go (sheets_of climate block).verdict refl
    where
      go : (v : Verdict) → (sheets_of climate block).verdict ≡ v → As-rows k l
      go Accepted v =
          let s = (sheets_of climate block).season in
          let q = e ∙ looked ∙ accepted v in
          let same : Rows k ≡ Rows (row_count s) = ap (λ (p : Tabled × List ℕ). p.0) q in
          let n : k ≡ row_count s = cc in
          let f : l ≡ table s ++ drop (row_count s * 6) out = ap (λ (p : Tabled × List ℕ). p.1) q in
          record {
            few = omega (arith, rows_at_most s (accepted_season climate block v).valid);
            text = rw (n, f, take_at (table s) (drop (row_count s * 6) out) (row_count s * 6) (length_flat s.efficiency (rows_to s _)), v) refl;
          }
      go (Refused number value) v = absurd (rows_refused k number value (ap (λ (p : Tabled × List ℕ). p.0) (e ∙ looked ∙ refused number value v)))

  pub rows_printed : {r : Result ℕ Refusal} {k : ℕ} {l : List ℕ} → r ≡ Ok k → (tabled_in r, l) ≡ tabled_by 1 climate block out → As-rows k l
  rows_printed {r} {k} {l} is e = rows_are k l (ap (λ (r : Result ℕ Refusal). (tabled_in r, l)) (sym is) ∙ e)

  refusal_is : (number value : ℕ) (l : List ℕ) → (Declined number value, l) ≡ tabled_by 1 climate block out → cell number 0x20 ++ cell value 0x0a ≡ sheets_printed climate block
  unfolding on_sheets
  refusal_is number value l e = go (sheets_of climate block).verdict refl
    where
      go : (v : Verdict) → (sheets_of climate block).verdict ≡ v → cell number 0x20 ++ cell value 0x0a ≡ sheets_printed climate block
      go Accepted v = absurd (rows_refused _ number value (sym (ap (λ (p : Tabled × List ℕ). p.0) (e ∙ looked ∙ accepted v))))
      go (Refused m w) v =
          let same : Declined number value ≡ Declined m w = ap (λ (p : Tabled × List ℕ). p.0) (e ∙ looked ∙ refused m w v) in
          let i : number ≡ m = cc in
          let j : value ≡ w = cc in
          rw (v, i, j)

  pub refusal_printed : {r : Result ℕ Refusal} {why : Refusal} {number : ℕ} {l : List ℕ} → r ≡ Err why → number ≡ number_of why.reason
      → (tabled_in r, l) ≡ tabled_by 1 climate block out → cell number 0x20 ++ cell why.value 0x0a ≡ sheets_printed climate block
  refusal_printed {r} {why} {number} {l} is n e =
      refusal_is number why.value l
      (ap (λ (k : ℕ). (Declined k why.value, l)) n ∙ ap (λ (r : Result ℕ Refusal). (tabled_in r, l)) (sym is) ∙ e)

-- A climate sheet ends within the input.
pub ends_within : (input : List ℕ) (at : ℕ) → at ≡ climate_end input → at ≤ length input
ends_within input at e = rw e (climate_end_within input)

-- What is printed of the two parts of an input, cut where its climate sheet ends.
pub of_parts : (input : List ℕ) (at : ℕ) → at ≡ climate_end input → sheets_printed (take at input) (take (length input - at) (drop at input)) ≡ printed input
of_parts input at e =
    ap (sheets_printed (take at input)) (tail_part at input) ∙ ap (λ (n : ℕ). sheets_printed (take n input) (drop n input)) e

-- A text that is too short stays.
pub too_short : (b text : List ℕ) → length text < 4096 → ((0, text) ≡ printed_to b text) × ((0 ≤ length text) × (0 ≡ length (take 0 text)))
too_short b text h = (rw (lt-ltb (length text) 4096 h) refl, (omega arith, refl))

-- A text that fits, stored from the start: the answer, and that its bytes can be lent.
pub stored : (b t text l : List ℕ) (r : ℕ) → 4096 ≤ length text → t ≡ printed b → length t ≤ length text → r ≡ length t → l ≡ sets text 0 t
    → ((r, l) ≡ printed_to b text) × ((r ≤ length l) × (r ≡ length (take r l)))
stored b t text l r long p h e s =
    let f : l ≡ t ++ drop (length t) text = s ∙ at_start t text h in
    let n : length l ≡ length text = ap length s ∙ length-sets text 0 t in
    (rw (le-ltb (length text) 4096 long, e, f, p) refl, (omega arith, sym (length-take-le r l (omega arith))))
