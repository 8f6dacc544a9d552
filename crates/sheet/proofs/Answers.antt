-- A writer's answer: a refusal and the buffer as it was, or the sheet's bytes at the buffer's start; and what reading makes of those.
use Prim.Native.Nat.{ℕ, ◌≤◌, ◌<◌}
use mathlib.Core.Path.{◌≡◌, refl, sym, ap, ap₂, ◌∙◌}
use mathlib.Core.Bool.{Bool, true, false, true≢false}
use mathlib.Core.Logic.{◌↔◌, inl, inr}
use mathlib.Core.List.{List, [], ◌∷◌, ◌++◌}
use native.Mathlib.Omega.{arith}
use borrow.Author.Tests.{lt-ltb, le-ltb, eq-eqb, ne_eqb, eqb-true}
use lib.Dec.{ltb, eqb}
use lib.ListN.{length, take, drop, get_or, take-append-drop}
use lib.Seq.{sets, length-take-le, take_all, take-length, take-suc, take-take, take_at, take-append_seam, get_or_at}
use Rattle.leb128.proofs.Steps.{lt_or_le}
use Rattle.leb128.specs.Claims.{Bytes}
use Rattle.season.proofs.Stores.{at_start}
use Rattle.season.specs.declared.Season.{Season}
use Rattle.verdict.specs.Refusals.{Verdict, or_refused, first_of}
use Rattle.verdict.specs.Refusals as verdict
use Rattle.verdict.proofs.First.{first_append, or_accepted}
use Rattle.fields.specs.Fields.{february_of, season_of, merged, block_fields}
use Rattle.fields.specs.Refusals.{climate_lines, block_lines, climate_verdict, block_verdict}
use Rattle.fields.proofs.Merged.{gives, gives_take, february_short, february_long, season_by, season_of_both}
use Rattle.fields.proofs.Verdicts.{seventeenth}
use Rattle.sheet.specs.Writing.{Written, Made, Refused, sheet_fields, tablet_fields, write_lines, written_by, bytes_written, climate_written, fields_written, block_written, write_verdict, numbers_of, climate_fields, season_fields}
use Rattle.sheet.specs.Numbers.{Numbers, numbers_are, written}
use Rattle.sheet.specs.Sheets.{climate_numbers, block_numbers, climate_by, climate_of, block_of, sheets_of}
use Rattle.sheet.proofs.Further.{Counts}
use Rattle.sheet.proofs.Accepted.{is_climate, is_block, is_pair}
use Rattle.sheet.proofs.ReadBack.{climate_numbers_lem, block_numbers_lem, climate_written_lem, block_written_lem}
use Rattle.sheet.proofs.Lengths.{climate_written_length, block_written_length}

-- ---- by the verdict

module _ (lines : List (Bool × ℕ × ℕ)) (bytes out : List ℕ) where
  abbrev verdict_on : Verdict
  verdict_on = first_of verdict.Accepted (write_lines lines bytes (length out))

  -- What judging says, then 15.
  judged_then_15 : verdict_on ≡ or_refused (first_of verdict.Accepted lines) (ltb (length out) (length bytes)) 15 0
  judged_then_15 = first_append verdict.Accepted lines ((ltb (length out) (length bytes), 15, 0) ∷ [])

  pub write_refused : (number value : ℕ) → verdict_on ≡ verdict.Refused number value → (Refused number value, out) ≡ bytes_written lines bytes out
  unfolding bytes_written
  write_refused number value e = rw e refl

  write_made : verdict_on ≡ verdict.Accepted → (Made (length bytes), bytes ++ drop (length bytes) out) ≡ bytes_written lines bytes out
  unfolding bytes_written
  write_made e = rw e refl

  -- The code goes by what judging says: a refusal,
  pub judged_refused : (number value : ℕ) → first_of verdict.Accepted lines ≡ verdict.Refused number value → (Refused number value, out) ≡ bytes_written lines bytes out
  unfolding or_refused
  judged_refused number value j = write_refused number value (judged_then_15 ∙ rw j refl)

  -- or else the bytes alone.
  pub judged_accepted : first_of verdict.Accepted lines ≡ verdict.Accepted → bytes_written [] bytes out ≡ bytes_written lines bytes out
  unfolding bytes_written
  judged_accepted j =
      ap (λ (v : Verdict). written_by v bytes out) (sym (judged_then_15 ∙ ap (λ (v : Verdict). or_refused v (ltb (length out) (length bytes)) 15 0) j))

  accepted_on : first_of verdict.Accepted lines ≡ verdict.Accepted → length bytes ≤ length out → verdict_on ≡ verdict.Accepted
  unfolding or_refused
  accepted_on j h = judged_then_15 ∙ rw (j, le-ltb _ _ h) refl

  pub write_whole : first_of verdict.Accepted lines ≡ verdict.Accepted → length bytes ≤ length out
      → bytes_written lines bytes out ≡ (Made (length bytes), bytes ++ drop (length bytes) out)
  write_whole j h = sym (write_made (accepted_on j h))

  -- The verdict of the answer.
  pub write_refuses : write_verdict (bytes_written lines bytes out).0 ≡ verdict_on
  unfolding bytes_written
  write_refuses = go verdict_on
    where
      go : (v : Verdict) → write_verdict (written_by v bytes out).0 ≡ v
      go verdict.Accepted = refl
      go (verdict.Refused number value) = refl

  pub write_unaltered : (number value : ℕ) → (bytes_written lines bytes out).0 ≡ Refused number value → (bytes_written lines bytes out).1 ≡ out
  write_unaltered number value e =
      sym (ap (λ (a : Written × List ℕ). a.1) (write_refused number value (sym write_refuses ∙ ap write_verdict e)))

  -- A sheet that is made: why, how many bytes, and the buffer.
  pub record Is-made (k : ℕ) : Type 0 where
    pub judged : first_of verdict.Accepted lines ≡ verdict.Accepted
    pub count : k ≡ length bytes
    pub buffer : take k (bytes_written lines bytes out).1 ≡ bytes

  pub is_made : (k : ℕ) → (bytes_written lines bytes out).0 ≡ Made k → Is-made k
  is_made k e =
      let a = sym write_refuses ∙ ap write_verdict e in
      let m = write_made a in
      let same : Made (length bytes) ≡ Made k = ap (λ (w : Written × List ℕ). w.0) m ∙ e in
      let n : k ≡ length bytes = cc in
      record {
        judged = (or_accepted (first_of verdict.Accepted lines) (ltb (length out) (length bytes)) 15 0 (sym judged_then_15 ∙ a)).0;
        count = n;
        buffer = rw (n, ← m) (take-append_seam bytes (drop (length bytes) out));
      }

-- ---- the bytes alone, as the code goes

module _ (bytes out : List ℕ) where
  pub short_written : length out < length bytes → (Refused 15 0, out) ≡ bytes_written [] bytes out
  unfolding or_refused
  short_written h = write_refused [] bytes out 15 0 (rw (lt-ltb _ _ h) refl)

  -- They were put there,
  pub put_written : {count : ℕ} {last : List ℕ} → length bytes ≤ length out → count ≡ length bytes → last ≡ sets out 0 bytes → (Made count, last) ≡ bytes_written [] bytes out
  put_written h n l = rw (l, n, at_start bytes out h) (sym (write_whole [] bytes out refl h))

  -- or copied.
  pub copied_written : {count : ℕ} {copied last : List ℕ} → length bytes ≤ length out → count ≡ length bytes → copied ≡ bytes
      → last ≡ copied ++ drop count out → (Made count, last) ≡ bytes_written [] bytes out
  copied_written h n b l = rw (l, b, n) (sym (write_whole [] bytes out refl h))

-- The bytes made, taken from the array that they were made in.
pub bytes_taken : (bytes l₀ l : List ℕ) (count : ℕ) → length bytes ≤ length l₀ → count ≡ length bytes → l ≡ sets l₀ 0 bytes → take count l ≡ bytes
bytes_taken bytes l₀ l count h n e = rw (n, e, at_start bytes l₀ h) (take-append_seam bytes (drop (length bytes) l₀))

pub numbers_one_to_one : (a b : Written) → numbers_of a ≡ numbers_of b → a ≡ b
numbers_one_to_one (Made k) (Made l) e = let h : k ≡ l = cc in rw h
numbers_one_to_one (Made k) (Refused n v) e = absurd (omega (arith, ap length e))
numbers_one_to_one (Refused n v) (Made k) e = absurd (omega (arith, ap length e))
numbers_one_to_one (Refused n v) (Refused m w) e = let h : n ≡ m = cc in let g : v ≡ w = cc in rw (h, g)

-- ---- the tablet's numbers and the block sheet's

module _ (vs : List ℕ) where
  pub fields_plain : get_or vs 16 0 ≡ 28 → sheet_fields vs ≡ take 16 vs
  fields_plain e = rw (eq-eqb (get_or vs 16 0) 28 e)

  pub fields_leap : (get_or vs 16 0 ≡ 28 → ⊥) → sheet_fields vs ≡ vs
  fields_leap e = rw (ne_eqb (get_or vs 16 0) 28 e)

  -- Seventeen numbers by their first sixteen and the last.
  last_number : length vs ≡ 17 → take 16 vs ++ (get_or vs 16 0 ∷ []) ≡ vs
  last_number n = sym (take-suc vs 16 0 (omega arith)) ∙ take_all 17 vs (omega arith)

  -- A February of 28 days, or another.
  by_last : {A : Type 0} → (get_or vs 16 0 ≡ 28 → A) → ((get_or vs 16 0 ≡ 28 → ⊥) → A) → A
  by_last {A} plain other = go (eqb (get_or vs 16 0) 28) refl
    where
      go : (b : Bool) → eqb (get_or vs 16 0) 28 ≡ b → A
      go true e = plain (eqb-true _ _ e)
      go false e = other (λ q. true≢false (sym (eq-eqb _ _ q) ∙ e))

  pub fields_count : length vs ≡ 17 → Counts 16 1 (sheet_fields vs)
  fields_count n =
      by_last
      (λ e. rw (fields_plain e) (omega (arith, length-take-le 16 vs (omega arith)), omega (arith, length-take-le 16 vs (omega arith))))
      (λ e. rw (fields_leap e) (omega arith, omega arith))

  -- They are the first so many.
  pub fields_taken : (count : ℕ) → length vs ≡ 17 → count ≡ length (sheet_fields vs) → take count vs ≡ sheet_fields vs
  fields_taken count n e =
      rw e (by_last
      (λ e. rw (fields_plain e) (ap (λ (k : ℕ). take k vs) (length-take-le 16 vs (omega arith))))
      (λ e. rw (fields_leap e) (take-length vs)))

  -- What the tablet gave, from the sheet's numbers.
  pub tablet_fields_lem : length vs ≡ 17 → block_verdict (sheet_fields vs) ≡ verdict.Accepted → tablet_fields (sheet_fields vs) ≡ vs
  tablet_fields_lem n a =
      by_last
      (λ e. rw (fields_plain e)
      (ap₂ (λ (t : List ℕ) (d : ℕ). t ++ (d ∷ [])) (take-take 16 16 vs (omega arith)) (february_short (take 16 vs) (omega (arith, length-take-le 16 vs (omega arith))) ∙ sym e)
      ∙ last_number n))
      (λ e. rw (fields_leap e)
      (let z = seventeenth vs n (rw (fields_leap e) at a) in
      ap (λ (d : ℕ). take 16 vs ++ (d ∷ [])) (february_long vs (omega arith) ∙ rw z refl ∙ sym z) ∙ last_number n))

-- A seventeenth number is 29.
abbrev Leap : List ℕ → Type 0
Leap b = length b ≡ 17 → get_or b 16 0 ≡ 29

-- And back.
pub sheet_fields_lem : (b : List ℕ) → Counts 16 1 b → Leap b → sheet_fields (tablet_fields b) ≡ b
sheet_fields_lem b n l =
    elim (lt_or_le 16 (length b)) [
      | inl m ↦
          let long : length b ≡ 17 = omega (arith, n.1) in
          let last = l long in
          let same : tablet_fields b ≡ b = ap (λ (d : ℕ). take 16 b ++ (d ∷ [])) (february_long b m ∙ rw last refl ∙ sym last) ∙ last_number b long in
          ap sheet_fields same ∙ fields_leap b (λ e. omega arith)
      | inr m ↦
          let sixteen : length b ≡ 16 = omega (arith, n.0) in
          let same : tablet_fields b ≡ b ++ (28 ∷ []) = ap₂ (λ (t : List ℕ) (d : ℕ). t ++ (d ∷ [])) (take_all 16 b m) (february_short b m) in
          ap sheet_fields same ∙ fields_plain (b ++ (28 ∷ [])) (get_or_at b 28 [] 0 16 sixteen) ∙ take_at b (28 ∷ []) 16 sixteen
    ]

-- A season's numbers are those that it was read from.
season_fields_lem : (eto rain b : List ℕ) → 16 ≤ length b → season_fields (season_by eto rain b) ≡ tablet_fields b
unfolding gives
season_fields_lem eto rain b n = ap (λ (t : List ℕ). t ++ (february_of (block_fields b) ∷ [])) (gives_take 16 b n)

pub fields_of_season : (c b : List ℕ) → length c ≡ 24 → 16 ≤ length b → length b ≤ 17 → Leap b
    → (climate_fields (season_of (merged c b)) ≡ c) × (season_fields (season_of (merged c b)) ≡ tablet_fields b) × (sheet_fields (tablet_fields b) ≡ b)
fields_of_season c b m n o l =
    let s = season_of_both c b m (omega arith) in (
      ap climate_fields s ∙ take-append-drop 12 c,
      ap season_fields s ∙ season_fields_lem (take 12 c) (drop 12 c) b n,
      sheet_fields_lem b (n, o) l,
    )

-- ---- written and read

pub climate_write_length : (c out : List ℕ) (k : ℕ) → length c ≡ 24 → (climate_written c out).0 ≡ Made k → (24 ≤ k) × (k ≤ 60)
unfolding climate_verdict
climate_write_length c out k n e =
    let i = is_made (climate_lines c) (written c) out k e in
    rw i.count (climate_written_length c n i.judged)

pub block_write_length : (vs out : List ℕ) (k : ℕ) → length vs ≡ 17 → (block_written vs out).0 ≡ Made k → (16 ≤ k) × (k ≤ 27)
unfolding block_verdict
block_write_length vs out k n e =
    let i = is_made (block_lines (sheet_fields vs)) (written (sheet_fields vs)) out k e in
    let m = fields_count vs n in
    rw i.count (block_written_length (sheet_fields vs) m.0 m.1 i.judged)

pub climate_write_read : (c out : List ℕ) (k : ℕ) → length c ≡ 24 → (climate_written c out).0 ≡ Made k
    → (climate_numbers (take k (climate_written c out).1) ≡ numbers_are c verdict.Accepted) × (climate_of (take k (climate_written c out).1) ≡ climate_by c verdict.Accepted)
unfolding climate_verdict
climate_write_read c out k n e =
    let i = is_made (climate_lines c) (written c) out k e in
    rw i.buffer (climate_numbers_lem c n i.judged, climate_written_lem c n i.judged)

pub block_write_read : (vs out : List ℕ) (k : ℕ) → length vs ≡ 17 → (block_written vs out).0 ≡ Made k
    → (block_numbers (take k (block_written vs out).1) ≡ numbers_are (sheet_fields vs) verdict.Accepted)
    × (block_of (take k (block_written vs out).1) ≡ numbers_are (sheet_fields vs) verdict.Accepted)
    × (tablet_fields (sheet_fields vs) ≡ vs)
unfolding block_verdict
block_write_read vs out k n e =
    let b = sheet_fields vs in
    let i = is_made (block_lines b) (written b) out k e in
    let m = fields_count vs n in
    rw i.buffer (block_numbers_lem b m i.judged, block_written_lem b m.0 m.1 i.judged, tablet_fields_lem vs n i.judged)

pub climate_read_write : (climate out : List ℕ) → Bytes climate → (climate_of climate).verdict ≡ verdict.Accepted → length climate ≤ length out
    → climate_written ((climate_of climate).eto ++ (climate_of climate).rain) out ≡ (Made (length climate), climate ++ drop (length climate) out)
unfolding climate_verdict
climate_read_write climate out bytes e room =
    let a = is_climate climate e in
    let c = (climate_numbers climate).fields in
    let w : climate ≡ written c = a.as_written bytes in
    ap (λ (l : List ℕ). climate_written l out) a.dozens ∙ write_whole (climate_lines c) (written c) out a.verdict (rw w at room)
    ∙ ap (λ (t : List ℕ). (Made (length t), t ++ drop (length t) out)) (sym w)

accepted_leap : (b : List ℕ) → block_verdict b ≡ verdict.Accepted → Leap b
accepted_leap b a m = seventeenth b m a

pub block_read_write : (block out : List ℕ) → Bytes block → (block_of block).verdict ≡ verdict.Accepted → length block ≤ length out
    → block_written (tablet_fields (block_of block).fields) out ≡ (Made (length block), block ++ drop (length block) out)
unfolding block_verdict
block_read_write block out bytes e room =
    let a = is_block block e in
    let b = (block_numbers block).fields in
    let w : block ≡ written b = a.as_written bytes in
    ap (λ (n : Numbers). block_written (tablet_fields n.fields) out) a.block
    ∙ ap (λ (t : List ℕ). fields_written t out) (sheet_fields_lem b a.count (accepted_leap b a.verdict))
    ∙ write_whole (block_lines b) (written b) out a.verdict (rw w at room)
    ∙ ap (λ (t : List ℕ). (Made (length t), t ++ drop (length t) out)) (sym w)

-- The numbers of an accepted pair, from its season.
season_numbers : (climate block : List ℕ) → (sheets_of climate block).verdict ≡ verdict.Accepted
    → (climate_fields (sheets_of climate block).season ≡ (climate_numbers climate).fields) × (sheet_fields (season_fields (sheets_of climate block).season) ≡ (block_numbers block).fields)
season_numbers climate block e =
    let p = is_pair climate block e in
    let b = (block_numbers block).fields in
    let i = p.climate_is in
    let j = p.block_is in
    let f = fields_of_season (climate_numbers climate).fields b i.count j.count.0 j.count.1 (accepted_leap b j.verdict) in
    rw p.sheets (f.0, ap sheet_fields f.1 ∙ f.2)

-- A season has one pair.
pub one_spelling : (c b d e : List ℕ) → Bytes c → Bytes b → Bytes d → Bytes e → (sheets_of c b).verdict ≡ verdict.Accepted → (sheets_of d e).verdict ≡ verdict.Accepted
    → (sheets_of c b).season ≡ (sheets_of d e).season → (c ≡ d) × (b ≡ e)
one_spelling c b d e p q r s v w same =
    let i = is_pair c b v in
    let j = is_pair d e w in
    let m = season_numbers c b v in
    let n = season_numbers d e w in (
      i.climate_is.as_written p ∙ ap written (sym m.0 ∙ ap climate_fields same ∙ n.0) ∙ sym (j.climate_is.as_written r),
      i.block_is.as_written q ∙ ap written (sym m.1 ∙ ap (λ (t : Season). sheet_fields (season_fields t)) same ∙ n.1) ∙ sym (j.block_is.as_written s),
    )

-- February has 29 days where there is a seventeenth number.
pub leap_iff : (climate block : List ℕ) → (sheets_of climate block).verdict ≡ verdict.Accepted
    → ((sheets_of climate block).season.february ≡ 29) ↔ (length (block_of block).fields ≡ 17)
leap_iff climate block v =
    let p = is_pair climate block v in
    let c = (climate_numbers climate).fields in
    let b = (block_numbers block).fields in
    let j = p.block_is in
    let is : (sheets_of climate block).season.february ≡ february_of (block_fields b)
    = rw p.sheets (ap (λ (s : Season). s.february) (season_of_both c b p.climate_is.count (omega (arith, j.count.0)))) in
    let size : length (block_of block).fields ≡ length b = ap (λ (n : Numbers). length n.fields) j.block in (
      λ h. elim (lt_or_le 16 (length b)) [
        | inl m ↦ omega (arith, j.count.1, size)
        | inr m ↦ absurd (omega (arith, h, is, february_short b m))
      ],
      λ n.
          let m : length b ≡ 17 = omega arith in
          is ∙ february_long b (omega arith) ∙ rw (seventeenth b m j.verdict) refl,
    )
