-- Document 01, 'Numbers to hold against it': every case marked †, in its order; then those of a season over the end of February, of the probes and of roles (document 02, T-06, T-07, T-09). Left, what the calls and their definitions answer; right, the document's numbers.
use Rattle.std.specs.Prelude.{ℕ, ◌*◌, List, [], ◌∷◌, ◌++◌, take, get_or, replicate, set}
use Rattle.std.specs.Float.{binary32}
use Rattle.std.specs.Float.Ieee.{of_bits}
use Rattle.verdict.specs.Refusals as verdict
use Rattle.leb128.specs.Groups.{encode}
use Rattle.season.specs.declared.Season.{Season}
use Rattle.season.specs.Rules.{effective_rain, planned_rain}
use Rattle.season.specs.Day.{crop_need, rain_on}
use Rattle.season.specs.Closing.{crop_use}
use Rattle.season.specs.Depths.{net_is, gross_of}
use Rattle.sheet.specs.Numbers.{written}
use Rattle.fields.specs.Fields.{season_of, merged}
use Rattle.sheet.specs.Sheets.{sheets_of}
use Rattle.sheet.specs.Cases.{small_climate, small_block, leap_climate, leap_block}
use Rattle.journal.specs.declared.Source.TheVariants.{Rain}
use Rattle.journal.specs.declared.Entry.TheVariants as entry
use Rattle.journal.specs.Opening as openings
use Rattle.journal.specs.Calls.{opened_numbers}
use Rattle.planner.specs.Answer.{Planned}
use Rattle.planner.specs.Answer as planner
use Rattle.decades.specs.Table.{Tabled}
use Rattle.decades.specs.Table as decades
use Rattle.probes.specs.declared.Probe.{Probe}
use Rattle.probes.specs.declared.Probe.TheVariants.{Water, Low, Silent}
use Rattle.measuring.specs.Probing.{probed_numbers}
use Rattle.controller.specs.Calls.{sheet_opened, sheet_planned, sheet_probed, sheet_tabled}
use Rattle.controller.specs.Roles.{opened_by, recorded_by}

-- The small pair's bytes; its block with these turns, which are the block's last number.
abbrev climate : List ℕ
climate = written small_climate

abbrev block : ℕ → List ℕ
block turns = written (set small_block 15 turns)

-- A season with ETo 450, stages of 10, 30, 10 and 30 days, and these Kc ini, mid and end: day 10 of its development is day 20, day 1 of its late stage day 51.
abbrev thirty_days : ℕ → ℕ → ℕ → Season
thirty_days ini mid end =
    season_of (1 ∷ 1 ∷ 10 ∷ 30 ∷ 10 ∷ 30 ∷ ini ∷ mid ∷ end ∷ (replicate 12 450 ++ replicate 12 0 ++ (100 ∷ 20 ∷ 20 ∷ 50 ∷ 75 ∷ 0 ∷ 127 ∷ [])))

-- A plan's numbers, and then the lent buffer: the small pair on a blank journal of eight bytes, and five sevens lent for its four days.
abbrev shown : Planned × List ℕ → List ℕ
shown a = planner.numbers_of a.0 ++ a.1

abbrev small_plan : ℕ → List ℕ
small_plan turns = shown (sheet_planned climate (block turns) (replicate 8 0xFF) (replicate 5 7))

unfoldable pub cases : List (List ℕ × List ℕ)
cases =
    -- 300 is AC 02; 127 is 7F; 128 is 80 01; 120,000 is C0 A9 07. 80 00 is refused 2.
    (encode 300, 0xAC ∷ 0x02 ∷ [])
    ∷ (encode 127, 0x7F ∷ [])
    ∷ (encode 128, 0x80 ∷ 0x01 ∷ [])
    ∷ (encode 120000, 0xC0 ∷ 0xA9 ∷ 0x07 ∷ [])
    ∷ (verdict.numbers_of (sheets_of (0x80 ∷ 0x00 ∷ []) []).verdict, 2 ∷ 1 ∷ [])
    -- ETo 450, Kc 30 to 115, L 30, k 10: 262.5, so 263. Kc 120 to 35, k 1: 527.
    ∷ (crop_need (thirty_days 30 115 35) 20 ∷ crop_need (thirty_days 30 120 35) 51 ∷ [], 263 ∷ 527 ∷ [])
    -- q 10,000 gives 8,400; 25,000 and 25,001 give 15,000; 60,000 gives 18,500.
    ∷ (effective_rain 10000 ∷ effective_rain 25000 ∷ effective_rain 25001 ∷ effective_rain 60000 ∷ [], 8400 ∷ 15000 ∷ 15000 ∷ 18500 ∷ [])
    -- Effective rain 100 in 31 days: day 1 is 3, day 31 is 4.
    ∷ (planned_rain 100 1 31 ∷ planned_rain 100 31 31 ∷ [], 3 ∷ 4 ∷ [])
    -- T 2,000, R 1,000, C 500: D1 1,000 uses 500; 1,001 uses 499; 1,500 uses 250.
    ∷ (crop_use 1000 500 2000 1000 ∷ crop_use 1001 500 2000 1000 ∷ crop_use 1500 500 2000 1000 ∷ [], 500 ∷ 499 ∷ 250 ∷ [])
    -- Net 6,280: gross 13,956 at 45 percent, 8,374 at 75.
    ∷ ((gross_of 45 (net_is 6280)).0 ∷ (gross_of 75 (net_is 6280)).0 ∷ [], 13956 ∷ 8374 ∷ [])
    -- 01 AC FF FF is torn at 0; mending stores place 1, then place 0: open hands them back (document 02, T-05). FF AC FF FF is damaged.
    ∷ (
      opened_numbers (sheet_opened climate (block 127) (0x01 ∷ 0xAC ∷ 0xFF ∷ 0xFF ∷ [])),
      10 ∷ 0 ∷ 1 ∷ (replicate 17 0 ++ (1 ∷ 0xFF ∷ 0 ∷ 0xFF ∷ [])),
    )
    ∷ (opened_numbers (sheet_opened climate (block 127) (0xFF ∷ 0xAC ∷ 0xFF ∷ 0xFF ∷ [])), 9 ∷ 0 ∷ [])
    -- turns 127: one watering, day 3, 700, gross 934.
    ∷ (small_plan 127, 0 ∷ 0 ∷ 1 ∷ 700 ∷ 934 ∷ 0 ∷ 0 ∷ 700 ∷ 0 ∷ 7 ∷ [])
    -- turns 2: refused 16, day 4.
    ∷ (small_plan 2, 16 ∷ 4 ∷ replicate 5 7)
    -- turns 10: day 2 200, day 4 1,000.
    ∷ (small_plan 10, 0 ∷ 0 ∷ 2 ∷ 1200 ∷ 1600 ∷ 0 ∷ 200 ∷ 0 ∷ 1000 ∷ 7 ∷ [])
    -- turns 1: refused 16, day 3.
    ∷ (small_plan 1, 16 ∷ 3 ∷ replicate 5 7)
    ∷ []

-- ---- the leap pair

-- Its block's numbers, with no seventeenth where February has 28 days.
abbrev february28 : List ℕ
february28 = leap_block

abbrev february29 : List ℕ
february29 = leap_block ++ (29 ∷ [])

-- C and planned rain on its four days.
abbrev days : Season → List ℕ
days s =
    crop_need s 1 ∷ crop_need s 2 ∷ crop_need s 3 ∷ crop_need s 4
    ∷ rain_on s 1 ∷ rain_on s 2 ∷ rain_on s 3 ∷ rain_on s 4 ∷ []

-- A table's numbers, and then the lent buffer of twelve.
abbrev rows : Tabled × List ℕ → List ℕ
rows a = decades.numbers_of a.0 ++ a.1

abbrev table : List ℕ → List ℕ
table fields = rows (sheet_tabled (written leap_climate) (written fields) (replicate 12 7))

-- The plan on a blank journal.
abbrev plan : List ℕ → List ℕ
plan fields = shown (sheet_planned (written leap_climate) (written fields) (replicate 8 0xFF) (replicate 4 7))

-- The depletion after so many days are closed, no water having come.
abbrev dry : List ℕ → ℕ → ℕ
dry fields closed =
    get_or (opened_numbers (sheet_opened (written leap_climate) (written fields) (take (2 * closed) (0x03 ∷ 0x01 ∷ 0x03 ∷ 0x02 ∷ 0x03 ∷ 0x03 ∷ 0x03 ∷ 0x04 ∷ []) ++ replicate 8 0xFF))) 3 0

abbrev depletions : List ℕ → List ℕ
depletions fields = dry fields 1 ∷ dry fields 2 ∷ dry fields 3 ∷ dry fields 4 ∷ []

unfoldable pub leap_cases : List (List ℕ × List ℕ)
leap_cases =
    -- With 28: day 3 is 1 March.
    (days (season_of (merged leap_climate february28)), 200 ∷ 500 ∷ 1000 ∷ 600 ∷ 300 ∷ 300 ∷ 270 ∷ 271 ∷ [])
    ∷ (table february28, 0 ∷ 0 ∷ 2 ∷ 2 ∷ 3 ∷ 700 ∷ 600 ∷ 100 ∷ 134 ∷ 3 ∷ 1 ∷ 1600 ∷ 541 ∷ 1059 ∷ 1412 ∷ [])
    ∷ (plan february28, 0 ∷ 0 ∷ 2 ∷ 959 ∷ 1279 ∷ 0 ∷ 0 ∷ 230 ∷ 729 ∷ [])
    ∷ (depletions february28, 200 ∷ 700 ∷ 1700 ∷ 1880 ∷ [])
    -- With 29: day 3 is 29 February, and each day of February has less of its rain.
    ∷ (days (season_of (merged leap_climate february29)), 200 ∷ 500 ∷ 500 ∷ 600 ∷ 289 ∷ 290 ∷ 290 ∷ 270 ∷ [])
    ∷ (table february29, 0 ∷ 0 ∷ 2 ∷ 2 ∷ 3 ∷ 1200 ∷ 869 ∷ 331 ∷ 442 ∷ 3 ∷ 1 ∷ 600 ∷ 270 ∷ 330 ∷ 440 ∷ [])
    ∷ (plan february29, 0 ∷ 0 ∷ 1 ∷ 440 ∷ 587 ∷ 0 ∷ 0 ∷ 0 ∷ 440 ∷ [])
    ∷ (depletions february29, 200 ∷ 700 ∷ 1200 ∷ 1680 ∷ [])
    ∷ []

-- ---- the probes

-- A content and a low voltage by their bits.
abbrev water : ℕ → Probe
water bits = Water (of_bits binary32 bits)

abbrev low : ℕ → Probe
low bits = Low (of_bits binary32 bits)

-- The small pair with this full root depth, the block's twelfth number, on a journal that begins so.
abbrev probed : ℕ → List ℕ → Probe → Probe → ℕ → List ℕ
probed full begins shallow deep f = probed_numbers (sheet_probed climate (written (set small_block 11 full)) (begins ++ replicate 4 0xFF) shallow deep f)

unfoldable pub probe_cases : List (List ℕ × List ℕ)
probe_cases =
    -- 0.25, f 3,000: Z 20, T 2,000. 0.25 and 0.5: v 3,750. 0.35 is below it, 3,499. 0: at most T. -0. 1.
    (probed 20 [] (water 0x3e80_0000) Silent 3000, 0 ∷ 0 ∷ 0 ∷ 1000 ∷ [])
    ∷ (probed 20 [] (water 0x3e80_0000) (water 0x3f00_0000) 3000, 0 ∷ 0 ∷ 0 ∷ 0 ∷ [])
    ∷ (probed 20 [] (water 0x3eb3_3333) (water 0x3eb3_3333) 3500, 0 ∷ 0 ∷ 0 ∷ 2 ∷ [])
    ∷ (probed 20 [] (water 0) Silent 6000, 0 ∷ 0 ∷ 0 ∷ 2000 ∷ [])
    ∷ (probed 20 [] (water 0x8000_0000) Silent 1, 0 ∷ 0 ∷ 0 ∷ 2 ∷ [])
    ∷ (probed 20 [] Silent (water 0x3f80_0000) 6000, 0 ∷ 0 ∷ 0 ∷ 0 ∷ [])
    -- Zm 40: Z 30, and 40 after 03 01. There 0.0002 and 0.0001 are 1 and 0, whose mean is 0.
    ∷ (probed 40 [] (water 0x3e80_0000) Silent 3000, 0 ∷ 0 ∷ 0 ∷ 1500 ∷ [])
    ∷ (probed 40 (0x03 ∷ 0x01 ∷ []) (water 0x3e80_0000) Silent 3000, 0 ∷ 0 ∷ 200 ∷ 2000 ∷ [])
    ∷ (probed 40 (0x03 ∷ 0x01 ∷ []) (water 0x3951_b717) (water 0x38d1_b717) 10, 0 ∷ 0 ∷ 200 ∷ 40 ∷ [])
    -- f 0 and 6,001, with both silent too; no content; a low NaN; a NaN for a content
    ∷ (probed 20 [] (water 0x3e80_0000) Silent 0, 18 ∷ 0 ∷ [])
    ∷ (probed 20 [] Silent Silent 0, 18 ∷ 0 ∷ [])
    ∷ (probed 20 [] Silent Silent 6001, 18 ∷ 0 ∷ [])
    ∷ (probed 20 [] Silent Silent 6000, 19 ∷ 0 ∷ [])
    ∷ (probed 20 [] Silent (low 0x3f00_0000) 3000, 19 ∷ 0 ∷ [])
    ∷ (probed 20 [] (low 0x7fc0_0000) (water 0x3f00_0000) 3000, 0 ∷ 0 ∷ 0 ∷ 0 ∷ [])
    ∷ (probed 20 [] (water 0x3f00_0000) (water 0x7fc0_0000) 3000, 18 ∷ 0 ∷ [])
    -- 8, 10 and 11 come first: an area of 8,193 bytes, 01 AC, all days closed.
    ∷ (probed 20 (replicate 8189 0xFF) (water 0x7fc0_0000) Silent 3000, 8 ∷ 0 ∷ [])
    ∷ (probed 20 (0x01 ∷ 0xAC ∷ []) (water 0x7fc0_0000) Silent 3000, 10 ∷ 0 ∷ [])
    ∷ (probed 20 (0x03 ∷ 0x01 ∷ 0x03 ∷ 0x02 ∷ 0x03 ∷ 0x03 ∷ 0x03 ∷ 0x04 ∷ []) Silent Silent 0, 11 ∷ 0 ∷ [])
    ∷ []

-- ---- the roles

-- Every part of an opening's answer, count and places too, on a journal that begins so; and of rain's.
abbrev opens_by : ℕ → List ℕ → List ℕ → List ℕ
opens_by role sheet area =
    let r = opened_by role sheet (block 127) area in
    openings.numbers_of r.opening ++ (r.count ∷ r.places)

abbrev rain_by : ℕ → List ℕ → ℕ → List ℕ
rain_by role area amount =
    let r = recorded_by role climate (block 127) area (entry.Water Rain amount) in
    verdict.numbers_of r.verdict ++ (r.stores.start ∷ r.stores.count ∷ r.stores.bytes)

unfoldable pub role_cases : List (List ℕ × List ℕ)
role_cases =
    -- 01 AC FF FF: role 3 is handed places 1 and 0; roles 1 and 2 get the same ledger and nothing; 0 and 4 are no roles.
    (opens_by 3 climate (0x01 ∷ 0xAC ∷ 0xFF ∷ 0xFF ∷ []), 10 ∷ 0 ∷ 1 ∷ (replicate 17 0 ++ (2 ∷ 1 ∷ 0 ∷ 0 ∷ [])))
    ∷ (opens_by 1 climate (0x01 ∷ 0xAC ∷ 0xFF ∷ 0xFF ∷ []), 10 ∷ 0 ∷ 1 ∷ (replicate 17 0 ++ (0 ∷ 0 ∷ 0 ∷ 0 ∷ [])))
    ∷ (opens_by 2 climate (0x01 ∷ 0xAC ∷ 0xFF ∷ 0xFF ∷ []), 10 ∷ 0 ∷ 1 ∷ (replicate 17 0 ++ (0 ∷ 0 ∷ 0 ∷ 0 ∷ [])))
    ∷ (opens_by 0 climate (0x01 ∷ 0xAC ∷ 0xFF ∷ 0xFF ∷ []), 20 ∷ 0 ∷ 0 ∷ 0 ∷ 0 ∷ 0 ∷ [])
    ∷ (opens_by 4 climate (0x01 ∷ 0xAC ∷ 0xFF ∷ 0xFF ∷ []), 20 ∷ 0 ∷ 0 ∷ 0 ∷ 0 ∷ 0 ∷ [])
    -- Rain of 5 on a blank area of eight bytes.
    ∷ (rain_by 1 (replicate 8 0xFF) 5, 21 ∷ 0 ∷ 0 ∷ 0 ∷ 0 ∷ 0 ∷ 0 ∷ 0 ∷ [])
    ∷ (rain_by 2 (replicate 8 0xFF) 5, 0 ∷ 0 ∷ 0 ∷ 2 ∷ 0x01 ∷ 0x05 ∷ 0 ∷ 0 ∷ [])
    ∷ (rain_by 3 (replicate 8 0xFF) 5, 0 ∷ 0 ∷ 0 ∷ 2 ∷ 0x01 ∷ 0x05 ∷ 0 ∷ 0 ∷ [])
    ∷ (rain_by 4 (replicate 8 0xFF) 5, 20 ∷ 0 ∷ 0 ∷ 0 ∷ 0 ∷ 0 ∷ 0 ∷ 0 ∷ [])
    -- The role comes before an empty climate sheet, and before damage and an amount of 0.
    ∷ (opens_by 0 [] [], 20 ∷ 0 ∷ 0 ∷ 0 ∷ 0 ∷ 0 ∷ [])
    ∷ (rain_by 1 (0xFF ∷ 0xAC ∷ 0xFF ∷ 0xFF ∷ []) 0, 21 ∷ 0 ∷ 0 ∷ 0 ∷ 0 ∷ 0 ∷ 0 ∷ 0 ∷ [])
    ∷ []
