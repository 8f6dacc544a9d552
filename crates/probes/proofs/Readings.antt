-- What a reading is, in document 02's words: by the probes' cases, and by whether each content is one.
use mathlib.Core.Path.{◌≡◌, refl}
use mathlib.Core.Bool.{Bool, true, false, not, ◌&&◌, ◌||◌, cond}
use Prim.Native.Nat.{ℕ}
use Rattle.probes.specs.declared.Probe.{Probe}
use Rattle.probes.specs.declared.Probe.TheVariants.{Water, Low, Silent}
use Rattle.probes.specs.Contents.{Content, Wrong, is_content, content_of, pair_of, reading_of, is_wrong, is_nothing, wrong_content, no_content}

wrong_of_two : (p q : Bool) (v : ℕ) → is_wrong (cond (p && q) (Content v) Wrong) ≡ (not p || not q)
wrong_of_two true true v = refl
wrong_of_two true false v = refl
wrong_of_two false q v = refl

wrong_before : (p : Bool) (v : ℕ) → is_wrong (cond p (Content v) Wrong) ≡ (not p || false)
wrong_before true v = refl
wrong_before false v = refl

wrong_alone : (p : Bool) (v : ℕ) → is_wrong (cond p (Content v) Wrong) ≡ not p
wrong_alone true v = refl
wrong_alone false v = refl

some_content : (p : Bool) (v : ℕ) → is_nothing (cond p (Content v) Wrong) ≡ false
some_content true v = refl
some_content false v = refl

pub wrong_either : (shallow deep : Probe) → is_wrong (reading_of shallow deep) ≡ (wrong_content shallow || wrong_content deep)
unfolding reading_of pair_of content_of
wrong_either (Water x) (Water y) = wrong_of_two (is_content x) (is_content y) _
wrong_either (Water x) (Low u) = wrong_before (is_content x) _
wrong_either (Water x) Silent = wrong_before (is_content x) _
wrong_either (Low u) (Water y) = wrong_alone (is_content y) _
wrong_either (Low u) (Low w) = refl
wrong_either (Low u) Silent = refl
wrong_either Silent (Water y) = wrong_alone (is_content y) _
wrong_either Silent (Low w) = refl
wrong_either Silent Silent = refl

pub nothing_neither : (shallow deep : Probe) → is_nothing (reading_of shallow deep) ≡ (no_content shallow && no_content deep)
unfolding reading_of pair_of content_of
nothing_neither (Water x) (Water y) = some_content (is_content x && is_content y) _
nothing_neither (Water x) (Low u) = some_content (is_content x) _
nothing_neither (Water x) Silent = some_content (is_content x) _
nothing_neither (Low u) (Water y) = some_content (is_content y) _
nothing_neither (Low u) (Low w) = refl
nothing_neither (Low u) Silent = refl
nothing_neither Silent (Water y) = some_content (is_content y) _
nothing_neither Silent (Low w) = refl
nothing_neither Silent Silent = refl
