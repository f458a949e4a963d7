-- The label of a name is a label, and a label is its own label.
use Rattle.std.proofs.Common.{◌≡◌, ℕ, ◌<◌, ◌≤◌, true, List, [], ◌∷◌, length, refl, arith, get_or, zero, suc}
use Rattle.std.specs.Prelude.{All}
use Rattle.std.specs.List.{list_all}
use Rattle.std.proofs.lemmas.Bool.Decides.{nat_tests}
use Rattle.std.proofs.lemmas.List.{length-map}
use Rattle.pim_io.specs.declared.limits.TheConstants.{MAX_NAME}
use Rattle.pim_io.specs.Names.{label, label_byte, IsShown, IsLabel, is_shown}

pub IsShown-label_byte : (b : ℕ) → IsShown (label_byte b)
IsShown-label_byte b = grind (arith, nat_tests)

pub label_byte_same : (b : ℕ) → IsShown b → label_byte b ≡ b
label_byte_same b h = grind (arith, nat_tests)

pub shown-label : (bytes : List ℕ) (k d : ℕ) → k < length (label bytes) → IsShown (get_or (label bytes) k d)
shown-label [] k d h = absurd (omega arith)
shown-label (b ∷ bytes) zero d h = IsShown-label_byte b
shown-label (b ∷ bytes) (suc k) d h = shown-label bytes k d (omega arith)

pub IsLabel-label : (bytes : List ℕ) → 0 < length bytes → length bytes ≤ MAX_NAME → IsLabel (label bytes)
IsLabel-label bytes some short = record {
  some = omega (arith, length-map bytes label_byte);
  short = omega (arith, length-map bytes label_byte);
  shown = shown-label bytes;
}

pub label_same : (bytes : List ℕ) → All IsShown bytes → label bytes ≡ bytes
label_same [] h = refl
label_same (b ∷ bytes) h =
    let first = label_byte_same b (h 0 0 (omega arith)) in
    let rest = label_same bytes (λ k d l. h (suc k) d (omega arith)) in
    cc

-- ---- the test for a label
shown_is : (b : ℕ) → is_shown b ≡ true → IsShown b
shown_is b h = grind (arith, nat_tests)

is_shown_from : (b : ℕ) → IsShown b → is_shown b ≡ true
is_shown_from b h = grind (arith, nat_tests)

all_shown : (text : List ℕ) → list_all is_shown text ≡ true → (k d : ℕ) → k < length text → IsShown (get_or text k d)
all_shown [] h k d l = absurd (omega arith)
all_shown (b ∷ text) h zero d l = shown_is b (grind (arith, nat_tests))
all_shown (b ∷ text) h (suc k) d l = all_shown text (grind (arith, nat_tests)) k d (omega arith)

pub shown_all : (text : List ℕ) → All IsShown text → list_all is_shown text ≡ true
shown_all [] h = refl
shown_all (b ∷ text) h =
    let first = is_shown_from b (h 0 0 (omega arith)) in
    let rest = shown_all text (λ k d l. h (suc k) d (omega arith)) in
    rw (first, rest) refl

pub IsLabel-shown : (text : List ℕ) → 0 < length text → length text ≤ MAX_NAME → list_all is_shown text ≡ true → IsLabel text
IsLabel-shown text some short h = record { some = some; short = short; shown = all_shown text h }
