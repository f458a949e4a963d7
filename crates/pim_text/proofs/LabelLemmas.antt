-- What the test for a label says, and that a label is its own label.
use Rattle.std.proofs.Common.{◌≡◌, ℕ, zero, suc, ◌<◌, true, List, [], ◌∷◌, length, refl, arith, get_or}
use Rattle.std.specs.Prelude.{All}
use Rattle.std.specs.List.{list_all}
use Rattle.std.proofs.lemmas.Bool.Decides.{nat_tests}
use Rattle.pim_io.specs.Names.{label, label_byte, IsShown, IsLabel}
use Rattle.pim_io.specs.Names.{is_shown, is_label}

shown_is : (b : ℕ) → is_shown b ≡ true → IsShown b
shown_is b h = grind (arith, nat_tests)

is_shown_from : (b : ℕ) → IsShown b → is_shown b ≡ true
is_shown_from b h = grind (arith, nat_tests)

label_byte_same : (b : ℕ) → is_shown b ≡ true → label_byte b ≡ b
label_byte_same b h = grind (arith, nat_tests)

all_shown : (text : List ℕ) → list_all is_shown text ≡ true → (k d : ℕ) → k < length text → IsShown (get_or text k d)
all_shown [] h k d l = absurd (omega arith)
all_shown (b ∷ text) h zero d l = shown_is b (grind (arith, nat_tests))
all_shown (b ∷ text) h (suc k) d l = all_shown text (grind (arith, nat_tests)) k d (omega arith)

pub label_test : (text : List ℕ) → is_label text ≡ true → IsLabel text
label_test text h = record {
  some = grind (arith, nat_tests);
  short = grind (arith, nat_tests);
  shown = all_shown text (grind (arith, nat_tests));
}

shown_all : (text : List ℕ) → All IsShown text → list_all is_shown text ≡ true
shown_all [] h = refl
shown_all (b ∷ text) h =
    let first = is_shown_from b (h 0 0 (omega arith)) in
    let rest = shown_all text (λ k d l. h (suc k) d (omega arith)) in
    rw (first, rest) refl

pub is_label-from_IsLabel : (text : List ℕ) → IsLabel text → is_label text ≡ true
is_label-from_IsLabel text h =
    let shown = shown_all text h.shown in
    let some = h.some in
    let short = h.short in
    grind (arith, nat_tests)

same_if_shown : (text : List ℕ) → list_all is_shown text ≡ true → label text ≡ text
same_if_shown [] h = refl
same_if_shown (b ∷ text) h =
    let first = label_byte_same b (grind (arith, nat_tests)) in
    let rest = same_if_shown text (grind (arith, nat_tests)) in
    cc
