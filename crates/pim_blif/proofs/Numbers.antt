-- The numbers of names, as places in a list of slices, and the names once one is added.
use Rattle.std.proofs.Common.{◌≡◌, ℕ, zero, suc, Some, None, codes, slice_get, ◌+◌, ◌<◌, ◌≤◌, Bool, true, false, ◌||◌, not, cond, List, [], ◌∷◌, ◌++◌, length, refl, ap, sym, ◌∙◌, arith, subst, get_or, eqb, ltb, length-append}
use Rattle.std.specs.Borrow.{Bor}
use Rattle.std.specs.List.{All, list_any, position_or_len}
use Rattle.std.specs.Str.{bytes_eq}
use Rattle.std.proofs.lemmas.Bool.Decides.{nat_tests}
use Rattle.std.proofs.lemmas.List.{map-append, length-map, get_or-map}
use Rattle.std.proofs.lemmas.List.Elements.{All-same, All-push}
use Rattle.std.proofs.lemmas.Option.{slice_get_within, slice_get-get_or}
use Rattle.indexmap.specs.IndexSet.{insert_key}
use Rattle.pim_net.specs.Labels.{IsName}
use Rattle.pim_net.specs.declared.limits.TheConstants.{MAX_SIGNALS}
use Rattle.pim_blif.specs.inner.Reading.{texts}
use Rattle.pim_blif.specs.Signals.{name_of, signal_number, is_known, with_name}

eqb_same : (a b : ℕ) → eqb a b ≡ eqb b a
eqb_same a b = grind (arith, nat_tests)

-- two names are equal in either order
bytes_same : (a b : List ℕ) → bytes_eq a b ≡ bytes_eq b a
bytes_same [] [] = refl
bytes_same [] (y ∷ ys) = refl
bytes_same (x ∷ xs) [] = refl
bytes_same (x ∷ xs) (y ∷ ys) = rw (eqb_same x y, bytes_same xs ys) refl

-- the number of a name is the first place that holds it
pub number_of_place : (keys : List (Bor (List ℕ))) (name : List ℕ) → signal_number (texts keys) name ≡ position_or_len (λ (key : Bor (List ℕ)). bytes_eq name key.now) keys
number_of_place [] name = refl
number_of_place (key ∷ keys) name =
    rw (bytes_same key.now name) (elim (bytes_eq name key.now) as (λ v. cond v 0 (suc (signal_number (texts keys) name)) ≡ cond (not v) (1 + position_or_len (λ (key : Bor (List ℕ)). bytes_eq name key.now) keys) 0) [
      | true ↦ refl
      | false ↦ omega (arith, number_of_place keys name)
    ])

-- a name is known where a place holds it
pub is_known_any : (keys : List (Bor (List ℕ))) (name : List ℕ) → is_known (texts keys) name ≡ list_any (λ (key : Bor (List ℕ)). bytes_eq name key.now) keys
is_known_any [] name = refl
is_known_any (key ∷ keys) name =
    rw (bytes_same key.now name) (elim (bytes_eq name key.now) as (λ v. ltb (cond v 0 (suc (signal_number (texts keys) name))) (suc (length (texts keys))) ≡ (v || list_any (λ (key : Bor (List ℕ)). bytes_eq name key.now) keys)) [
      | true ↦ grind (arith, nat_tests)
      | false ↦ sym (later (signal_number (texts keys) name) (length (texts keys))) ∙ is_known_any keys name
    ])
  where
    later : (m n : ℕ) → ltb m n ≡ ltb (suc m) (suc n)
    later m n = grind (arith, nat_tests)

-- the names once one is added
pub inserted : (keys : List (Bor (List ℕ))) (name : Bor (List ℕ)) → texts (insert_key (λ (x y : Bor (List ℕ)). bytes_eq x.now y.now) keys name) ≡ with_name (texts keys) name.now
inserted keys name =
    rw (is_known_any keys name.now) (elim (list_any (λ (key : Bor (List ℕ)). bytes_eq name.now key.now) keys) as (λ v. texts (cond v keys (keys ++ name ∷ [])) ≡ cond v (texts keys) (texts keys ++ name.now ∷ [])) [
      | true ↦ refl
      | false ↦ map-append (λ (slice : Bor (List ℕ)). slice.now) keys (name ∷ [])
    ])

-- names that are labels, and not too many, stay so once one is added
pub kept : (names after : List (List ℕ)) (name : List ℕ) → after ≡ with_name names name → All IsName names → length names ≤ MAX_SIGNALS → IsName name → signal_number names name < MAX_SIGNALS → All IsName after × (length after ≤ MAX_SIGNALS)
kept names after name e labels few label room = by (is_known names name) refl e
  where
    by : (b : Bool) → is_known names name ≡ b → after ≡ cond b names (names ++ name ∷ []) → All IsName after × (length after ≤ MAX_SIGNALS)
    by true known same = (All-same IsName after names same labels, omega (arith, ap length same))
    by false new same =
        let count : length names ≤ signal_number names name = grind (arith, nat_tests) in
        (All-same IsName after (names ++ name ∷ []) same (All-push IsName names name labels label), omega (arith, ap length same, length-append names (name ∷ [])))

-- each of these slices is a label
pub label_at : (keys items : List (Bor (List ℕ))) (i : ℕ) (d : Bor (List ℕ)) → items ≡ keys → All IsName (texts keys) → i < length items → IsName (get_or items i d).now
label_at keys items i d same labels l =
    let count : length (texts keys) ≡ length keys = length-map keys (λ (slice : Bor (List ℕ)). slice.now) in
    let within : i < length keys = omega (arith, ap length same) in
    let at : get_or (texts keys) i d.now ≡ (get_or keys i d).now = get_or-map (λ (slice : Bor (List ℕ)). slice.now) keys i d d.now within in
    rw same (subst IsName at (labels i d.now (omega arith)))

-- a slice that stands at a place holds a name
pub named_at : (keys : List (Bor (List ℕ))) (i : ℕ) (key : Bor (List ℕ)) → Some key ≡ slice_get keys i → All IsName (texts keys) → IsName key.now
named_at keys i key at names =
    let inside : i < length keys = slice_get_within keys i key (sym at) in
    let is : Some (get_or keys i key) ≡ Some key = sym (slice_get-get_or keys i key inside) ∙ sym at in
    let same : get_or keys i key ≡ key = cc in
    subst (λ (k : Bor (List ℕ)). IsName k.now) same (label_at keys keys i key refl names inside)

-- a number without a place has a question mark for its name
pub unnamed_at : (keys : List (Bor (List ℕ))) (i : ℕ) → None ≡ slice_get keys i → codes "?" ≡ name_of (texts keys) i
unnamed_at [] zero at = refl
unnamed_at [] (suc i) at = refl
unnamed_at (key ∷ keys) zero at = cc
unnamed_at (key ∷ keys) (suc i) at = unnamed_at keys i at
