-- Names that grow keep their numbers.
use Rattle.std.proofs.Common.{◌≡◌, ℕ, suc, ◌<◌, ◌≤◌, Bool, true, false, cond, ltb, List, [], ◌∷◌, ◌++◌, length, map, Ok, Err, arith, refl, ap, ◌∙◌}
use Rattle.std.proofs.lemmas.Bool.{ltb-true}
use Rattle.std.proofs.lemmas.List.{length-append}
use Rattle.std.proofs.lemmas.Slice.Eq.{bytes_eq-Decides}
use Rattle.std.specs.Str.{bytes_eq}
use Rattle.pim_blif.specs.declared.fault.BlifFault.TheVariants as faults
use Rattle.pim_net.specs.declared.kind.Kind.TheVariants as kinds
use Rattle.pim_blif.specs.Signals.{signal_number, is_known, with_name, with_names}
use Rattle.pim_blif.specs.inner.Judging.{named}
use Rattle.pim_blif.proofs.Found.{number_within}

-- a name is among the names
abbrev pub IsNamed : List (List ℕ) → List ℕ → Type 0
IsNamed names name = signal_number names name < length names

-- each of these words is among the names
abbrev pub AreNamed : List (List ℕ) → List (List ℕ) → Type 0
AreNamed names [] = Unit {0}
AreNamed names (word ∷ words) = IsNamed names word × AreNamed names words

-- further names, where each name keeps its number
pub record Grows (names more : List (List ℕ)) : Type 0 where
  pub same : (name : List ℕ) → IsNamed names name → signal_number more name ≡ signal_number names name
  pub longer : length names ≤ length more

pub grows_not : (names : List (List ℕ)) → Grows names names
grows_not names = record { same = λ name h. refl; longer = omega arith }

pub still_named : (names more : List (List ℕ)) (name : List ℕ) → Grows names more → IsNamed names name → IsNamed more name
still_named names more name g h =
    let e = g.same name h in
    let l = g.longer in
    omega arith

pub grows_on : (names more most : List (List ℕ)) → Grows names more → Grows more most → Grows names most
grows_on names more most g h = record {
  same = λ name k. h.same name (still_named names more name g k) ∙ g.same name k;
  longer = (let a = g.longer in let b = h.longer in omega arith);
}

number_front : (names others : List (List ℕ)) (name : List ℕ) → IsNamed names name → signal_number (names ++ others) name ≡ signal_number names name
number_front [] others name h = absurd (omega arith)
number_front (known ∷ names) others name h = by (bytes_eq known name) (λ k. number_front names others name k) h
  where
    by : (t : Bool) → (IsNamed names name → signal_number (names ++ others) name ≡ signal_number names name) → cond {A = ℕ} t 0 (suc (signal_number names name)) < suc (length names) → cond {A = ℕ} t 0 (suc (signal_number (names ++ others) name)) ≡ cond {A = ℕ} t 0 (suc (signal_number names name))
    by true same h = refl
    by false same h = ap (λ n. suc n) (same (omega arith))

same_bytes : (name : List ℕ) → bytes_eq name name ≡ true
same_bytes name = (bytes_eq-Decides name name).1 refl

-- a name that is appended has the number that it would have
number_pushed : (names : List (List ℕ)) (name : List ℕ) → signal_number (names ++ name ∷ []) name ≡ signal_number names name
number_pushed [] name = ap (λ t. cond {A = ℕ} t 0 1) (same_bytes name)
number_pushed (known ∷ names) name = ap (λ n. cond {A = ℕ} (bytes_eq known name) 0 (suc n)) (number_pushed names name)

grows_push : (names : List (List ℕ)) (name : List ℕ) → Grows names (names ++ name ∷ [])
grows_push names name = record {
  same = λ other h. number_front names (name ∷ []) other h;
  longer = omega (arith, length-append names (name ∷ []));
}

pub grows_name : (names : List (List ℕ)) (name : List ℕ) → Grows names (with_name names name)
grows_name names name = by (is_known names name)
  where
    by : (t : Bool) → Grows names (cond t names (names ++ name ∷ []))
    by true = grows_not names
    by false = grows_push names name

-- the number of a name is the same before and after it is taken up
pub number_same : (names : List (List ℕ)) (name : List ℕ) → signal_number (with_name names name) name ≡ signal_number names name
number_same names name = by (is_known names name)
  where
    by : (t : Bool) → signal_number (cond t names (names ++ name ∷ [])) name ≡ signal_number names name
    by true = refl
    by false = number_pushed names name

pub is_named : (names : List (List ℕ)) (name : List ℕ) → IsNamed (with_name names name) name
is_named names name = by (is_known names name) refl
  where
    by : (t : Bool) → is_known names name ≡ t → IsNamed (cond t names (names ++ name ∷ [])) name
    by true e = ltb-true (signal_number names name) (length names) e
    by false e =
        let same = number_pushed names name in
        let size = length-append names (name ∷ []) in
        omega (arith, number_within names name)

pub grows_names : (names words : List (List ℕ)) → Grows names (with_names names words)
grows_names names [] = grows_not names
grows_names names (word ∷ words) = grows_on names (with_name names word) (with_names (with_name names word) words) (grows_name names word) (grows_names (with_name names word) words)

pub still_all : (names more words : List (List ℕ)) → Grows names more → AreNamed names words → AreNamed more words
still_all names more [] g h = tt
still_all names more (word ∷ words) g h = (still_named names more word g h.0, still_all names more words g h.1)

pub all_named : (names words : List (List ℕ)) → AreNamed (with_names names words) words
all_named names [] = tt
all_named names (word ∷ words) =
    (still_named (with_name names word) (with_names (with_name names word) words) word (grows_names (with_name names word) words) (is_named names word), all_named (with_name names word) words)

pub named_append : (names xs ys : List (List ℕ)) → AreNamed names xs → AreNamed names ys → AreNamed names (xs ++ ys)
named_append names [] ys h k = k
named_append names (x ∷ xs) ys h k = (h.0, named_append names xs ys h.1 k)

pub same_numbers : (names more words : List (List ℕ)) → Grows names more → AreNamed names words → map (signal_number more) words ≡ map (signal_number names) words
same_numbers names more [] g h = refl
same_numbers names more (word ∷ words) g h =
    let one = g.same word h.0 in
    let others = same_numbers names more words g h.1 in
    cc

-- the first of some words is numbered as it is once all of them are taken up
pub number_stays : (names words : List (List ℕ)) (word : List ℕ) → signal_number (with_names (with_name names word) words) word ≡ signal_number names word
number_stays names words word = (grows_names (with_name names word) words).same word (is_named names word) ∙ number_same names word

pub with_names-append : (names xs ys : List (List ℕ)) → with_names names (xs ++ ys) ≡ with_names (with_names names xs) ys
with_names-append names [] ys = refl
with_names-append names (x ∷ xs) ys = with_names-append (with_name names x) xs ys

-- names that were taken up without a fault
pub named_is : (names after : List (List ℕ)) (name : List ℕ) → named names name ≡ Ok after → after ≡ with_name names name
named_is names after name e = by (ltb 4096 (length name)) (is_known names name) _ e
  where
    room : (full : Bool) → cond full (Err (faults.TooLarge kinds.Signals)) (Ok (names ++ name ∷ [])) ≡ Ok after → after ≡ names ++ name ∷ []
    room true e = absurd cc
    room false e = cc

    by : (long known full : Bool) → cond long (Err (faults.TooLarge kinds.Name)) (cond known (Ok names) (cond full (Err (faults.TooLarge kinds.Signals)) (Ok (names ++ name ∷ [])))) ≡ Ok after → after ≡ cond known names (names ++ name ∷ [])
    by true known full e = absurd cc
    by false true full e = cc
    by false false full e = room full e
