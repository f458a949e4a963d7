-- What each item that is read says of the bytes, and what its spelling is read as.
use Rattle.std.proofs.Common.{◌≡◌, ℕ, zero, suc, ◌+◌, ◌^◌, ◌<◌, ◌≤◌, Bool, true, false, cond, List, [], ◌∷◌, ◌++◌, length, Some, None, Result, Ok, Err, refl, ap, sym, ◌∙◌, append_assoc, subst, arith, take, drop, nat_le}
use Rattle.std.specs.List.{AllByRecursion}
use Rattle.std.specs.Str.{bytes_eq}
use Rattle.std.proofs.lemmas.Bool.Decides.{nat_tests}
use Rattle.std.proofs.lemmas.Bool.{and_parts, leb-true}
use Rattle.std.proofs.lemmas.List.{take_at, drop_at, take-append-drop}
use Rattle.std.proofs.lemmas.Slice.Eq.{bytes_eq-Decides}
use Rattle.std.proofs.lemmas.List.Elements.{All-from_recursion, recursion_from_All}
use Rattle.pim_io.specs.declared.codes.Code.{Code}
use Rattle.pim_io.specs.declared.codes.Code.TheVariants.{Got, Long, Short}
use Rattle.pim_io.specs.declared.limits.TheConstants.{MAX_NAME}
use Rattle.pim_io.specs.Codes.{code_of, code_at}
use Rattle.pim_io.specs.Names.{IsShown, IsLabel, is_shown}
use Rattle.pim_io.specs.Readings.{◌>>=◌}
use Rattle.pim_file.specs.declared.fault.FileFault.{FileFault}
use Rattle.pim_file.specs.Items.{Cursor, further, wrong_before, allowed, byte_from, byte_at, shown_at, number_of_code, number_at, is_label_length, length_at, many, counted}
use Rattle.pim_file.specs.Binary.{each_bin, counted_bin}
use Rattle.pim_file.proofs.CodeLemmas.{code_is_read, code_is_small}

-- what stands before a reading that ended well
pub bind_ok : {A B : Type 0} (x : Result A FileFault) (f : A → Result B FileFault) (y : B) → (x >>= f) ≡ Ok y → (a : A) × (x ≡ Ok a) × (f a ≡ Ok y)
bind_ok (Ok a) f y e = (a, refl, e)
bind_ok (Err fault) f y e = absurd cc

pub ok_is : {A : Type 0} (x y : A) → (let r : Result A FileFault = Ok x in r) ≡ Ok y → x ≡ y
ok_is x y e = cc

-- what is read stands there in its spelling, and has one
abbrev pub IsSpelled : {X : Type 0} → (Cursor → Result (X × Cursor) FileFault) → (X → List ℕ) → (X → Type 0) → Type 0
IsSpelled {X} item bin P = (c : Cursor) (x : X) (d : Cursor) → item c ≡ Ok (x, d) → (c.rest ≡ bin x ++ d.rest) × P x

-- what has a spelling is read from it, whatever follows
abbrev pub IsRead : {X : Type 0} → (Cursor → Result (X × Cursor) FileFault) → (X → List ℕ) → (X → Type 0) → Type 0
IsRead {X} item bin P = (place : ℕ) (x : X) (rest : List ℕ) → P x → (end : ℕ) × (item (record { place = place; rest = bin x ++ rest }) ≡ Ok (x, record { place = end; rest = rest }))

-- bytes

pub byte_is : (place : ℕ) (rest : List ℕ) (b : ℕ) (d : Cursor) → byte_from place rest ≡ Ok (b, d) → rest ≡ b ∷ d.rest
byte_is place [] b d e = absurd cc
byte_is place (x ∷ rest) b d e =
    let same = ok_is (x, record { place = place + 1; rest = rest }) (b, d) e in
    ap (λ (y : ℕ × Cursor). y.0 ∷ y.1.rest) same

pub allowed_is : {X : Type 0} (t : Bool) (x : X) (c : Cursor) (y : X) (d : Cursor) → allowed (cond t (Some x) None) c ≡ Ok (y, d) → (t ≡ true) × (x ≡ y) × (c ≡ d)
allowed_is {X = X} true x c y d e =
    let same = ok_is (x, c) (y, d) e in
    (refl, ap (λ (z : X × Cursor). z.0) same, ap (λ (z : X × Cursor). z.1) same)
allowed_is false x c y d e = absurd cc

pub shown_is : (c : Cursor) (b : ℕ) (d : Cursor) → shown_at c ≡ Ok (b, d) → (c.rest ≡ b ∷ d.rest) × (is_shown b ≡ true)
unfolding shown_at
shown_is c b d e =
    let read = bind_ok (byte_at c) (λ x. allowed (cond (is_shown x.0) (Some x.0) None) x.1) (b, d) e in
    let ok = allowed_is (is_shown read.0.0) read.0.0 read.0.1 b d read.2 in
    let is = byte_is c.place c.rest read.0.0 read.0.1 read.1 in
    (is ∙ ap (λ (x : ℕ). x ∷ read.0.1.rest) ok.1 ∙ ap (λ (x : Cursor). b ∷ x.rest) ok.2, sym (ap is_shown ok.1) ∙ ok.0)

shown_spelled : IsSpelled shown_at (λ b. b ∷ []) IsShown
shown_spelled c b d e =
    let is = shown_is c b d e in
    let shown : is_shown b ≡ true = is.1 in
    (is.0, grind (arith, nat_tests))

shown_read : IsRead shown_at (λ b. b ∷ []) IsShown
unfolding shown_at
shown_read place b rest h =
    let shown : is_shown b ≡ true = grind (arith, nat_tests) in
    (place + 1, rw shown refl)

-- numbers

pub number_is : (c : Cursor) (code : Code) (v : ℕ) (d : Cursor) → code_at c.rest 0 ≡ code → number_of_code c code ≡ Ok (v, d) → (c.rest ≡ code_of v ++ d.rest) × (v < 2 ^ 32)
number_is c Long v d e h = absurd cc
number_is c Short v d e h = absurd cc
number_is c (Got value next) v d e h = by_test (bytes_eq (take next c.rest) (code_of value)) refl h
  where
    by_test : (t : Bool) → bytes_eq (take next c.rest) (code_of value) ≡ t → cond {A = Result (ℕ × Cursor) FileFault} t (Ok (value, further next c)) (Err (wrong_before (further next c))) ≡ Ok (v, d) → (c.rest ≡ code_of v ++ d.rest) × (v < 2 ^ 32)
    by_test false is h = absurd cc
    by_test true is h =
        let same = ok_is (value, further next c) (v, d) h in
        let own : take next c.rest ≡ code_of value = (bytes_eq-Decides (take next c.rest) (code_of value)).0 is in
        let whole : c.rest ≡ take next c.rest ++ drop next c.rest = sym (take-append-drop next c.rest) in
        (whole ∙ ap (λ (front : List ℕ). front ++ drop next c.rest) own ∙ ap (λ (z : ℕ × Cursor). code_of z.0 ++ z.1.rest) same, subst (λ (z : ℕ × Cursor). z.0 < 2 ^ 32) same (code_is_small c.rest value next e))

pub number_spelled : IsSpelled number_at code_of (λ n. n < 2 ^ 32)
unfolding number_at
number_spelled c v d e = number_is c (code_at c.rest 0) v d refl e

pub number_read : IsRead number_at code_of (λ n. n < 2 ^ 32)
unfolding number_at
number_read place v rest h =
    let code = code_of v in
    let read = code_is_read v rest h in
    let front : take (length code) (code ++ rest) ≡ code = take_at code rest (length code) refl in
    let back : drop (length code) (code ++ rest) ≡ rest = drop_at code rest (length code) refl in
    let own : bytes_eq code code ≡ true = (bytes_eq-Decides code code).1 refl in
    (place + length code, rw (read, front, own, back) refl)

-- as many things as are told

pub many_spelled : {X : Type 0} (item : Cursor → Result (X × Cursor) FileFault) (bin : X → List ℕ) (P : X → Type 0) → IsSpelled item bin P → (n : ℕ) (c : Cursor) (xs : List X) (d : Cursor) → many item n c ≡ Ok (xs, d) → (c.rest ≡ each_bin bin xs ++ d.rest) × (length xs ≡ n) × AllByRecursion P xs
unfolding many
many_spelled {X} item bin P spelled zero c xs d e = subst (λ (z : List X × Cursor). (c.rest ≡ each_bin bin z.0 ++ z.1.rest) × (length z.0 ≡ 0) × AllByRecursion P z.0) (ok_is ([], c) (xs, d) e) (refl, refl, tt)
many_spelled {X} item bin P spelled (suc n) c xs d e =
    let first = bind_ok (item c) (λ first. many item n first.1 >>= λ others. Ok (first.0 ∷ others.0, others.1)) (xs, d) e in
    let others = bind_ok (many item n first.0.1) (λ others. Ok (first.0.0 ∷ others.0, others.1)) (xs, d) first.2 in
    let one = spelled c first.0.0 first.0.1 first.1 in
    let more = many_spelled item bin P spelled n first.0.1 others.0.0 others.0.1 others.1 in
    let whole : c.rest ≡ (bin first.0.0 ++ each_bin bin others.0.0) ++ others.0.1.rest = one.0 ∙ ap (λ (rest : List ℕ). bin first.0.0 ++ rest) more.0 ∙ sym (append_assoc (bin first.0.0) (each_bin bin others.0.0) others.0.1.rest) in
    let count : length (first.0.0 ∷ others.0.0) ≡ suc n = ap suc more.1 in
    subst (λ (z : List X × Cursor). (c.rest ≡ each_bin bin z.0 ++ z.1.rest) × (length z.0 ≡ suc n) × AllByRecursion P z.0) (ok_is (first.0.0 ∷ others.0.0, others.0.1) (xs, d) others.2) (whole, count, (one.1, more.2))

pub many_read : {X : Type 0} (item : Cursor → Result (X × Cursor) FileFault) (bin : X → List ℕ) (P : X → Type 0) → IsRead item bin P → (place : ℕ) (xs : List X) (rest : List ℕ) → AllByRecursion P xs → (end : ℕ) × (many item (length xs) (record { place = place; rest = each_bin bin xs ++ rest }) ≡ Ok (xs, record { place = end; rest = rest }))
unfolding many
many_read item bin P read place [] rest h = (place, refl)
many_read item bin P read place (x ∷ xs) rest h =
    let first = read place x (each_bin bin xs ++ rest) h.0 in
    let others = many_read item bin P read first.0 xs rest h.1 in
    (others.0, rw (append_assoc (bin x) (each_bin bin xs) rest, first.1, others.1) refl)

pub counted_spelled : {X : Type 0} (item : Cursor → Result (X × Cursor) FileFault) (bin : X → List ℕ) (P : X → Type 0) → IsSpelled item bin P → IsSpelled (counted item) (counted_bin bin) (λ xs. (length xs < 2 ^ 32) × AllByRecursion P xs)
unfolding counted
counted_spelled item bin P spelled c xs d e =
    let count = bind_ok (number_at c) (λ n. many item n.0 n.1) (xs, d) e in
    let told = number_spelled c count.0.0 count.0.1 count.1 in
    let things = many_spelled item bin P spelled count.0.0 count.0.1 xs d count.2 in
    let whole : c.rest ≡ counted_bin bin xs ++ d.rest = told.0 ∙ ap (λ (rest : List ℕ). code_of count.0.0 ++ rest) things.0 ∙ ap (λ (n : ℕ). code_of n ++ (each_bin bin xs ++ d.rest)) (sym things.1) ∙ sym (append_assoc (code_of (length xs)) (each_bin bin xs) d.rest) in
    (whole, (subst (λ (n : ℕ). n < 2 ^ 32) (sym things.1) told.1, things.2))

pub counted_read : {X : Type 0} (item : Cursor → Result (X × Cursor) FileFault) (bin : X → List ℕ) (P : X → Type 0) → IsRead item bin P → IsRead (counted item) (counted_bin bin) (λ xs. (length xs < 2 ^ 32) × AllByRecursion P xs)
unfolding counted
counted_read item bin P read place xs rest h =
    let count = number_read place (length xs) (each_bin bin xs ++ rest) h.0 in
    let things = many_read item bin P read count.0 xs rest h.1 in
    (things.0, rw (append_assoc (code_of (length xs)) (each_bin bin xs) rest, count.1, things.1) refl)

-- the bytes of a label

each_byte : (label : List ℕ) → each_bin (λ b. b ∷ []) label ≡ label
each_byte [] = refl
each_byte (b ∷ label) = ap (λ (rest : List ℕ). b ∷ rest) (each_byte label)

pub label_spelled : (n : ℕ) (c : Cursor) (label : List ℕ) (d : Cursor) → is_label_length n ≡ true → many shown_at n c ≡ Ok (label, d) → (c.rest ≡ label ++ d.rest) × (length label ≡ n) × IsLabel label
label_spelled n c label d h e =
    let things = many_spelled shown_at (λ b. b ∷ []) IsShown shown_spelled n c label d e in
    let count = things.1 in
    let sides = and_parts (nat_le 1 n) (nat_le n MAX_NAME) h in
    let some : 1 ≤ n = leb-true _ _ sides.0 in
    let short : n ≤ MAX_NAME = leb-true _ _ sides.1 in
    (things.0 ∙ ap (λ (t : List ℕ). t ++ d.rest) (each_byte label), count, record { some = omega arith; short = omega arith; shown = All-from_recursion IsShown label things.2 })

pub label_read : (place : ℕ) (label rest : List ℕ) → IsLabel label → (end : ℕ) × (many shown_at (length label) (record { place = place; rest = label ++ rest }) ≡ Ok (label, record { place = end; rest = rest }))
label_read place label rest h =
    let things = many_read shown_at (λ b. b ∷ []) IsShown shown_read place label rest (recursion_from_All IsShown label h.shown) in
    (things.0, rw (each_byte label) at things.1)

pub is_length : (label : List ℕ) → IsLabel label → is_label_length (length label) ≡ true
is_length label h =
    let some = h.some in
    let short = h.short in
    grind (arith, nat_tests)

pub length_spelled : (c : Cursor) (n : ℕ) (d : Cursor) → length_at c ≡ Ok (n, d) → (c.rest ≡ code_of n ++ d.rest) × (is_label_length n ≡ true)
unfolding length_at
length_spelled c n d e =
    let number = bind_ok (number_at c) (λ m. allowed (cond (is_label_length m.0) (Some m.0) None) m.1) (n, d) e in
    let told = number_spelled c number.0.0 number.0.1 number.1 in
    let ok = allowed_is (is_label_length number.0.0) number.0.0 number.0.1 n d number.2 in
    (told.0 ∙ ap (λ (m : ℕ). code_of m ++ number.0.1.rest) ok.1 ∙ ap (λ (x : Cursor). code_of n ++ x.rest) ok.2, sym (ap is_label_length ok.1) ∙ ok.0)

pub length_read : IsRead length_at code_of (λ n. (n < 2 ^ 32) × (is_label_length n ≡ true))
unfolding length_at
length_read place n rest h =
    let number = number_read place n rest h.0 in
    let fits = h.1 in
    (number.0, rw (number.1, fits) refl)
