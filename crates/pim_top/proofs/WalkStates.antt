-- How a walk over lines goes on, by what stands next.
use Rattle.std.proofs.Common.{◌≡◌, ◌≢◌, ℕ, zero, suc, ◌+◌, ◌<◌, ◌⊎◌, ◌&&◌, ◌||◌, Bool, true, false, cond, eqb, ltb, List, [], ◌∷◌, ◌++◌, length, drop, get_or, Option, Some, None, Result, Ok, Err, inl, inr, refl, sym, ap, ◌∙◌, subst, arith, append_assoc, append-nil}
use Rattle.std.specs.Borrow.{Bor}
use Rattle.std.specs.List.{list_all}
use Rattle.std.specs.Prelude.{All}
use Rattle.std.proofs.lemmas.Bool.Decides.{nat_tests}
use Rattle.std.proofs.lemmas.List.Elements.{All-head, All-tail}
use Rattle.pim_io.specs.Bits.{bits_of}
use Rattle.pim_io.specs.Outside.{Told}
use Rattle.pim_vectors.specs.Lines.{line_len, lines}
use Rattle.pim_vectors.specs.Next.{IsAfter, LinesView, next_of}
use Rattle.pim_vectors.specs.Tiles.{IsVector}
use Rattle.pim_vectors.specs.declared.fault.LinesFault.{LinesFault}
use Rattle.pim_vectors.specs.declared.fault.LinesFault.TheVariants as faults
use Rattle.pim_vectors.specs.declared.limits.TheConstants.{MAX_LINES}
use Rattle.pim_top.specs.Judged.{behind_lines, first_refusal, fitting, fitting_lines, input_refusal, is_vector, judged_lines}
use Rattle.pim_top.specs.declared.judgement.Judgement.TheVariants as judgement
use Rattle.pim_top.specs.declared.refusal.Origin.TheVariants as origin
use Rattle.pim_top.specs.declared.refusal.Refusal.{Refusal}
use Rattle.pim_top.specs.declared.refusal.Refusal.TheVariants as refusal
use Rattle.pim_top.specs.inner.Standing.{IsEnd, IsRefusedHere, IsWalk, Stops, TakesUp, lines_refusal}
use Rattle.pim_top.proofs.Told.{told-both, told-map}
use Rattle.pim_top.proofs.LineStates.{Says, halts-next, judged-front, line-more, line-next, long-next, many-next, none-next, over-next, rest-nil}

-- ---- what is judged of all bytes, by the lines that were handed out and those behind them
refusal-here : (width : ℕ) (bytes left front : List ℕ) (l : LinesView) (more : List (List ℕ)) → IsWalk width bytes left l front → judged_lines width bytes ≡ lines front ++ more → input_refusal width bytes ≡ first_refusal width l.given (behind_lines bytes) more
refusal-here width bytes left front l more h judged = ap (first_refusal width 0 (behind_lines bytes)) judged ∙ h.refusals (behind_lines bytes) more

fits-here : (width : ℕ) (bytes left front : List ℕ) (l : LinesView) (more : List (List ℕ)) → IsWalk width bytes left l front → judged_lines width bytes ≡ lines front ++ more → fitting_lines width bytes ≡ lines front ++ fitting width l.given more
fits-here width bytes left front l more h judged = ap (fitting width 0) judged ∙ h.fits more

-- the lines that were handed out are the first of those that fit
pub fits-front : (width : ℕ) (bytes left front : List ℕ) (l : LinesView) → IsWalk width bytes left l front → (more : List (List ℕ)) × (fitting_lines width bytes ≡ lines front ++ more)
fits-front width bytes left front l h =
    let w = judged-front width bytes left front l h.at in
    (fitting width l.given w.0, fits-here width bytes left front l w.0 h w.1)

-- ---- a line that is refused
-- the line that stands next is refused, where it is one too many or no vector
refused-line : (width : ℕ) (bytes left front : List ℕ) (l : LinesView) (text : List ℕ) (more : List (List ℕ)) (r : Refusal) → IsWalk width bytes left l front → judged_lines width bytes ≡ lines front ++ text ∷ more →
    first_refusal width l.given (behind_lines bytes) (text ∷ more) ≡ Some r → fitting width l.given (text ∷ more) ≡ [] → IsRefusedHere width bytes front r
refused-line width bytes left front l text more r h judged said none = record {
  refused = refusal-here width bytes left front l (text ∷ more) h judged ∙ said;
  fits = fits-here width bytes left front l (text ∷ more) h judged ∙ ap (λ (ls : List (List ℕ)). lines front ++ ls) none ∙ append-nil (lines front);
}

-- what is said of a line, by the two tests
refused-many : (width n : ℕ) (behind : Option Refusal) (text : List ℕ) (more : List (List ℕ)) → eqb n MAX_LINES ≡ true → (first_refusal width n behind (text ∷ more) ≡ Some (refusal.Judged judgement.TooManyLines)) × (fitting width n (text ∷ more) ≡ [])
refused-many width n behind text more e = (
  ap (λ (b : Bool). cond b (Some (refusal.Judged judgement.TooManyLines)) (cond (is_vector width text) (first_refusal width (n + 1) behind more) (Some (refusal.Judged (judgement.Vector (n + 1)))))) e,
  ap (λ (b : Bool). cond b [] (cond (is_vector width text) (text ∷ fitting width (n + 1) more) [])) e,
)

refused-vector : (width n : ℕ) (behind : Option Refusal) (text : List ℕ) (more : List (List ℕ)) → eqb n MAX_LINES ≡ false → is_vector width text ≡ false → (first_refusal width n behind (text ∷ more) ≡ Some (refusal.Judged (judgement.Vector (n + 1)))) × (fitting width n (text ∷ more) ≡ [])
refused-vector width n behind text more e f = (
  ap (λ (b : Bool). cond b (Some (refusal.Judged judgement.TooManyLines)) (cond (is_vector width text) (first_refusal width (n + 1) behind more) (Some (refusal.Judged (judgement.Vector (n + 1)))))) e
      ∙ ap (λ (b : Bool). cond b (first_refusal width (n + 1) behind more) (Some (refusal.Judged (judgement.Vector (n + 1))))) f,
  ap (λ (b : Bool). cond b [] (cond (is_vector width text) (text ∷ fitting width (n + 1) more) [])) e
      ∙ ap (λ (b : Bool). cond b (text ∷ fitting width (n + 1) more) []) f,
)

-- a vector is passed over
passed-vector : (width n : ℕ) (behind : Option Refusal) (text : List ℕ) (more : List (List ℕ)) → eqb n MAX_LINES ≡ false → is_vector width text ≡ true → (first_refusal width n behind (text ∷ more) ≡ first_refusal width (n + 1) behind more) × (fitting width n (text ∷ more) ≡ text ∷ fitting width (n + 1) more)
passed-vector width n behind text more e f = (
  ap (λ (b : Bool). cond b (Some (refusal.Judged judgement.TooManyLines)) (cond (is_vector width text) (first_refusal width (n + 1) behind more) (Some (refusal.Judged (judgement.Vector (n + 1)))))) e
      ∙ ap (λ (b : Bool). cond b (first_refusal width (n + 1) behind more) (Some (refusal.Judged (judgement.Vector (n + 1))))) f,
  ap (λ (b : Bool). cond b [] (cond (is_vector width text) (text ∷ fitting width (n + 1) more) [])) e
      ∙ ap (λ (b : Bool). cond b (text ∷ fitting width (n + 1) more) []) f,
)

long-line : (width : ℕ) (text : List ℕ) → ltb width (length text) ≡ true → is_vector width text ≡ false
long-line width text long =
    let other : eqb (length text) width ≡ false = grind (arith, nat_tests) in
    ap (λ (b : Bool). b && list_all (λ c. eqb c 48 || eqb c 49) text) other

-- ---- the answers of the walk over lines
many-lines : (width : ℕ) (bytes left front : List ℕ) (l : LinesView) → IsWalk width bytes left l front → Says l left (Err faults.TooMany) → IsRefusedHere width bytes front (refusal.Judged judgement.TooManyLines)
many-lines width bytes left front l h said =
    let n = many-next width bytes left front l h.at said in
    let w = refused-many width l.given (behind_lines bytes) n.0 n.2.more n.2.count in
    refused-line width bytes left front l n.0 n.2.more (refusal.Judged judgement.TooManyLines) h n.2.judged w.0 w.1

long-lines : (width : ℕ) (bytes left front : List ℕ) (l : LinesView) (k : ℕ) → IsWalk width bytes left l front → Says l left (Err (faults.Long k)) → IsRefusedHere width bytes front (refusal.Judged (judgement.Vector k))
long-lines width bytes left front l k h said =
    let n = long-next width bytes left front l k h.at said in
    let w = refused-vector width l.given (behind_lines bytes) n.0 n.2.more n.2.count (long-line width n.0 n.2.size) in
    refused-line width bytes left front l n.0 n.2.more (refusal.Judged (judgement.Vector k)) h n.2.judged (w.0 ∙ ap (λ (m : ℕ). Some (refusal.Judged (judgement.Vector m))) (sym n.1)) w.1

many-bytes : (width : ℕ) (bytes left front : List ℕ) (l : LinesView) → IsWalk width bytes left l front → Says l left (Err faults.TooLong) → IsRefusedHere width bytes front (refusal.TooLong origin.Input)
many-bytes width bytes left front l h said =
    let n = over-next width bytes left front l h.at said in
    let judged = n.0 ∙ sym (append-nil (lines front)) in
    record {
      refused = refusal-here width bytes left front l [] h judged ∙ n.1;
      fits = fits-here width bytes left front l [] h judged ∙ append-nil (lines front);
    }

no-vector : (width : ℕ) (bytes left front : List ℕ) (l : LinesView) (line : List ℕ) → IsWalk width bytes left l front → Says l left (Ok (Some line)) → is_vector width line ≡ false → IsRefusedHere width bytes front (refusal.Judged (judgement.Vector (l.given + 1)))
no-vector width bytes left front l line h said unfit =
    let n = line-next width bytes left front l line h.at said in
    let w = refused-vector width l.given (behind_lines bytes) line n.more n.count unfit in
    refused-line width bytes left front l line n.more (refusal.Judged (judgement.Vector (l.given + 1))) h n.judged w.0 w.1

no-line : (width : ℕ) (bytes left front : List ℕ) (l : LinesView) → IsWalk width bytes left l front → Says l left (Ok None) → (l.held ++ left ≡ []) × (input_refusal width bytes ≡ None) × (fitting_lines width bytes ≡ lines front)
no-line width bytes left front l h said =
    let n = none-next width bytes left front l h.at said in
    let judged = n.0 ∙ sym (append-nil (lines front)) in (
      n.2,
      refusal-here width bytes left front l [] h judged ∙ n.1,
      fits-here width bytes left front l [] h judged ∙ append-nil (lines front),
    )

-- ---- a line that fits
-- a walk after one vector more
walk-more : (width : ℕ) (bytes left rest front : List ℕ) (l new : LinesView) (line : List ℕ) → IsWalk width bytes left l front → Says l left (Ok (Some line)) → is_vector width line ≡ true → new.longest ≡ l.longest → new.given ≡ l.given + 1 →
    new.held ++ rest ≡ drop (line_len (l.held ++ left) + 1) (l.held ++ left) → new.place + length (new.held ++ rest) ≡ l.place + length (l.held ++ left) →
    (further : List ℕ) × IsWalk width bytes rest new further × (lines further ≡ lines front ++ line ∷ [])
walk-more width bytes left rest front l new line h said fits longest given behind place =
    let n = line-next width bytes left front l line h.at said in
    let w = line-more width bytes left rest front l new line h.at said longest given behind place in (
      w.0,
      record {
        at = w.1;
        refusals = λ behind more.
            ap (λ (ls : List (List ℕ)). first_refusal width 0 behind (ls ++ more)) w.2
            ∙ ap (first_refusal width 0 behind) (append_assoc (lines front) (line ∷ []) more)
            ∙ h.refusals behind (line ∷ more)
            ∙ (passed-vector width l.given behind line more n.count fits).0
            ∙ ap (λ (k : ℕ). first_refusal width k behind more) (sym given);
        fits = λ more.
            ap (λ (ls : List (List ℕ)). fitting width 0 (ls ++ more)) w.2
            ∙ ap (fitting width 0) (append_assoc (lines front) (line ∷ []) more)
            ∙ h.fits (line ∷ more)
            ∙ ap (λ (ls : List (List ℕ)). lines front ++ ls) (passed-vector width l.given None line more n.count fits).1
            ∙ sym (append_assoc (lines front) (line ∷ []) (fitting width (l.given + 1) more))
            ∙ ap (λ (ls : List (List ℕ)). ls ++ fitting width (l.given + 1) more) (sym w.2)
            ∙ ap (λ (k : ℕ). lines w.0 ++ fitting width k more) (sym given);
      },
      w.2,
    )

-- ---- the same where the source tells its bytes
-- a state after an answer, by what the answer is
pub after-same : (old : LinesView) (a b : Option (List ℕ)) (r s : Result (Option (Bor (List ℕ))) LinesFault) (new : LinesView) → r ≡ s → IsAfter old a b r new → IsAfter old a b s new
after-same old a b r s new e h = subst (λ (x : Result (Option (Bor (List ℕ))) LinesFault). IsAfter old a b x new) e h

pub took-told : (a b : Option (List ℕ)) (width : ℕ) (old new : LinesView) (line : Bor (List ℕ)) (rows packed : List (List Bool)) → IsAfter old a b (Ok (Some line)) new → Told a b (λ left rest. next_of old (old.held ++ left) ≡ Ok (Some line.now)) → is_vector width line.now ≡ true → packed ≡ rows ++ bits_of line.now ∷ [] →
    Told a b (λ left rest. (bytes front : List ℕ) → IsWalk width bytes left old front → TakesUp width bytes rest front rows new packed)
took-told a b width old new line rows packed after said fits pushed =
    told-both a b (λ left rest. next_of old (old.held ++ left) ≡ Ok (Some line.now))
    (λ left rest. (new.held ++ rest ≡ drop (line_len (old.held ++ left) + 1) (old.held ++ left)) × (new.place + length (new.held ++ rest) ≡ old.place + length (old.held ++ left)))
    (λ left rest. (bytes front : List ℕ) → IsWalk width bytes left old front → TakesUp width bytes rest front rows new packed)
    (λ left rest s r. λ bytes front h.
    let w = walk-more width bytes left rest front old new line.now h s fits after.longest after.given r.0 r.1 in
    record { line = line.now; further = w.0; walk = w.1; more = w.2; packed = pushed })
    said (told-both a b _ _ _ (λ left rest x y. (x, y)) after.rest after.place)

pub end-told : (a b : Option (List ℕ)) (width : ℕ) (old new : LinesView) (rows : List (List Bool)) → IsAfter old a b (Ok None) new → Told a b (λ left rest. next_of old (old.held ++ left) ≡ Ok None) →
    Told a b (λ left rest. (bytes front : List ℕ) → IsWalk width bytes left old front → IsEnd width bytes rest front × (rows ≡ rows))
end-told a b width old new rows after said =
    told-both a b (λ left rest. next_of old (old.held ++ left) ≡ Ok None) (λ left rest. new.held ++ rest ≡ old.held ++ left)
    (λ left rest. (bytes front : List ℕ) → IsWalk width bytes left old front → IsEnd width bytes rest front × (rows ≡ rows))
    (λ left rest s r. λ bytes front h.
    let w = no-line width bytes left front old h s in
    (record { all = rest-nil new.held rest (r ∙ w.0); fine = w.1; fits = w.2 }, refl))
    said after.rest

pub unfit-told : (a b : Option (List ℕ)) (width : ℕ) (old : LinesView) (line : List ℕ) (n : ℕ) → Told a b (λ left rest. next_of old (old.held ++ left) ≡ Ok (Some line)) → is_vector width line ≡ false → n ≡ old.given + 1 →
    Told a b (λ left rest. (bytes front : List ℕ) → IsWalk width bytes left old front → IsRefusedHere width bytes front (refusal.Judged (judgement.Vector n)))
unfit-told a b width old line n said unfit number =
    told-map a b (λ left rest. next_of old (old.held ++ left) ≡ Ok (Some line)) (λ left rest. (bytes front : List ℕ) → IsWalk width bytes left old front → IsRefusedHere width bytes front (refusal.Judged (judgement.Vector n)))
    (λ left rest s. λ bytes front h. subst (λ (k : ℕ). IsRefusedHere width bytes front (refusal.Judged (judgement.Vector k))) (sym number) (no-vector width bytes left front old line h s unfit))
    said

-- why there is no line, where the source failed or a limit is passed
pub failed-told : (a b : Option (List ℕ)) (width : ℕ) (old new : LinesView) (fault : LinesFault) → IsAfter old a b (Err fault) new → (fault ≢ faults.Fault → Told a b (λ left rest. next_of old (old.held ++ left) ≡ Err fault)) →
    Told a b (λ left rest. (bytes front : List ℕ) → IsWalk width bytes left old front → Stops width bytes rest front (lines_refusal fault))
failed-told a b width old new faults.Fault after said =
    told-both a b (λ left rest. new.held ++ rest ≡ old.held ++ left) (λ left rest. new.place + length (new.held ++ rest) ≡ old.place + length (old.held ++ left)) _
    (λ left rest kept place. λ bytes front h.
    let w = after.waits refl in
    halts-next width bytes left rest front old new h.at kept place w.none (omega (arith, w.short, after.longest, h.at.same)) w.within)
    after.rest after.place
failed-told a b width old new (faults.Long n) after said =
    told-map a b (λ left rest. next_of old (old.held ++ left) ≡ Err (faults.Long n)) _
    (λ left rest s. λ bytes front h. long-lines width bytes left front old n h s)
    (said (λ same. cc))
failed-told a b width old new faults.TooMany after said =
    told-map a b (λ left rest. next_of old (old.held ++ left) ≡ Err faults.TooMany) _
    (λ left rest s. λ bytes front h. many-lines width bytes left front old h s)
    (said (λ same. cc))
failed-told a b width old new faults.TooLong after said =
    told-map a b (λ left rest. next_of old (old.held ++ left) ≡ Err faults.TooLong) _
    (λ left rest s. λ bytes front h. many-bytes width bytes left front old h s)
    (said (λ same. cc))

-- ---- whether a line is a vector
abbrev digit : ℕ → Type 0
digit b = (b ≡ 48) ⊎ (b ≡ 49)

digits-all : (line : List ℕ) → All digit line → list_all (λ b. eqb b 48 || eqb b 49) line ≡ true
digits-all [] h = refl
digits-all (b ∷ line) h =
    let first : (eqb b 48 || eqb b 49) ≡ true = elim (All-head digit b line h) [ inl e ↦ grind (arith, nat_tests) | inr e ↦ grind (arith, nat_tests) ] in
    rw first (digits-all line (All-tail digit b line h))

both-true : (a b : Bool) → (a && b) ≡ true → (a ≡ true) × (b ≡ true)
both-true true true h = (refl, refl)
both-true true false h = cc
both-true false b h = cc

all-digits : (line : List ℕ) → list_all (λ b. eqb b 48 || eqb b 49) line ≡ true → (k d : ℕ) → k < length line → digit (get_or line k d)
all-digits [] h k d within = absurd (omega arith)
all-digits (b ∷ line) h zero d within =
    let w = both-true (eqb b 48 || eqb b 49) (list_all (λ c. eqb c 48 || eqb c 49) line) h in
    by (eqb b 48) (eqb b 49) refl refl w.0
  where
    by : (x y : Bool) → eqb b 48 ≡ x → eqb b 49 ≡ y → (x || y) ≡ true → digit b
    by true y e f t = inl (grind (arith, nat_tests))
    by false true e f t = inr (grind (arith, nat_tests))
    by false false e f t = cc
all-digits (b ∷ line) h (suc k) d within =
    all-digits line (both-true (eqb b 48 || eqb b 49) (list_all (λ c. eqb c 48 || eqb c 49) line) h).1 k d (omega arith)

pub vector-yes : (width : ℕ) (line : List ℕ) → IsVector width line → is_vector width line ≡ true
vector-yes width line h =
    let same : eqb (length line) width ≡ true = (let e = h.0 in grind (arith, nat_tests)) in
    rw same (digits-all line h.1)

pub vector-no : (width : ℕ) (line : List ℕ) → (IsVector width line → ⊥) → is_vector width line ≡ false
vector-no width line refuse = by (is_vector width line) refl
  where
    by : (b : Bool) → is_vector width line ≡ b → b ≡ false
    by false e = refl
    by true e =
        let w = both-true (eqb (length line) width) (list_all (λ b. eqb b 48 || eqb b 49) line) e in
        let same : length line ≡ width = (let f = w.0 in grind (arith, nat_tests)) in
        absurd (refuse (same, all-digits line w.1))
