-- What stands next of the lines of an input, whatever is made of them.
use Rattle.std.proofs.Common.{◌≡◌, ℕ, ◌+◌, ◌-◌, ◌<◌, ◌≤◌, ◌⊎◌, Bool, true, false, cond, eqb, leb, ltb, List, [], ◌∷◌, ◌++◌, length, take, drop, Option, Some, None, Result, Ok, Err, inl, inr, refl, sym, ap, ◌∙◌, subst, arith, append_assoc, append-nil, length-append}
use Rattle.std.proofs.Math.Seq.{take-append-add}
use Rattle.std.proofs.lemmas.Bool.{le-leb}
use Rattle.std.proofs.lemmas.Bool.Decides.{nat_tests}
use Rattle.std.proofs.lemmas.List.{take-append-drop, take_all}
use Rattle.pim_vectors.specs.Lines.{line_len, lines}
use Rattle.pim_vectors.specs.Next.{LinesView, next_of}
use Rattle.pim_vectors.specs.declared.fault.LinesFault.{LinesFault}
use Rattle.pim_vectors.specs.declared.fault.LinesFault.TheVariants as faults
use Rattle.pim_vectors.specs.declared.limits.TheConstants.{MAX_LINES}
use Rattle.pim_io.specs.declared.limits.TheConstants.{MAX_INPUT}
use Rattle.pim_top.specs.Judged.{Halts, behind_lines, judged_lines, judged_within, last_piece, settled}
use Rattle.pim_top.specs.declared.refusal.Origin.TheVariants as origin
use Rattle.pim_top.specs.declared.refusal.Refusal.TheVariants as refusal
use Rattle.pim_top.specs.inner.Standing.{IsAtLine}
use Rattle.pim_top.proofs.JudgedLines.{lines-append, piece-append, settled-append}
use Rattle.pim_top.proofs.NextLine.{FindsLine, IsLine, finds-next, room}

-- the bytes from the next line on
abbrev pub rest_of : LinesView → List ℕ → List ℕ
rest_of l left = l.held ++ left

-- the lines that are judged are those that were handed out and those from the next one on
judged-split : (longest : ℕ) (bytes left front : List ℕ) (l : LinesView) → IsAtLine longest bytes left l front →
    judged_lines longest bytes ≡ lines front ++ judged_within (room l) l.longest (rest_of l left)
judged-split longest bytes left front l h =
    let limit : room l ≡ MAX_INPUT - length front = ap (λ (n : ℕ). MAX_INPUT - n) h.place in
    ap (judged_lines longest) h.cut ∙ split longest front (rest_of l left) h.within h.whole
    ∙ ap (λ (n : ℕ). lines front ++ judged_within n longest (rest_of l left)) (sym limit)
    ∙ ap (λ (n : ℕ). lines front ++ judged_within (room l) n (rest_of l left)) (sym h.same)
  where
    inside : (longest : ℕ) (front more : List ℕ) → length front ≤ MAX_INPUT → last_piece front ≡ [] → judged_lines longest (front ++ more) ≡ lines front ++ judged_within (MAX_INPUT - length front) longest more
    inside longest front more within edge =
        let n = MAX_INPUT - length front in
        let same : leb (length (front ++ more)) MAX_INPUT ≡ leb (length more) n = (let s = length-append front more in grind (arith, nat_tests)) in
        let whole : lines (front ++ more) ≡ lines front ++ lines more = lines-append [] front more edge in
        let cut : take MAX_INPUT (front ++ more) ≡ front ++ take n more =
        ap (λ (k : ℕ). take k (front ++ more)) (let z : MAX_INPUT ≡ length front + n = omega arith in z) ∙ take-append-add front more n in
        let part : lines (settled longest (take MAX_INPUT (front ++ more))) ≡ lines front ++ lines (settled longest (take n more)) =
        ap (λ (p : List ℕ). lines (settled longest p)) cut ∙ ap lines (settled-append longest front (take n more) edge) ∙ lines-append [] front (settled longest (take n more)) edge in
        ap (λ (b : Bool). cond b (lines (front ++ more)) (lines (settled longest (take MAX_INPUT (front ++ more))))) same
        ∙ (elim (leb (length more) n) as (λ v. cond v (lines (front ++ more)) (lines (settled longest (take MAX_INPUT (front ++ more)))) ≡ lines front ++ cond v (lines more) (lines (settled longest (take n more)))) [
          | true ↦ whole
          | false ↦ part
        ])

    split : (longest : ℕ) (front more : List ℕ) → length front ≤ MAX_INPUT → ((last_piece front ≡ []) ⊎ (more ≡ [])) → judged_lines longest (front ++ more) ≡ lines front ++ judged_within (MAX_INPUT - length front) longest more
    split longest front more within (inl edge) = inside longest front more within edge
    split longest front more within (inr none) =
        let all : front ++ more ≡ front = ap (λ (m : List ℕ). front ++ m) none ∙ append-nil front in
        let left : judged_within (MAX_INPUT - length front) longest more ≡ [] =
        ap (judged_within (MAX_INPUT - length front) longest) none ∙ ap (λ (b : Bool). cond b [] (lines (settled longest (take (MAX_INPUT - length front) [])))) (le-leb 0 (MAX_INPUT - length front) (omega arith)) in
        ap (judged_lines longest) all
        ∙ ap (λ (b : Bool). cond b (lines front) (lines (settled longest (take MAX_INPUT front)))) (le-leb (length front) MAX_INPUT within)
        ∙ sym (append-nil (lines front)) ∙ ap (λ (ls : List (List ℕ)). lines front ++ ls) (sym left)

-- the lines that were handed out are the first of those that are judged
pub judged-front : (longest : ℕ) (bytes left front : List ℕ) (l : LinesView) → IsAtLine longest bytes left l front →
    (more : List (List ℕ)) × (judged_lines longest bytes ≡ lines front ++ more)
judged-front longest bytes left front l h = (judged_within (room l) l.longest (rest_of l left), judged-split longest bytes left front l h)

-- ---- what the answer for a line tells of the tests
abbrev answered : Bool → Bool → ℕ → List ℕ → Result (Option (List ℕ)) LinesFault
answered a b n text = cond a (Err faults.TooMany) (cond b (Err (faults.Long n)) (Ok (Some text)))

answered-ok : (a b : Bool) (n : ℕ) (text line : List ℕ) → answered a b n text ≡ Ok (Some line) → (a ≡ false) × (b ≡ false) × (text ≡ line)
answered-ok true b n text line h = cc
answered-ok false true n text line h = cc
answered-ok false false n text line h = (refl, refl, cc)

answered-long : (a b : Bool) (n k : ℕ) (text : List ℕ) → answered a b n text ≡ Err (faults.Long k) → (a ≡ false) × (b ≡ true) × (n ≡ k)
answered-long true b n k text h = cc
answered-long false true n k text h = (refl, refl, cc)
answered-long false false n k text h = cc

answered-many : (a b : Bool) (n : ℕ) (text : List ℕ) → answered a b n text ≡ Err faults.TooMany → a ≡ true
answered-many true b n text h = refl
answered-many false true n text h = cc
answered-many false false n text h = cc

answered-over : (a b : Bool) (n : ℕ) (text : List ℕ) → answered a b n text ≡ Err faults.TooLong → ⊥
answered-over true b n text h = cc
answered-over false true n text h = cc
answered-over false false n text h = cc

answered-none : (a b : Bool) (n : ℕ) (text : List ℕ) → answered a b n text ≡ Ok None → ⊥
answered-none true b n text h = cc
answered-none false true n text h = cc
answered-none false false n text h = cc

-- ---- the line that stands next, by the answer
abbrev pub Says : LinesView → List ℕ → Result (Option (List ℕ)) LinesFault → Type 0
Says l left answer = next_of l (rest_of l left) ≡ answer

-- a line stands next: whether it is one too many, and whether it is too long
pub record StandsNext (longest : ℕ) (bytes front : List ℕ) (given : ℕ) (many long : Bool) (text : List ℕ) : Type 0 where
  pub more : List (List ℕ)
  pub judged : judged_lines longest bytes ≡ lines front ++ text ∷ more
  pub count : eqb given MAX_LINES ≡ many
  pub size : ltb longest (length text) ≡ long

pub many-next : (longest : ℕ) (bytes left front : List ℕ) (l : LinesView) → IsAtLine longest bytes left l front → Says l left (Err faults.TooMany) →
    (text : List ℕ) × (long : Bool) × StandsNext longest bytes front l.given true long text
many-next longest bytes left front l h said = elim (finds-next l (rest_of l left)) [
  | inl f ↦ (
    f.text,
    ltb longest (length f.text),
    record {
      more = f.more;
      judged = judged-split longest bytes left front l h ∙ ap (λ (ls : List (List ℕ)). lines front ++ ls) f.judged;
      count = answered-many (eqb l.given MAX_LINES) (ltb l.longest (length f.text)) (l.given + 1) f.text (sym f.answer ∙ said);
      size = refl;
    },
  )
  | inr (inl f) ↦ absurd (let a = f.answer in let z : ⊥ = cc in z)
  | inr (inr f) ↦ absurd (let a = f.answer in let z : ⊥ = cc in z)
]

pub long-next : (longest : ℕ) (bytes left front : List ℕ) (l : LinesView) (k : ℕ) → IsAtLine longest bytes left l front → Says l left (Err (faults.Long k)) →
    (text : List ℕ) × (k ≡ l.given + 1) × StandsNext longest bytes front l.given false true text
long-next longest bytes left front l k h said = elim (finds-next l (rest_of l left)) [
  | inl f ↦
      let t = answered-long (eqb l.given MAX_LINES) (ltb l.longest (length f.text)) (l.given + 1) k f.text (sym f.answer ∙ said) in (
        f.text,
        sym t.2,
        record {
          more = f.more;
          judged = judged-split longest bytes left front l h ∙ ap (λ (ls : List (List ℕ)). lines front ++ ls) f.judged;
          count = t.0;
          size = ap (λ (n : ℕ). ltb n (length f.text)) (sym h.same) ∙ t.1;
        },
      )
  | inr (inl f) ↦ absurd (let a = f.answer in let z : ⊥ = cc in z)
  | inr (inr f) ↦ absurd (let a = f.answer in let z : ⊥ = cc in z)
]

pub line-next : (longest : ℕ) (bytes left front : List ℕ) (l : LinesView) (line : List ℕ) → IsAtLine longest bytes left l front → Says l left (Ok (Some line)) →
    StandsNext longest bytes front l.given false false line
line-next longest bytes left front l line h said = elim (finds-next l (rest_of l left)) [
  | inl f ↦
      let t = answered-ok (eqb l.given MAX_LINES) (ltb l.longest (length f.text)) (l.given + 1) f.text line (sym f.answer ∙ said) in
      subst (StandsNext longest bytes front l.given false false) t.2 (record {
        more = f.more;
        judged = judged-split longest bytes left front l h ∙ ap (λ (ls : List (List ℕ)). lines front ++ ls) f.judged;
        count = t.0;
        size = ap (λ (n : ℕ). ltb n (length f.text)) (sym h.same) ∙ t.1;
      })
  | inr (inl f) ↦ absurd (let a = f.answer in let z : ⊥ = cc in z)
  | inr (inr f) ↦ absurd (let a = f.answer in let z : ⊥ = cc in z)
]

pub over-next : (longest : ℕ) (bytes left front : List ℕ) (l : LinesView) → IsAtLine longest bytes left l front → Says l left (Err faults.TooLong) →
    (judged_lines longest bytes ≡ lines front) × (behind_lines bytes ≡ Some (refusal.TooLong origin.Input))
over-next longest bytes left front l h said = elim (finds-next l (rest_of l left)) [
  | inl f ↦ absurd (answered-over (eqb l.given MAX_LINES) (ltb l.longest (length f.text)) (l.given + 1) f.text (sym f.answer ∙ said))
  | inr (inl f) ↦
      let size : MAX_INPUT < length bytes = omega (arith, ap length h.cut, length-append front (rest_of l left), f.over, h.place, h.within) in
      let no : leb (length bytes) MAX_INPUT ≡ false = grind (arith, nat_tests) in (
        judged-split longest bytes left front l h ∙ ap (λ (ls : List (List ℕ)). lines front ++ ls) f.judged ∙ append-nil (lines front),
        ap (λ (b : Bool). cond b None (Some (refusal.TooLong origin.Input))) no,
      )
  | inr (inr f) ↦ absurd (let a = f.answer in let z : ⊥ = cc in z)
]

-- what is left of nothing is nothing
pub rest-nil : (held rest : List ℕ) → held ++ rest ≡ [] → rest ≡ []
rest-nil [] rest e = e
rest-nil (b ∷ held) rest e = cc

pub none-next : (longest : ℕ) (bytes left front : List ℕ) (l : LinesView) → IsAtLine longest bytes left l front → Says l left (Ok None) →
    (judged_lines longest bytes ≡ lines front) × (behind_lines bytes ≡ None) × (rest_of l left ≡ [])
none-next longest bytes left front l h said = elim (finds-next l (rest_of l left)) [
  | inl f ↦ absurd (answered-none (eqb l.given MAX_LINES) (ltb l.longest (length f.text)) (l.given + 1) f.text (sym f.answer ∙ said))
  | inr (inl f) ↦ absurd (let a = f.answer in let z : ⊥ = cc in z)
  | inr (inr f) ↦
      let all : bytes ≡ front = h.cut ∙ ap (λ (r : List ℕ). front ++ r) f.none ∙ append-nil front in
      let fits : leb (length bytes) MAX_INPUT ≡ true = le-leb (length bytes) MAX_INPUT (omega (arith, ap length all, h.within)) in
      let judged : judged_within (room l) l.longest (rest_of l left) ≡ [] =
      ap (judged_within (room l) l.longest) f.none ∙ ap (λ (b : Bool). cond b [] (lines (settled l.longest (take (room l) [])))) (le-leb 0 (room l) (omega arith)) in (
        judged-split longest bytes left front l h ∙ ap (λ (ls : List (List ℕ)). lines front ++ ls) judged ∙ append-nil (lines front),
        ap (λ (b : Bool). cond b None (Some (refusal.TooLong origin.Input))) fits,
        f.none,
      )
]

-- the place behind one line more
pub line-more : (longest : ℕ) (bytes left rest front : List ℕ) (l new : LinesView) (line : List ℕ) → IsAtLine longest bytes left l front → Says l left (Ok (Some line)) → new.longest ≡ l.longest → new.given ≡ l.given + 1 →
    new.held ++ rest ≡ drop (line_len (rest_of l left) + 1) (rest_of l left) → new.place + length (new.held ++ rest) ≡ l.place + length (rest_of l left) →
    (further : List ℕ) × IsAtLine longest bytes rest new further × (lines further ≡ lines front ++ line ∷ [])
line-more longest bytes left rest front l new line h said same given behind place = elim (finds-next l (rest_of l left)) [
  | inl f ↦
      let t = answered-ok (eqb l.given MAX_LINES) (ltb l.longest (length f.text)) (l.given + 1) f.text line (sym f.answer ∙ said) in
      let short : length f.text ≤ l.longest = (let e = t.1 in grind (arith, nat_tests)) in
      let edge = edge-of front (rest_of l left) f.text h.whole (f.line short).line in
      by f t.2 (f.line short) edge
  | inr (inl f) ↦ absurd (let a = f.answer in let z : ⊥ = cc in z)
  | inr (inr f) ↦ absurd (let a = f.answer in let z : ⊥ = cc in z)
]
  where
    take-none : (n : ℕ) → take {A = ℕ} n [] ≡ []
    take-none n = take_all n [] (omega arith)

    no-text : (n : ℕ) (left text : List ℕ) → left ≡ [] → lines (take n left) ≡ text ∷ [] → ⊥
    no-text n left text none said =
        let t : take n left ≡ [] = ap (take n) none ∙ take-none n in
        let e : lines (take n left) ≡ [] = ap lines t in
        cc

    edge-of : (front left text : List ℕ) → ((last_piece front ≡ []) ⊎ (left ≡ [])) → lines (take (line_len left + 1) left) ≡ text ∷ [] → last_piece front ≡ []
    edge-of front left text (inl edge) said = edge
    edge-of front left text (inr none) said = absurd (no-text (line_len left + 1) left text none said)

    by : (f : FindsLine l (rest_of l left)) → f.text ≡ line → IsLine l (rest_of l left) f.text → last_piece front ≡ [] → (further : List ℕ) × IsAtLine longest bytes rest new further × (lines further ≡ lines front ++ line ∷ [])
    by f text_is w edge =
        let all = rest_of l left in
        let n = line_len all + 1 in
        let piece = take n all in
        let text = f.text in
        let cut : piece ++ drop n all ≡ all = take-append-drop n all in
        let sizes = ap length cut in
        let further : lines (front ++ piece) ≡ lines front ++ text ∷ [] = lines-append [] front piece edge ∙ ap (λ (ls : List (List ℕ)). lines front ++ ls) w.line in (
          front ++ piece,
          record {
            same = same ∙ h.same;
            cut = h.cut ∙ ap (λ (r : List ℕ). front ++ r) (sym cut) ∙ sym (append_assoc front piece (drop n all)) ∙ ap (λ (r : List ℕ). (front ++ piece) ++ r) (sym behind);
            place = omega (arith, place, ap length behind, sizes, length-append piece (drop n all), length-append front piece, h.place);
            within = omega (arith, length-append front piece, w.within, h.place, h.within);
            whole = elim w.edge [
              | inl e ↦ inl (piece-append [] front piece edge ∙ e)
              | inr e ↦ inr (behind ∙ e)
            ];
            given = given ∙ ap (λ (k : ℕ). k + 1) h.given ∙ sym (ap length further ∙ length-append (lines front) (text ∷ []));
          },
          further ∙ ap (λ (t : List ℕ). lines front ++ t ∷ []) text_is,
        )

-- a source that fails behind the lines that were handed out
pub halts-next : (longest : ℕ) (bytes left rest front : List ℕ) (l new : LinesView) → IsAtLine longest bytes left l front →
    new.held ++ rest ≡ l.held ++ left → new.place + length (new.held ++ rest) ≡ l.place + length (l.held ++ left) →
    line_len new.held ≡ length new.held → length new.held < longest + 2 → new.place + length new.held ≤ MAX_INPUT → Halts longest bytes rest front
halts-next longest bytes left rest front l new h kept place none short within = record {
  held = new.held;
  cut = h.cut ∙ ap (λ (r : List ℕ). front ++ r) (sym kept);
  whole = elim h.whole [ inl e ↦ inl e | inr e ↦ inr (kept ∙ e) ];
  waits = none;
  short = short;
  within = omega (arith, within, place, ap length kept, h.place);
}
