-- One step of a walk: what the output took then, or why the walk ends.
use Rattle.std.proofs.Common.{◌≡◌, ◌≢◌, ℕ, ◌+◌, ◌-◌, ◌*◌, ◌%◌, ◌<◌, ◌≤◌, Bool, true, false, List, [], ◌∷◌, ◌++◌, length, take, Option, Some, None, inl, inr, refl, sym, ap, ◌∙◌, subst, arith, append_assoc, append-nil, length-append}
use Rattle.std.proofs.Math.Seq.{take-append-add}
use Rattle.std.proofs.lemmas.Bool.{cases_lt}
use Rattle.std.proofs.lemmas.Grind.{flat_map-append}
use Rattle.std.proofs.lemmas.List.{length-map, map-append, take-append-le, take_all}
use Rattle.std.proofs.lemmas.Nat.{mod-mul-add}
use Rattle.pim_io.specs.Bits.{bits_of}
use Rattle.pim_io.specs.Outside.{Told, TookAll, TookFirst}
use Rattle.pim_batch.specs.Runners.{Runner, results}
use Rattle.pim_vectors.specs.Lines.{lines}
use Rattle.pim_vectors.specs.Next.{LinesView}
use Rattle.pim_top.specs.Judged.{first_refusal, fitting_lines}
use Rattle.pim_top.specs.Walks.{RanInPart, RanTo, RanWhole, full_rows, rows_of, tiles_of}
use Rattle.pim_top.specs.declared.refusal.Origin.TheVariants as origin
use Rattle.pim_top.specs.declared.refusal.Refusal.{Refusal}
use Rattle.pim_top.specs.declared.refusal.Refusal.TheVariants as refusal
use Rattle.pim_top.specs.inner.Standing.{Goes, IsEnd, IsOfLines, IsRefusedHere, IsRunning, IsWalk, Refuses, Stops, TakesUp, first_line}
use Rattle.pim_top.proofs.Told.{told-map}
use Rattle.pim_top.proofs.WalkStates.{fits-front}

-- ---- what a sink took, piece by piece
-- one piece after another
pub took-both : (a b c : Option (List ℕ)) (p q : List ℕ) → TookAll a b p → TookAll b c q → TookAll a c (p ++ q)
took-both None b c p q h k = tt
took-both (Some x) None c p q h k = absurd h
took-both (Some x) (Some y) None p q h k = absurd k
took-both (Some x) (Some y) (Some z) p q h k = k ∙ ap (λ (t : List ℕ). t ++ q) h ∙ append_assoc x p q

-- a whole piece, and then the first bytes of another one
pub then-first : (a b c : Option (List ℕ)) (p q : List ℕ) → TookAll a b p → TookFirst b c q → TookFirst a c (p ++ q)
then-first None b c p q h k = tt
then-first (Some x) None c p q h k = absurd h
then-first (Some x) (Some y) None p q h k = absurd k
then-first (Some x) (Some y) (Some z) p q h k =
    let rest : List ℕ = take (length z - length y) q in
    let ly : length y ≡ length x + length p = ap length h ∙ length-append x p in
    let lz : length z ≡ length y + length rest = ap length k ∙ length-append y rest in
    let n : length p + (length z - length y) ≡ length z - length x = omega arith in
    k ∙ ap (λ (t : List ℕ). t ++ rest) h ∙ append_assoc x p rest
    ∙ ap (λ (t : List ℕ). x ++ t) (sym (take-append-add p q (length z - length y)))
    ∙ ap (λ (j : ℕ). x ++ take j (p ++ q)) n

results-append : (runner : Runner) (xs ys : List (List Bool)) → results runner (xs ++ ys) ≡ results runner xs ++ results runner ys
results-append runner xs ys = flat_map-append runner.result xs ys

take-front : {X : Type 0} (xs ys : List X) (n : ℕ) → n ≡ length xs → take n (xs ++ ys) ≡ xs
take-front xs ys n same = take-append-le n xs ys (omega arith) ∙ take_all n xs (omega arith)

-- ---- the tiles that were written
tiles-took : (runner : Runner) (bytes rest : List ℕ) (before now : Option (List ℕ)) (l : LinesView) (rows : List (List Bool)) → length rows < runner.tile → (h : IsRunning runner bytes rest before now l rows) → TookAll before now (tiles_of runner (lines h.front))
tiles-took runner bytes rest before now l rows room h =
    let n = length (lines h.front) in
    let size : n ≡ length h.gone + length rows = sym (length-map (lines h.front) bits_of) ∙ ap length h.cut ∙ length-append h.gone rows in
    let whole : n ≡ h.tiles * runner.tile + length rows = size ∙ ap (λ (k : ℕ). k + length rows) h.full in
    let left : n % runner.tile ≡ length rows = ap (λ (k : ℕ). k % runner.tile) whole ∙ mod-mul-add h.tiles runner.tile (length rows) room in
    let full : full_rows runner n ≡ length h.gone = omega (arith, left, size) in
    let front : take (full_rows runner n) (rows_of (lines h.front)) ≡ h.gone = ap (take (full_rows runner n)) h.cut ∙ take-front h.gone rows (full_rows runner n) full in
    subst (λ (rs : List (List Bool)). TookAll before now (results runner rs)) (sym front) h.took

-- the lines that were handed out all fit
all-fit : (width : ℕ) (bytes rest front : List ℕ) (l : LinesView) → IsWalk width bytes rest l front → first_refusal width 0 None (lines front) ≡ None
all-fit width bytes rest front l h = ap (first_refusal width 0 None) (sym (append-nil (lines front))) ∙ h.refusals None []

-- a refusal before anything was written
refused-to : (runner : Runner) (bytes left : List ℕ) (before taken : Option (List ℕ)) (l : LinesView) (rows : List (List Bool)) (r : Refusal) → length rows < runner.tile → (h : IsRunning runner bytes left before taken l rows) → IsRefusedHere runner.width bytes h.front r → RanTo runner bytes before taken r
refused-to runner bytes left before taken l rows r room h s = record {
  refused = s.refused;
  took = subst (λ (ls : List (List ℕ)). TookAll before taken (tiles_of runner ls)) (sym s.fits) (tiles-took runner bytes left before taken l rows room h);
}

pub refused-here : (runner : Runner) (bytes left rest : List ℕ) (before taken : Option (List ℕ)) (l : LinesView) (rows : List (List Bool)) (r : Refusal) → r ≢ refusal.WriteFault → length rows < runner.tile → (h : IsRunning runner bytes left before taken l rows) → Stops runner.width bytes rest h.front r → Refuses runner bytes rest before taken r
refused-here runner bytes left rest before taken l rows refusal.WriteFault other room h s = absurd (other refl)
refused-here runner bytes left rest before taken l rows (refusal.ReadFault origin.Input) other room h s = record {
  front = h.front;
  halts = s;
  fit = all-fit runner.width bytes left h.front l h.walk;
  took = tiles-took runner bytes left before taken l rows room h;
}
refused-here runner bytes left rest before taken l rows (refusal.ReadFault origin.Program) other room h s = refused-to runner bytes left before taken l rows (refusal.ReadFault origin.Program) room h s
refused-here runner bytes left rest before taken l rows refusal.Usage other room h s = refused-to runner bytes left before taken l rows refusal.Usage room h s
refused-here runner bytes left rest before taken l rows refusal.NoMemory other room h s = refused-to runner bytes left before taken l rows refusal.NoMemory room h s
refused-here runner bytes left rest before taken l rows (refusal.TooLong o) other room h s = refused-to runner bytes left before taken l rows (refusal.TooLong o) room h s
refused-here runner bytes left rest before taken l rows (refusal.Judged j) other room h s = refused-to runner bytes left before taken l rows (refusal.Judged j) room h s

-- ---- one row more
-- the rows that are packed after one line more
rows-more : (width : ℕ) (bytes rest front : List ℕ) (gone rows : List (List Bool)) (l : LinesView) (packed : List (List Bool)) → rows_of (lines front) ≡ gone ++ rows → (t : TakesUp width bytes rest front rows l packed) → rows_of (lines t.further) ≡ gone ++ packed
rows-more width bytes rest front gone rows l packed cut t =
    ap rows_of t.more ∙ map-append bits_of (lines front) (t.line ∷ [])
    ∙ ap (λ (rs : List (List Bool)). rs ++ bits_of t.line ∷ []) cut
    ∙ append_assoc gone rows (bits_of t.line ∷ [])
    ∙ ap (λ (rs : List (List Bool)). gone ++ rs) (sym t.packed)

-- the tile isn't full
pub running-more : (runner : Runner) (bytes left rest : List ℕ) (before taken : Option (List ℕ)) (l new : LinesView) (rows packed : List (List Bool)) → (h : IsRunning runner bytes left before taken l rows) → TakesUp runner.width bytes rest h.front rows new packed → IsRunning runner bytes rest before taken new packed
running-more runner bytes left rest before taken l new rows packed h t = record {
  front = t.further;
  walk = t.walk;
  gone = h.gone;
  cut = rows-more runner.width bytes rest h.front h.gone rows new packed h.cut t;
  tiles = h.tiles;
  full = h.full;
  took = h.took;
}

-- the tile is full and was written
pub running-full : (runner : Runner) (bytes left rest : List ℕ) (before taken now : Option (List ℕ)) (l new : LinesView) (rows packed none : List (List Bool)) → (h : IsRunning runner bytes left before taken l rows) → TakesUp runner.width bytes rest h.front rows new packed → length packed ≡ runner.tile → none ≡ [] → TookAll taken now (results runner packed) → IsRunning runner bytes rest before now new none
running-full runner bytes left rest before taken now l new rows packed none h t full empty wrote =
    let one : (h.tiles + 1) * runner.tile ≡ h.tiles * runner.tile + runner.tile = one-more h.tiles runner.tile in
    record {
      front = t.further;
      walk = t.walk;
      gone = h.gone ++ packed;
      cut = rows-more runner.width bytes rest h.front h.gone rows new packed h.cut t ∙ sym (append-nil (h.gone ++ packed)) ∙ ap (λ (rs : List (List Bool)). (h.gone ++ packed) ++ rs) (sym empty);
      tiles = h.tiles + 1;
      full = omega (arith, length-append h.gone packed, h.full, full, one);
      took = subst (λ (t : List ℕ). TookAll before now t) (sym (results-append runner h.gone packed)) (took-both before taken now (results runner h.gone) (results runner packed) h.took wrote);
    }
  where
    one-more : (n t : ℕ) → (n + 1) * t ≡ n * t + t
    one-more n t = omega arith

-- the output failed in writing it
in-part : (runner : Runner) (bytes rest front : List ℕ) (before taken now : Option (List ℕ)) (l : LinesView) (gone rows : List (List Bool)) → IsWalk runner.width bytes rest l front → rows_of (lines front) ≡ gone ++ rows → TookAll before taken (results runner gone) → TookFirst taken now (results runner rows) → RanInPart runner bytes before now
in-part runner bytes rest front before taken now l gone rows walk cut took first =
    let f = fits-front runner.width bytes rest front l walk in
    let all : TookFirst before now (results runner gone ++ results runner rows) = then-first before taken now (results runner gone) (results runner rows) took first in
    let same : take (length (lines front)) (fitting_lines runner.width bytes) ≡ lines front =
    ap (take (length (lines front))) f.1 ∙ take-front (lines front) f.0 (length (lines front)) refl in
    record {
      count = length (lines front);
      there = omega (arith, ap length f.1, length-append (lines front) f.0);
      took = subst (λ (t : List ℕ). TookFirst before now t) (sym (results-append runner gone rows) ∙ ap (results runner) (sym cut) ∙ ap (λ (ls : List (List ℕ)). results runner (rows_of ls)) (sym same)) all;
    }

pub part-more : (runner : Runner) (bytes left rest : List ℕ) (before taken now : Option (List ℕ)) (l new : LinesView) (rows packed : List (List Bool)) → (h : IsRunning runner bytes left before taken l rows) → TakesUp runner.width bytes rest h.front rows new packed → TookFirst taken now (results runner packed) → RanInPart runner bytes before now
part-more runner bytes left rest before taken now l new rows packed h t first =
    in-part runner bytes rest t.further before taken now new h.gone packed t.walk (rows-more runner.width bytes rest h.front h.gone rows new packed h.cut t) h.took first

-- ---- the end
pub ran-whole : (runner : Runner) (bytes left rest : List ℕ) (before taken now : Option (List ℕ)) (l : LinesView) (rows same : List (List Bool)) → (h : IsRunning runner bytes left before taken l rows) → IsEnd runner.width bytes rest h.front → same ≡ rows → TookAll taken now (results runner same) → RanWhole runner bytes rest before now
ran-whole runner bytes left rest before taken now l rows same h e kept wrote = record {
  all = e.all;
  fine = e.fine;
  took = subst (λ (t : List ℕ). TookAll before now t)
      (sym (results-append runner h.gone same) ∙ ap (λ (rs : List (List Bool)). results runner (h.gone ++ rs)) kept ∙ ap (results runner) (sym h.cut) ∙ ap (λ (ls : List (List ℕ)). results runner (rows_of ls)) (sym e.fits))
      (took-both before taken now (results runner h.gone) (results runner same) h.took wrote);
}

pub part-end : (runner : Runner) (bytes left : List ℕ) (before taken now : Option (List ℕ)) (l : LinesView) (rows same : List (List Bool)) → (h : IsRunning runner bytes left before taken l rows) → same ≡ rows → TookFirst taken now (results runner same) → RanInPart runner bytes before now
part-end runner bytes left before taken now l rows same h kept first =
    in-part runner bytes left h.front before taken now l h.gone same h.walk (h.cut ∙ ap (λ (rs : List (List Bool)). h.gone ++ rs) (sym kept)) h.took first

-- ---- the start
took-none : (k : Option (List ℕ)) → TookAll k k []
took-none None = tt
took-none (Some x) = sym (append-nil x)

pub running-start : (runner : Runner) (bytes : List ℕ) (taken : Option (List ℕ)) (l : LinesView) (rows : List (List Bool)) → l ≡ first_line runner.width → rows ≡ [] → IsRunning runner bytes bytes taken taken l rows
running-start runner bytes taken l rows start empty =
    subst (λ (x : LinesView). IsRunning runner bytes bytes taken taken x rows) (sym start) (record {
      front = [];
      walk = record {
        at = record { same = refl; cut = refl; place = refl; within = omega arith; whole = inl refl; given = refl };
        refusals = λ behind more. refl;
        fits = λ more. refl;
      };
      gone = [];
      cut = sym empty;
      tiles = 0;
      full = omega arith;
      took = took-none taken;
    })

-- a tile that isn't full has room
pub room-left : (m t : ℕ) (b : Bool) → (m ≡ t → b ≡ true) → m ≤ t → b ≡ false → m < t
room-left m t b full within e = elim (cases_lt m t) [
  | inl below ↦ below
  | inr from ↦
      let same : m ≡ t = omega arith in
      let f = full same in
      absurd (let z : ⊥ = cc in z)
]

-- ---- the same where the source tells its bytes
-- what taking up a line did
abbrev pub ToldGoes : Bool → Runner → Option (List ℕ) → Option (List ℕ) → LinesView → LinesView → List (List Bool) → List (List Bool) → Type 0
ToldGoes more runner a b l new rows packed = Told a b (λ left rest. (bytes front : List ℕ) → IsWalk runner.width bytes left l front → Goes more runner.width bytes rest front rows new packed)

pub step-refused : (a b taken : Option (List ℕ)) (runner : Runner) (l : LinesView) (rows : List (List Bool)) (m n : ℕ) (r : Refusal) → IsOfLines m n r → length rows < runner.tile → Told a b (λ left rest. (bytes front : List ℕ) → IsWalk runner.width bytes left l front → Stops runner.width bytes rest front r) →
    Told a b (λ left rest. (bytes : List ℕ) (before : Option (List ℕ)) → IsRunning runner bytes left before taken l rows → Refuses runner bytes rest before taken r)
step-refused a b taken runner l rows m n r kind room told =
    told-map a b (λ left rest. (bytes front : List ℕ) → IsWalk runner.width bytes left l front → Stops runner.width bytes rest front r) _
    (λ left rest s. λ bytes before h. refused-here runner bytes left rest before taken l rows r (λ e. subst (IsOfLines m n) e kind) room h (s bytes h.front h.walk))
    told

pub step-more : (a b taken : Option (List ℕ)) (runner : Runner) (l new : LinesView) (rows packed : List (List Bool)) → ToldGoes true runner a b l new rows packed →
    Told a b (λ left rest. (bytes : List ℕ) (before : Option (List ℕ)) → IsRunning runner bytes left before taken l rows → IsRunning runner bytes rest before taken new packed)
step-more a b taken runner l new rows packed told =
    told-map a b (λ left rest. (bytes front : List ℕ) → IsWalk runner.width bytes left l front → TakesUp runner.width bytes rest front rows new packed) _
    (λ left rest s. λ bytes before h. running-more runner bytes left rest before taken l new rows packed h (s bytes h.front h.walk))
    told

pub step-full : (a b taken now : Option (List ℕ)) (runner : Runner) (l new : LinesView) (rows packed none : List (List Bool)) → ToldGoes true runner a b l new rows packed → length packed ≡ runner.tile → none ≡ [] → TookAll taken now (results runner packed) →
    Told a b (λ left rest. (bytes : List ℕ) (before : Option (List ℕ)) → IsRunning runner bytes left before taken l rows → IsRunning runner bytes rest before now new none)
step-full a b taken now runner l new rows packed none told full empty wrote =
    told-map a b (λ left rest. (bytes front : List ℕ) → IsWalk runner.width bytes left l front → TakesUp runner.width bytes rest front rows new packed) _
    (λ left rest s. λ bytes before h. running-full runner bytes left rest before taken now l new rows packed none h (s bytes h.front h.walk) full empty wrote)
    told

pub cut-full : (a b taken now : Option (List ℕ)) (runner : Runner) (l new : LinesView) (rows packed : List (List Bool)) → ToldGoes true runner a b l new rows packed → TookFirst taken now (results runner packed) →
    Told a b (λ left rest. (bytes : List ℕ) (before : Option (List ℕ)) → IsRunning runner bytes left before taken l rows → RanInPart runner bytes before now)
cut-full a b taken now runner l new rows packed told first =
    told-map a b (λ left rest. (bytes front : List ℕ) → IsWalk runner.width bytes left l front → TakesUp runner.width bytes rest front rows new packed) _
    (λ left rest s. λ bytes before h. part-more runner bytes left rest before taken now l new rows packed h (s bytes h.front h.walk) first)
    told

pub step-end : (a b taken now : Option (List ℕ)) (runner : Runner) (l new : LinesView) (rows packed : List (List Bool)) → ToldGoes false runner a b l new rows packed → TookAll taken now (results runner packed) →
    Told a b (λ left rest. (bytes : List ℕ) (before : Option (List ℕ)) → IsRunning runner bytes left before taken l rows → RanWhole runner bytes rest before now)
step-end a b taken now runner l new rows packed told wrote =
    told-map a b (λ left rest. (bytes front : List ℕ) → IsWalk runner.width bytes left l front → IsEnd runner.width bytes rest front × (packed ≡ rows)) _
    (λ left rest s. λ bytes before h. let e = s bytes h.front h.walk in ran-whole runner bytes left rest before taken now l rows packed h e.0 e.1 wrote)
    told

pub cut-end : (a b taken now : Option (List ℕ)) (runner : Runner) (l new : LinesView) (rows packed : List (List Bool)) → ToldGoes false runner a b l new rows packed → TookFirst taken now (results runner packed) →
    Told a b (λ left rest. (bytes : List ℕ) (before : Option (List ℕ)) → IsRunning runner bytes left before taken l rows → RanInPart runner bytes before now)
cut-end a b taken now runner l new rows packed told first =
    told-map a b (λ left rest. (bytes front : List ℕ) → IsWalk runner.width bytes left l front → IsEnd runner.width bytes rest front × (packed ≡ rows)) _
    (λ left rest s. λ bytes before h. let e = s bytes h.front h.walk in part-end runner bytes left before taken now l rows packed h e.1 first)
    told

pub told-start : (runner : Runner) (left taken : Option (List ℕ)) (l : LinesView) (rows : List (List Bool)) → l ≡ first_line runner.width → rows ≡ [] → Told left left (λ bytes rest. IsRunning runner bytes rest taken taken l rows)
told-start runner None taken l rows start empty = tt
told-start runner (Some bytes) taken l rows start empty = running-start runner bytes taken l rows start empty
