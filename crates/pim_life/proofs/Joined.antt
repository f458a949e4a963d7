-- The lives of all cells, and their text, from the tracks.
use Rattle.std.proofs.Common.{◌≡◌, ℕ, zero, suc, ◌+◌, List, [], ◌∷◌, ◌++◌, length, map, refl, sym, ap, ◌∙◌}
use Rattle.std.specs.List.{flat_map, range_with_len}
use Rattle.pim_isa.specs.Programs.{ProgramView}
use Rattle.pim_life.specs.declared.life.Life.{Life}
use Rattle.pim_life.specs.Explanations.{cell_text, explanation, summary_text}
use Rattle.pim_life.specs.Lives.{cell_lives, lives_of}
use Rattle.pim_life.specs.inner.Tracks.{TrackView, track_lives, tracks_text}

flat_map-map : {X A : Type 0} (f : X → List A) (xs : List X) → flat_map f xs ≡ flat_map (λ ys. ys) (map f xs)
flat_map-map f [] = refl
flat_map-map f (x ∷ xs) = ap (λ ys. f x ++ ys) (flat_map-map f xs)

-- the lives of all cells
pub lives_joined : (p : ProgramView) (ts : List TrackView) → map track_lives ts ≡ map (cell_lives p) (range_with_len 0 p.cells) →
    flat_map track_lives ts ≡ lives_of p
lives_joined p ts same =
    flat_map-map track_lives ts ∙ ap (flat_map (λ (ls : List Life). ls)) same ∙ sym (flat_map-map (cell_lives p) (range_with_len 0 p.cells))

-- the lines of all cells
pub text_joined : (f : ℕ → List Life) (ts : List TrackView) (c n : ℕ) → map track_lives ts ≡ map f (range_with_len c n) →
    tracks_text c ts ≡ flat_map (λ c. cell_text c (f c)) (range_with_len c n)
text_joined f [] c zero same = refl
text_joined f [] c (suc n) same = cc
text_joined f (t ∷ ts) c zero same = cc
text_joined f (t ∷ ts) c (suc n) same =
    let first : track_lives t ≡ f c = cc in
    let others : map track_lives ts ≡ map f (range_with_len (c + 1) n) = cc in
    ap (λ ls. cell_text c ls ++ tracks_text (c + 1) ts) first
    ∙ ap (λ text. cell_text c (f c) ++ text) (text_joined f ts (c + 1) n others)

-- appended to nothing, they are all
pub lives_finished : (p : ProgramView) (ts listed : List TrackView) (empty all : List Life) → empty ≡ [] → listed ≡ ts →
    map track_lives ts ≡ map (cell_lives p) (range_with_len 0 p.cells) →
    all ≡ empty ++ flat_map track_lives listed → all ≡ lives_of p
lives_finished p ts listed empty all none same lives whole =
    whole ∙ ap (λ before. before ++ flat_map track_lives listed) none ∙ ap (flat_map track_lives) same ∙ lives_joined p ts lives

-- the lines of all cells, appended to nothing, and the last line
pub text_finished : (p : ProgramView) (ts listed : List TrackView) (empty lines all : List ℕ) (cells cycles : ℕ) →
    empty ≡ [] → listed ≡ ts → map track_lives ts ≡ map (cell_lives p) (range_with_len 0 p.cells) →
    lines ≡ empty ++ tracks_text 0 listed → cells ≡ p.cells → cycles ≡ length p.instrs →
    all ≡ lines ++ summary_text cells cycles → all ≡ explanation p
text_finished p ts listed empty lines all cells cycles none same lives lined is_cells is_cycles whole =
    let text = flat_map (λ c. cell_text c (cell_lives p c)) (range_with_len 0 p.cells) in
    let lines_are : lines ≡ text =
    lined ∙ ap (λ before. before ++ tracks_text 0 listed) none ∙ ap (tracks_text 0) same ∙ text_joined (cell_lives p) ts 0 p.cells lives in
    whole ∙ ap (λ lines. lines ++ summary_text cells cycles) lines_are
    ∙ ap (λ n. text ++ summary_text n cycles) is_cells
    ∙ ap (λ n. text ++ summary_text p.cells n) is_cycles
