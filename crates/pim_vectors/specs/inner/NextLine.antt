-- Inner: what is handed out next, once it is known what stands next.
use Rattle.std.specs.Prelude.{◌≡◌, ℕ, ◌+◌, ◌<◌, ◌≤◌, List, [], ◌∷◌, ◌++◌, length, take, drop, Option, Some, None, Ok}
use Rattle.pim_io.specs.Outside.{Told}
use Rattle.pim_vectors.specs.declared.limits.TheConstants.{MAX_LINES}
use Rattle.pim_vectors.specs.declared.sizes.Sizes.{Sizes}
use Rattle.pim_vectors.specs.Lines.{lines, line_len}
use Rattle.pim_vectors.specs.Next.{LinesView, within_limit, next_of}

-- the first bytes that are held are the text of the next line, and more of them that line with its end
pub record IsNext (v : LinesView) (before now : Option (List ℕ)) (s : Sizes) : Type 0 where
  pub short : s.text ≤ s.whole
  pub some : 0 < s.whole
  pub within : s.whole ≤ length (within_limit v v.held)
  pub more : v.given < MAX_LINES
  pub answer : Told before now (λ b n. next_of v (v.held ++ n) ≡ Ok (Some (take s.text v.held)))
  pub whole : Told before now (λ b n. drop s.whole v.held ++ n ≡ drop (line_len (v.held ++ n) + 1) (v.held ++ n))
  pub cut : Told before now (λ b n. lines (v.held ++ n) ≡ take s.text v.held ∷ lines (drop s.whole v.held ++ n))

-- there is no line in this state any more
abbrev pub IsEnd : LinesView → Option (List ℕ) → Option (List ℕ) → Type 0
IsEnd v before now = Told before now (λ b n. (next_of v (v.held ++ n) ≡ Ok None) × (v.held ++ n ≡ []))
