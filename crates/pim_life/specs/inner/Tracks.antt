-- Inner: the lives of cells as they are found, going through the instructions once.
use Rattle.std.specs.Prelude.{ℕ, ◌+◌, List, [], ◌∷◌, ◌++◌, Option, Some, None, option_map, option_to_list, replicate, slice_index_or, slice_set}
use Rattle.pim_isa.specs.declared.instr.Instr.{Instr}
use Rattle.pim_isa.specs.Programs.{ProgramView}
use Rattle.pim_isa.specs.Sound.{cells_of}
use Rattle.pim_isa.specs.Touches.{reads, writes}
use Rattle.pim_life.specs.declared.life.Start.{Start}
use Rattle.pim_life.specs.declared.life.Start.TheVariants.{Load, At}
use Rattle.pim_life.specs.declared.life.End.{End}
use Rattle.pim_life.specs.declared.life.End.TheVariants.{Unread, Read, Output}
use Rattle.pim_life.specs.declared.life.Life.{Life}
use Rattle.pim_life.specs.Explanations.{cell_text}

-- the lives of a cell that are over, and the one that may go on, as it ends as far as is known
pub record TrackView : Type 0 where
  pub past : List Life
  pub current : Option Life

-- a cell before its first life
abbrev pub blank : TrackView
blank = record { past = []; current = None }

-- the lives so far
abbrev pub track_lives : TrackView → List Life
track_lives t = t.past ++ option_to_list t.current

-- a life of the cell that nothing has read yet
abbrev pub unread : ℕ → Start → Life
unread c s = record { cell = c; start = s; end = Unread }

-- the cell holds an input's bit
abbrev pub loaded : ℕ → TrackView → TrackView
loaded c t = record t { current = Some (unread c Load) }

-- the instruction at place k writes the cell: the life before is over
abbrev pub written : ℕ → ℕ → TrackView → TrackView
written k c t = record { past = track_lives t; current = Some (unread c (At k)) }

-- the current life, if there is one, ends so as far as is known
abbrev pub ended : End → TrackView → TrackView
ended e t = record t { current = option_map (λ (l : Life). record l { end = e }) t.current }

-- the track of a cell, and a blank one outside the list
abbrev pub track_at : List TrackView → ℕ → TrackView
track_at ts c = slice_index_or ts c blank

-- what f makes of the tracks of the cells, one after another
abbrev pub all_changed : (ℕ → TrackView → TrackView) → List ℕ → List TrackView → List TrackView
all_changed f [] ts = ts
all_changed f (c ∷ cs) ts = all_changed f cs (slice_set ts c (f c (track_at ts c)))

-- the cells hold the bits of inputs
abbrev pub all_loaded : List ℕ → List TrackView → List TrackView
all_loaded cs ts = all_changed loaded cs ts

-- the instruction at place k writes the cells
abbrev pub all_written : ℕ → List ℕ → List TrackView → List TrackView
all_written k cs ts = all_changed (written k) cs ts

-- the current lives of the cells end so as far as is known
abbrev pub all_ended : End → List ℕ → List TrackView → List TrackView
all_ended e cs ts = all_changed (λ c. ended e) cs ts

-- the instruction at place k reads what it reads, and then writes
abbrev pub after_instr : ℕ → Instr → List TrackView → List TrackView
after_instr k i ts = all_written k (writes i) (all_ended (Read k) (reads i) ts)

-- the same for instructions that stand from place k on
abbrev pub after_instrs : ℕ → List Instr → List TrackView → List TrackView
after_instrs k [] ts = ts
after_instrs k (i ∷ is) ts = after_instrs (k + 1) is (after_instr k i ts)

-- all the instructions of a program gone through, and its outputs
abbrev pub tracks_of : ProgramView → List TrackView
tracks_of p =
    all_ended Output (cells_of p.outputs) (after_instrs 0 p.instrs (all_loaded (cells_of p.inputs) (replicate p.cells blank)))

-- the lines of cells, of tracks that stand from cell c on
abbrev pub tracks_text : ℕ → List TrackView → List ℕ
tracks_text c [] = []
tracks_text c (t ∷ ts) = cell_text c (track_lives t) ++ tracks_text (c + 1) ts
