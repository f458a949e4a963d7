-- Inner: what every reader keeps.
use Rattle.std.specs.Prelude.{◌≡◌, ◌<◌, ◌+◌, ◌*◌, ℕ, Bool, List, Option, None, Some, length, IfSome}
use Rattle.pim_net.specs.Netlist.{DraftView}
use Rattle.pim_net.specs.declared.limits.TheConstants.{MAX_SIGNALS}
use Rattle.pim_net.specs.declared.parts.Equation.{Equation}
use Rattle.pim_blif.specs.inner.InputMarks.{AreMarked}
use Rattle.pim_blif.specs.inner.Judging.{Known}

-- the inputs are marked, the outputs are counted, and the open cover drives a signal
pub record IsReader (draft : DraftView) (marks : List Bool) (outputs : ℕ) (cover : Option Equation) : Type 0 where
  pub marked : AreMarked draft.inputs marks
  pub counted : outputs ≡ length draft.outputs
  pub below : IfSome cover (λ e. e.sig < MAX_SIGNALS)

-- how many words an open cover took at least: the driven name and its directive, and one for each row
abbrev pub cover_words : Option Equation → ℕ
cover_words None = 0
cover_words (Some e) = 2 + length e.cover.rows

-- how many words the covers took at least
abbrev pub words_used : Known → ℕ
words_used k = 2 * length k.draft.equations + cover_words k.cover
