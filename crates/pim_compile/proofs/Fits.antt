-- What a budget gives, of two at once.
use Rattle.std.proofs.Common.{◌≡◌, ℕ, ◌≤◌, min, Option, Some, None, refl, arith}
use Rattle.pim_isa.specs.Programs.{ProgramView}
use Rattle.pim_compile.specs.declared.fit.Fit.{Fit}
use Rattle.pim_compile.specs.declared.fit.Fit.TheVariants as fit
use Rattle.pim_compile.specs.inner.Candidates.{shorter}
use Rattle.pim_compile.specs.inner.Fits.{TellsNeed, beside, joined, program_of}

-- the program is the shorter one
pub program_of-beside : (r : Option ProgramView) (f : Fit) → program_of (beside r f) ≡ shorter r (program_of f)
program_of-beside None f = refl
program_of-beside (Some p) (fit.Program q) = refl
program_of-beside (Some p) (fit.Needs told) = refl

pub program_of-joined : (f h : Fit) → program_of (joined f h) ≡ shorter (program_of f) (program_of h)
program_of-joined (fit.Program p) h = program_of-beside (Some p) h
program_of-joined (fit.Needs told) (fit.Program q) = refl
program_of-joined (fit.Needs told) (fit.Needs other) = refl

-- the need that is told is that of what stands behind
pub need-beside : (needed most budget : ℕ) (r : Option ProgramView) (f : Fit) → TellsNeed needed most budget f → TellsNeed needed most budget (beside r f)
need-beside needed most budget None f tells = tells
need-beside needed most budget (Some p) (fit.Program q) tells = tt
need-beside needed most budget (Some p) (fit.Needs told) tells = tt

-- of two the lesser need is told
pub need-joined : (first second least within most budget : ℕ) (f h : Fit) → within ≤ most → TellsNeed first least budget f → TellsNeed second within budget h → TellsNeed (min first second) most budget (joined f h)
need-joined first second least within most budget (fit.Program p) (fit.Program q) more here there = tt
need-joined first second least within most budget (fit.Program p) (fit.Needs told) more here there = tt
need-joined first second least within most budget (fit.Needs told) (fit.Program q) more here there = tt
need-joined first second least within most budget (fit.Needs told) (fit.Needs other) more here there = record {
  is = omega (arith, here.is, there.is);
  below = omega (arith, here.below, there.below);
  few = omega (arith, more, there.few);
}
