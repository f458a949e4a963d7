-- The command lines with at most one option refuse and read as their definitions do.
use Rattle.std.proofs.Common.{◌≡◌, List, [], ◌∷◌, refl, ap, codes, subst, sym, true}
use Rattle.std.specs.Borrow.{Bor}
use Rattle.clap.specs.Faults.{is_simple_and_free}
use Rattle.clap.specs.Simple.{App, built}
use Rattle.clap.specs.Walk.{Text, texts}
use Rattle.clap.specs.declared.builder.value_parser.ValueParser.TheVariants as vp
use Rattle.pim_words.specs.Lines.{convert_by, convert_line, fill_by, fill_line, one_of_names}
use Rattle.pim_words.specs.Reading.{ReadsAlike}
use Rattle.pim_words.proofs.Alike.{IsBareOf, reads_alike}

pub fill_alike : (name : Text) (fills : Bor (List (Bor Text))) → texts fills.now ≡ codes "zeros" ∷ codes "ones" ∷ []
    → ReadsAlike (fill_by name (vp.Names fills)) (fill_line name)
fill_alike name fills fill =
    let is_bare : IsBareOf (fill_by name (vp.Names fills)) (fill_by name (one_of_names (texts fills.now))) =
    record { shape = (built (fill_by name (vp.Names fills))).top; from = refl; to = refl; words = λ ws. refl } in
    reads_alike _ _ _ refl is_bare (ap (λ f. fill_by name (one_of_names f)) fill)

pub convert_alike : (forms : Bor (List (Bor Text))) → texts forms.now ≡ codes "1" ∷ codes "2" ∷ []
    → ReadsAlike (convert_by (vp.Names forms)) convert_line
convert_alike forms form =
    let is_bare : IsBareOf (convert_by (vp.Names forms)) (convert_by (one_of_names (texts forms.now))) =
    record { shape = (built (convert_by (vp.Names forms))).top; from = refl; to = refl; words = λ ws. refl } in
    reads_alike _ _ _ refl is_bare (ap (λ f. convert_by (one_of_names f)) form)

-- a command line that is its definition
pub same_alike : (a line : App) → is_simple_and_free line ≡ true → a ≡ line → ReadsAlike a line
same_alike a line simple is =
    let same : ReadsAlike line line = record { simple = simple; faults = λ words. refl; matches = λ words. refl } in
    subst (λ x. ReadsAlike x line) (sym is) same
