use Rattle.std.proofs.Common.{◌≡◌, ℕ, ◌+◌, ◌*◌, ◌<◌, List, ◌++◌, length, refl, sym, subst, ap, ◌∙◌}
use Rattle.pim_io.specs.Lanes.{column_in}
use Rattle.pim_lanes.specs.Banks.{BankView, with_column}
use Rattle.pim_lanes.proofs.ColumnLemmas.{column_in_slice}
use Rattle.pim_lanes.proofs.BankLemmas.{cell_column}
use Rattle.pim_lanes.proofs.LendLemmas.{lent_view, lent_invariant, length-cell_column, with_column_rows}
use Rattle.pim_lanes.proofs.TripleLemmas.{placed_column, place_below, in_parts, place_beside}
use Rattle.pim_lanes.proofs.bank.Bank.triple.Goals as goal

pub column_beside-requires-2-clause-within : goal.column_beside-requires-2-clause-within
column_beside-requires-2-clause-within c =
    let inside = c.self.inside in
    place_beside inside.cells inside.words c.args.t c.place_in-second.result inside.buffer.items _ _ c.self.invariant
    (subst (λ (v : BankView). c.args.t < v.cells) (sym c.self.view_is) c.requires.t_within)
    (place_below inside.cells c.args.b c.place_in-second.result (subst (λ (v : BankView). c.args.b < v.cells + 2) (sym c.self.view_is) c.requires.b_within)
    c.place_in-second.ensures.cell c.place_in-second.ensures.constant)
    c.part_mut-target.ensures.below c.part_mut-target.ensures.above

pub invariant_of-self-lent : goal.invariant_of-self-lent
invariant_of-self-lent c = λ w.
    let inside = c.self.inside in
    lent_invariant inside.cells inside.words inside.buffer.len c.args.t inside.buffer.items w inside.buffer.ok.0 c.self.invariant
    (subst (λ (v : BankView). c.args.t < v.cells) (sym c.self.view_is) c.requires.t_within)

pub returns : goal.returns
returns c =
    let inside = c.self.inside in
    let items : List ℕ = inside.buffer.items in
    let k : ℕ = c.args.t in
    let b : BankView = c.args.self.now in
    let is = c.self.view_is in
    let words : inside.words ≡ b.words = ap (λ (v : BankView). v.words) is in
    let small : k < inside.cells = subst (λ (v : BankView). k < v.cells) (sym is) c.requires.t_within in
    let parts = c.part_mut-target.ensures in
    let target : List ℕ = c.part_mut-target.result.0.now in
    let below : List ℕ = c.part_mut-target.result.1.now in
    let above : List ℕ = c.part_mut-target.result.2.now in
    let column : target ≡ column_in inside.words items (k + 2) = parts.part ∙ column_in_slice inside.words items (k + 2) ((k + 2) * inside.words) refl in
    let long : length target ≡ inside.words = ap length column ∙ length-cell_column inside.cells inside.words k items c.self.invariant small in
    let whole : below ++ (target ++ above) ≡ items = in_parts ((k + 2) * inside.words) inside.words items below target above parts.below parts.part parts.above in
    let first = c.column_beside.ensures.value target long ∙ ap (λ (l : List ℕ). column_in inside.words l c.place_in-first.result) whole
    ∙ placed_column _ b items c.args.a c.place_in-first.result is refl c.self.invariant c.requires.a_within c.place_in-first.ensures.cell c.place_in-first.ensures.constant in
    let second = c.column_beside-2.ensures.value target long ∙ ap (λ (l : List ℕ). column_in inside.words l c.place_in-second.result) whole
    ∙ placed_column _ b items c.args.b c.place_in-second.result is refl c.self.invariant c.requires.b_within c.place_in-second.ensures.cell c.place_in-second.ensures.constant in (
      (
        refl,
        λ w.
            lent_view inside.cells inside.words inside.buffer.len k items w inside.buffer.ok.0 c.self.invariant small
            ∙ ap (λ (v : BankView). with_column v k w) is,
      ),
      record {
        lends = tt;
        target = column ∙ cell_column _ b items k is refl c.requires.t_within;
        first = first;
        second = second;
        target_long = long ∙ words;
        first_long = c.column_beside.ensures.long ∙ words;
        second_long = c.column_beside-2.ensures.long ∙ words;
        rows = λ column. with_column_rows _ b items k column is refl c.self.invariant c.requires.t_within;
      },
    )
