use Rattle.std.proofs.Common.{◌≡◌, ◌≤◌, ◌<◌, ℕ, List, length, arith, ap, sym, ◌∙◌}
use Rattle.std.specs.Borrow.{Bor}
use Rattle.std.proofs.lemmas.List.{length-map}
use Rattle.pim_net.specs.declared.limits.TheConstants.{MAX_SIGNALS}
use Rattle.pim_blif.specs.inner.Reading.{texts}
use Rattle.pim_blif.specs.Signals.{signal_number, with_name}
use Rattle.pim_blif.proofs.Found.{below_none, below_some}
use Rattle.pim_blif.proofs.Numbers.{number_of_place, inserted, kept}
use Rattle.pim_blif.proofs.table.NameTable.number.Goals as goal

pub returns-then-place-clause-number : goal.returns-then-place-clause-number
returns-then-place-clause-number c =
    let n = signal_number c.args.self.now c.args.name.now in
    let same : c.in_ok-place.place ≡ n = c.in_ok-place.ensures.index ∙ sym (number_of_place c.self.inside.names.keys c.args.name.now) ∙ ap (λ names. signal_number names c.args.name.now) c.self.view_is in
    below_none n MAX_SIGNALS (omega (arith, same, c.if-place.true))

pub invariant_of-self-else-place : goal.invariant_of-self-else-place
invariant_of-self-else-place c =
    let keys = c.self.inside.names.keys in
    let after = c.insert_full.new.self.keys in
    let name = c.args.name.now in
    let same : texts after ≡ with_name (texts keys) name = ap texts c.in_ok-place.ensures.keys ∙ inserted keys c.args.name in
    let count : length (texts keys) ≡ length keys = length-map keys (λ (slice : Bor (List ℕ)). slice.now) in
    let count_after : length (texts after) ≡ length after = length-map after (λ (slice : Bor (List ℕ)). slice.now) in
    let few : length (texts keys) ≤ MAX_SIGNALS = omega (arith, c.self.invariant.1) in
    let place : c.in_ok-place.place ≡ signal_number (texts keys) name = c.in_ok-place.ensures.index ∙ sym (number_of_place keys name) in
    let room : signal_number (texts keys) name < MAX_SIGNALS = omega (arith, place, c.if-place.false) in
    let all = kept (texts keys) (texts after) name same c.self.invariant.0 few c.requires room in
    (all.0, omega (arith, all.1))

pub returns-clause-number : goal.returns-clause-number
returns-clause-number c =
    let n = signal_number c.args.self.now c.args.name.now in
    let same : c.in_ok-place.place ≡ n = c.in_ok-place.ensures.index ∙ sym (number_of_place c.self.inside.names.keys c.args.name.now) ∙ ap (λ names. signal_number names c.args.name.now) c.self.view_is in
    below_some n MAX_SIGNALS c.in_ok-place.place same (omega (arith, c.if-place.false))

pub returns-clause-names : goal.returns-clause-names
returns-clause-names c = ap texts c.in_ok-place.ensures.keys ∙ inserted c.self.inside.names.keys c.args.name ∙ ap (λ names. with_name names c.args.name.now) c.self.view_is
