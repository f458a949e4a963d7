use Rattle.std.proofs.Common.{◌≡◌, ◌∙◌, ◌++◌, ◌∷◌, [], ℕ, Ok, ap, take, sym, arith}
use Rattle.std.proofs.lemmas.Result.{err_from_is_err_and}
use Rattle.std.proofs.lemmas.List.{append-nil}
use Rattle.pim_file.specs.Items.{shown_at}
use Rattle.pim_file.proofs.ItemLemmas.{shown_is}
use Rattle.pim_file.proofs.ManyLemmas.{append_cons, goes_on, ends, is_done, one_more}
use Rattle.pim_file.proofs.binary.items.Items.label.Goals as goal

pub returns-in_err-shown : goal.returns-in_err-shown
returns-in_err-shown c =
    let p = err_from_is_err_and c.from_residual.result c.from_residual.ensures.1 in
    rw (p.1, p.2) (ends shown_at (λ front x. front ++ x ∷ []) (λ front xs. front ++ xs) c.args.count c.loop.counter c.loop.self (take c.loop.counter c.self.inside.rest.now) _ c.in_err-shown.field-0.0 c.loop-test.true c.in_err-shown.ensures c.loop.invariant.exact)

pub loop-preserved : goal.loop-preserved
loop-preserved c =
    let bytes = c.self.inside.rest.now in
    let b = c.in_ok-shown.field-0 in
    let is = shown_is c.loop.self b c.shown.new.self c.in_ok-shown.ensures in
    let more = one_more bytes c.loop.counter b c.shown.new.self.rest (sym c.loop.invariant.rest ∙ is.0) in
    record {
      exact = rw more.1 (goes_on shown_at (λ front x. front ++ x ∷ []) (λ front xs. front ++ xs) c.args.count c.loop.counter c.loop.self (take c.loop.counter bytes) _ append_cons b c.shown.new.self c.loop-test.true c.in_ok-shown.ensures c.loop.invariant.exact);
      rest = sym more.2;
      within = omega (arith, more.0);
    }

pub returns : goal.returns
returns c =
    let whole : c.loop.counter ≡ c.args.count = omega arith in
    is_done shown_at (λ front x. front ++ x ∷ []) (λ front xs. front ++ xs) c.args.count c.loop.counter c.loop.self (take c.loop.counter c.self.inside.rest.now) _ (append-nil _) c.loop-test.false c.loop.invariant.exact ∙ ap (λ (n : ℕ). Ok (take n c.self.inside.rest.now, c.loop.self)) whole
