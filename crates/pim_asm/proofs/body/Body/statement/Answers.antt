use Rattle.std.proofs.Common.{◌≡◌, ℕ, List, Some, None, Result, Err, inr, ap, sym, ◌∙◌, cond, option_map}
use Rattle.pim_asm.specs.declared.fault.AsmFault.{AsmFault}
use Rattle.pim_asm.specs.Assembly.{Body, done}
use Rattle.pim_asm.specs.Names.{known_cell}
use Rattle.pim_asm.specs.Statements.{statement_of}
use Rattle.pim_asm.specs.Words.{words}
use Rattle.pim_asm.specs.inner.StatementViews.{statement_view}
use Rattle.pim_asm.proofs.BodyLemmas.{missed_is, done_is}
use Rattle.pim_asm.proofs.body.Body.statement.Goals as goal

pub returns-in_default : goal.returns-in_default
returns-in_default c =
    let b = c.args.self.now in
    let word = c.args.word.now in
    let ws = words c.args.text.now in
    let names : c.self.inside.names ≡ b.names = ap (λ (body : Body). body.names) c.self.view_is in
    let none : statement_of (known_cell b.names) word ws ≡ None = ap (λ (ns : List (List ℕ × ℕ)). statement_of (known_cell ns) word ws) (sym names) ∙ sym c.in_ok-statement.ensures ∙ ap (λ o. option_map statement_view o) c.in_default.is in
    inr (missed_is b c.args.number word ws none ∙ ap (λ (fault : AsmFault). let r : Result Body AsmFault = Err fault in r) (sym c.in_ok-missed.ensures))

pub returns : goal.returns
returns c =
    let b = c.args.self.now in
    let word = c.args.word.now in
    let ws = words c.args.text.now in
    let s = statement_view c.in-Some.statement in
    let names : c.self.inside.names ≡ b.names = ap (λ (body : Body). body.names) c.self.view_is in
    let some : statement_of (known_cell b.names) word ws ≡ Some s = ap (λ (ns : List (List ℕ × ℕ)). statement_of (known_cell ns) word ws) (sym names) ∙ sym c.in_ok-statement.ensures ∙ ap (λ o. option_map statement_view o) c.in-Some.is in
    let may : done b s ≡ Some c.take.new.self = c.in_ok-take.ensures ∙ ap (λ t. cond t (Some c.take.new.self) None) c.if-not-branch.false in
    done_is b c.args.number word ws s c.take.new.self some may
