use Rattle.std.proofs.Common.{subst, ◌∙◌, ap, sym, inl, inr}
use Rattle.pim_top.specs.Answers.{EndsFine}
use Rattle.pim_top.proofs.Clauses.{call-accepted, call-apart, call-decided, call-done, call-file, call-memory, call-nothing, call-plain, call-read, call-usage, call-write, done-only}
use Rattle.pim_top.proofs.top.pim.Goals as goal

pub returns-clause-ends : goal.returns-clause-ends
returns-clause-ends g c = record { answer = c.obey-answer.result; ends = c.status_of.ensures; obeyed = c.obey-answer.ensures.obeys; noted = c.tell.ensures.noted }

pub returns-clause-done : goal.returns-clause-done
returns-clause-done g c = λ e. call-done _ _ c.obey-answer.result c.obey-answer.ensures.obeys (sym c.status_of.ensures ∙ e)

pub returns-clause-silent : goal.returns-clause-silent
returns-clause-silent g c = λ e. let same = done-only c.obey-answer.result _ c.tell.ensures.silent (sym c.status_of.ensures ∙ e) in ap (λ n. g.E.Sink.taken n) same

pub returns-clause-usage : goal.returns-clause-usage
returns-clause-usage g c = λ e. (call-usage _ _ c.obey-answer.result c.obey-answer.ensures.obeys (sym c.status_of.ensures ∙ e)).0

pub returns-clause-accepted : goal.returns-clause-accepted
returns-clause-accepted g c = λ u m. call-accepted _ _ c.obey-answer.result c.obey-answer.ensures.obeys (λ e. u (c.status_of.ensures ∙ e)) (λ e. m (c.status_of.ensures ∙ e))

pub returns-clause-said : goal.returns-clause-said
returns-clause-said g c = λ command plain.
    let w = c.obey-answer.ensures.said command plain in
    (w.1, λ e. call-plain _ _ c.obey-answer.result c.obey-answer.ensures.obeys w.0 (sym c.status_of.ensures ∙ e))

pub returns-clause-untouched : goal.returns-clause-untouched
returns-clause-untouched g c = λ e. (call-usage _ _ c.obey-answer.result c.obey-answer.ensures.obeys (sym c.status_of.ensures ∙ e)).1

pub returns-clause-apart : goal.returns-clause-apart
returns-clause-apart g c = λ command said. call-apart _ _ c.obey-answer.result c.obey-answer.ensures.obeys command said

pub returns-clause-read_fault : goal.returns-clause-read_fault
returns-clause-read_fault g c = λ e. call-read _ _ c.obey-answer.result c.obey-answer.ensures.obeys (sym c.status_of.ensures ∙ e)

pub returns-clause-write_fault : goal.returns-clause-write_fault
returns-clause-write_fault g c = λ e. call-write _ _ c.obey-answer.result c.obey-answer.ensures.obeys (sym c.status_of.ensures ∙ e)

pub returns-clause-file_decided : goal.returns-clause-file_decided
returns-clause-file_decided g c = λ command file said accepted told calm.
    elim (call-file _ _ c.obey-answer.result c.obey-answer.ensures.obeys command file said accepted told calm) [
      | inl fine ↦ inl fine
      | inr (inl d) ↦ inr (inl (record { refusal = d.refusal; decided = d.decided; ends = c.status_of.ensures ∙ d.ends }))
      | inr (inr m) ↦ inr (inr (c.status_of.ensures ∙ m))
    ]

pub returns-clause-decided : goal.returns-clause-decided
returns-clause-decided g c = λ command file bytes said accepted told_file told_bytes calm.
    elim (call-decided _ _ c.obey-answer.result c.obey-answer.ensures.obeys command file bytes said accepted told_file told_bytes calm) [
      | inl d ↦ inl (record { answer = d.answer; decided = d.decided; ends = c.status_of.ensures ∙ d.ends })
      | inr m ↦ inr (c.status_of.ensures ∙ m)
    ]

pub returns-clause-complete : goal.returns-clause-complete
returns-clause-complete g c = λ command file bytes said accepted told_file told_bytes calm fine.
    elim ((c.obey-answer.ensures.complete command said accepted).ends file bytes told_file told_bytes calm fine) [
      | inl d ↦ inl (subst (EndsFine command) (sym c.status_of.ensures) d)
      | inr m ↦ inr (c.status_of.ensures ∙ m)
    ]

pub returns-clause-nothing : goal.returns-clause-nothing
returns-clause-nothing g c = λ command said not d w.
    call-nothing _ _ c.obey-answer.result c.obey-answer.ensures.obeys command said not (λ e. d (c.status_of.ensures ∙ e)) (λ e. w (c.status_of.ensures ∙ e))

pub returns-clause-no_late_memory : goal.returns-clause-no_late_memory
returns-clause-no_late_memory g c = λ command said rows e. call-memory _ _ c.obey-answer.result c.obey-answer.ensures.obeys command said rows (sym c.status_of.ensures ∙ e)
