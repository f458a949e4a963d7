-- What is kept of a binary program file while it is read, and that it ends as the definition says.
use Rattle.std.proofs.Common.{◌≡◌, ℕ, Bool, true, false, cond, ltb, List, [], ◌∷◌, Option, Some, None, Result, Ok, Err, refl, ap, sym, ◌∙◌, append_assoc, drop, subst, length, ◌≤◌}
use Rattle.pim_io.specs.declared.limits.TheConstants.{MAX_PROGRAM}
use Rattle.std.specs.Option.{ok_or}
use Rattle.std.proofs.lemmas.List.{append-nil}
use Rattle.pim_io.specs.Readings.{◌>>=◌}
use Rattle.pim_isa.specs.declared.target.Target.{Target}
use Rattle.pim_isa.specs.declared.port.Port.{Port}
use Rattle.pim_isa.specs.declared.instr.Instr.{Instr}
use Rattle.pim_isa.specs.declared.draft.TheConstants.{MAX_CELLS}
use Rattle.pim_isa.specs.Programs.{ProgramView}
use Rattle.pim_file.specs.declared.fault.FileFault.{FileFault}
use Rattle.pim_file.specs.declared.fault.FileFault.TheVariants as faults
use Rattle.pim_file.specs.inner.Kept.{begun, with_input, with_output, with_instr, within_limit}
use Rattle.pim_text.specs.Parts.{HasFewParts}
use Rattle.pim_text.specs.ProgramTexts.{program_parts}
use Rattle.pim_file.specs.ProgramFile.{sized, validated}
use Rattle.pim_file.specs.Items.{Cursor, number_at, counted}
use Rattle.pim_file.specs.BinaryReading.{target_at, port_at, instr_at, draft_at, closed_at, is_binary, draft2_of, parse2_of}
use Rattle.pim_file.proofs.ItemLemmas.{bind_ok, ok_is}
use Rattle.pim_file.proofs.BinaryLemmas.{draft2_is, small_form}
use Rattle.pim_file.specs.inner.BinaryKept.{with_inputs, with_outputs, with_instrs, kept_with, kept_at, draft_within_limit, program2_within_limit}

-- nothing more, and one more

pub no_inputs : (o : Option ProgramView) → with_inputs o [] ≡ o
no_inputs None = refl
no_inputs (Some d) = ap (λ (xs : List Port). Some (record d { inputs = xs })) (append-nil d.inputs)

pub more_inputs : (o : Option ProgramView) (x : Port) (xs : List Port) → with_inputs o (x ∷ xs) ≡ with_inputs (with_input o x) xs
more_inputs None x xs = refl
more_inputs (Some d) x xs = ap (λ (ys : List Port). Some (record d { inputs = ys })) (sym (append_assoc d.inputs (x ∷ []) xs))

pub no_outputs : (o : Option ProgramView) → with_outputs o [] ≡ o
no_outputs None = refl
no_outputs (Some d) = ap (λ (xs : List Port). Some (record d { outputs = xs })) (append-nil d.outputs)

pub more_outputs : (o : Option ProgramView) (x : Port) (xs : List Port) → with_outputs o (x ∷ xs) ≡ with_outputs (with_output o x) xs
more_outputs None x xs = refl
more_outputs (Some d) x xs = ap (λ (ys : List Port). Some (record d { outputs = ys })) (sym (append_assoc d.outputs (x ∷ []) xs))

pub no_instrs : (o : Option ProgramView) → with_instrs o [] ≡ o
no_instrs None = refl
no_instrs (Some d) = ap (λ (xs : List Instr). Some (record d { instrs = xs })) (append-nil d.instrs)

pub more_instrs : (o : Option ProgramView) (x : Instr) (xs : List Instr) → with_instrs o (x ∷ xs) ≡ with_instrs (with_instr o x) xs
more_instrs None x xs = refl
more_instrs (Some d) x xs = ap (λ (ys : List Instr). Some (record d { instrs = ys })) (sym (append_assoc d.instrs (x ∷ []) xs))

-- the whole: a draft that is too large is dropped when it begins, or judged at the end

abbrev whole_draft : Target → ℕ → List Port → List Port → List Instr → ProgramView
whole_draft target cells inputs outputs instrs = record { target = target; cells = cells; inputs = inputs; outputs = outputs; instrs = instrs }

abbrev kept_end : Result (Option ProgramView × Cursor) FileFault → Result ProgramView FileFault
kept_end reading = reading >>= λ kept. closed_at kept.0 kept.1.place kept.1.rest >>= λ draft. ok_or draft faults.TooLarge

abbrev judged_end : Result (ProgramView × Cursor) FileFault → Result ProgramView FileFault
judged_end reading = (reading >>= λ draft. closed_at draft.0 draft.1.place draft.1.rest) >>= sized

size_kept : (large : Bool) (target : Target) (cells : ℕ) (i o : List Port) (k : List Instr) → ok_or (with_instrs (with_outputs (with_inputs (cond large None (Some (begun target cells))) i) o) k) faults.TooLarge ≡ cond large (Err faults.TooLarge) (Ok (whole_draft target cells i o k))
size_kept true target cells i o k = refl
size_kept false target cells i o k = refl

end_kept : (target : Target) (cells : ℕ) (i o : List Port) (k : List Instr) (place : ℕ) (rest : List ℕ) → kept_end (Ok (with_instrs (with_outputs (with_inputs (within_limit (begun target cells)) i) o) k, record { place = place; rest = rest })) ≡ judged_end (Ok (whole_draft target cells i o k, record { place = place; rest = rest }))
end_kept target cells i o k place [] = size_kept (ltb MAX_CELLS cells) target cells i o k
end_kept target cells i o k place (b ∷ rest) = refl

instrs_kept : (target : Target) (cells : ℕ) (i o : List Port) (r : Result (List Instr × Cursor) FileFault) → kept_end (kept_with with_instrs (with_outputs (with_inputs (within_limit (begun target cells)) i) o) r) ≡ judged_end (r >>= λ k. Ok (whole_draft target cells i o k.0, k.1))
instrs_kept target cells i o (Ok k) = end_kept target cells i o k.0 k.1.place k.1.rest
instrs_kept target cells i o (Err fault) = refl

outputs_kept : (target : Target) (cells : ℕ) (i : List Port) (r : Result (List Port × Cursor) FileFault) → kept_end (kept_with with_outputs (with_inputs (within_limit (begun target cells)) i) r >>= λ o. kept_with with_instrs o.0 (counted instr_at o.1)) ≡ judged_end (r >>= λ o. counted instr_at o.1 >>= λ k. Ok (whole_draft target cells i o.0 k.0, k.1))
outputs_kept target cells i (Ok o) = instrs_kept target cells i o.0 (counted instr_at o.1)
outputs_kept target cells i (Err fault) = refl

inputs_kept : (target : Target) (cells : ℕ) (r : Result (List Port × Cursor) FileFault) → kept_end (kept_with with_inputs (within_limit (begun target cells)) r >>= λ i. kept_with with_outputs i.0 (counted port_at i.1) >>= λ o. kept_with with_instrs o.0 (counted instr_at o.1)) ≡ judged_end (r >>= λ i. counted port_at i.1 >>= λ o. counted instr_at o.1 >>= λ k. Ok (whole_draft target cells i.0 o.0 k.0, k.1))
inputs_kept target cells (Ok i) = outputs_kept target cells i.0 (counted port_at i.1)
inputs_kept target cells (Err fault) = refl

cells_kept : (target : Target) (r : Result (ℕ × Cursor) FileFault) → kept_end (r >>= λ n. kept_with with_inputs (within_limit (begun target n.0)) (counted port_at n.1) >>= λ i. kept_with with_outputs i.0 (counted port_at i.1) >>= λ o. kept_with with_instrs o.0 (counted instr_at o.1)) ≡ judged_end (r >>= λ n. counted port_at n.1 >>= λ i. counted port_at i.1 >>= λ o. counted instr_at o.1 >>= λ k. Ok (whole_draft target n.0 i.0 o.0 k.0, k.1))
cells_kept target (Ok n) = inputs_kept target n.0 (counted port_at n.1)
cells_kept target (Err fault) = refl

target_kept : (r : Result (Target × Cursor) FileFault) → kept_end (r >>= λ t. number_at t.1 >>= λ n. kept_with with_inputs (within_limit (begun t.0 n.0)) (counted port_at n.1) >>= λ i. kept_with with_outputs i.0 (counted port_at i.1) >>= λ o. kept_with with_instrs o.0 (counted instr_at o.1)) ≡ judged_end (r >>= λ t. number_at t.1 >>= λ n. counted port_at n.1 >>= λ i. counted port_at i.1 >>= λ o. counted instr_at o.1 >>= λ k. Ok (whole_draft t.0 n.0 i.0 o.0 k.0, k.1))
target_kept (Ok t) = cells_kept t.0 (number_at t.1)
target_kept (Err fault) = refl

pub draft2_kept : (bytes : List ℕ) → draft_within_limit bytes ≡ (draft2_of bytes >>= sized)
unfolding draft_within_limit kept_at draft2_of draft_at
draft2_kept bytes = target_kept (target_at (record { place = 5; rest = drop 5 bytes }))

pub parse2_of-kept : (bytes : List ℕ) → parse2_of bytes ≡ program2_within_limit bytes
unfolding parse2_of
parse2_of-kept bytes = ap (λ (r : Result ProgramView FileFault). r >>= validated) (sym (draft2_kept bytes))

-- what is kept to the end has few parts

pub size_cases : (large : Bool) (d e : ProgramView) → cond large (Err faults.TooLarge) (Ok d) ≡ Ok e → d ≡ e
size_cases true d e h = absurd cc
size_cases false d e h = ok_is d e h

pub kept_draft_is : (bytes : List ℕ) (d : ProgramView) → draft_within_limit bytes ≡ Ok d → draft2_of bytes ≡ Ok d
kept_draft_is bytes d e =
    let b = bind_ok (draft2_of bytes) sized d (sym (draft2_kept bytes) ∙ e) in
    b.1 ∙ ap (λ (x : ProgramView). let r : Result ProgramView FileFault = Ok x in r) (size_cases (ltb MAX_CELLS b.0.cells) b.0 d b.2)

pub kept_is_small : (bytes : List ℕ) (d : ProgramView) → is_binary bytes ≡ true → length bytes ≤ MAX_PROGRAM → draft_within_limit bytes ≡ Ok d → HasFewParts (program_parts d)
kept_is_small bytes d tagged short e =
    let form = draft2_is bytes d tagged (kept_draft_is bytes d e) in
    small_form d form.1 (subst (λ (t : List ℕ). length t ≤ MAX_PROGRAM) form.0 short)
