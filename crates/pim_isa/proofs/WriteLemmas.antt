-- What instructions that follow one another write and give.
use Rattle.std.proofs.Common.{◌≡◌, ℕ, ◌+◌, Bool, true, false, cond, List, [], ◌∷◌, ◌++◌, length, Option, Some, None, refl, ap, ◌∙◌, arith}
use Rattle.std.specs.Option.{option_map, option_or}
use Rattle.std.proofs.lemmas.List.{length-set}
use Rattle.pim_isa.specs.declared.instr.Instr.{Instr}
use Rattle.pim_isa.specs.declared.instr.Instr.TheVariants.{Init, Nor, Rm3}
use Rattle.pim_isa.specs.Laws.{ExecLaws, WriteLaws}
use Rattle.pim_isa.specs.Programs.{ProgramView}
use Rattle.pim_isa.specs.Realizes.{Realizes}
use Rattle.pim_isa.specs.Steps.{set_ones, step, exec}
use Rattle.pim_isa.specs.Touches.{writes}
use Rattle.pim_isa.specs.Validity.{has}
use Rattle.pim_isa.specs.Writes.{is_nor, last_write, nor_places, nor_places_from}
use Rattle.pim_isa.proofs.PrimedLemmas.{last_write_is_init-append, IsPrimed-push}
use Rattle.pim_isa.proofs.StepLemmas.{set_ones_there, exec_elsewhere, nor_there}

length-set_ones : (cells : List ℕ) (m : List Bool) → length (set_ones cells m) ≡ length m
length-set_ones [] m = refl
length-set_ones (c ∷ cs) m = length-set_ones cs _ ∙ length-set m c true

length-step : (m : List Bool) (i : Instr) → length (step m i) ≡ length m
length-step m (Init cells) = length-set_ones cells m
length-step m (Nor t ins) = length-set m t _
length-step m (Rm3 p q z) = length-set m z _

length-exec : (is : List Instr) (m : List Bool) → length (exec is m) ≡ length m
length-exec [] m = refl
length-exec (i ∷ is) m = length-exec is (step m i) ∙ length-step m i

exec-append : (is js : List Instr) (m : List Bool) → exec (is ++ js) m ≡ exec js (exec is m)
exec-append [] js m = refl
exec-append (i ∷ is) js m = exec-append is js (step m i)

-- a choice between this place and an earlier one, moved on by one place
moved : (b : Bool) (n : ℕ) (rest first : Option ℕ) →
    option_or (option_map (λ (k : ℕ). k + 1) (cond b (Some n) rest)) first
    ≡ cond b (Some (n + 1)) (option_or (option_map (λ (k : ℕ). k + 1) rest) first)
moved true n rest first = refl
moved false n rest first = refl

-- one instruction more is the last write of what it writes
last_write-push : (is : List Instr) (i : Instr) (c : ℕ) →
    last_write (is ++ i ∷ []) c ≡ cond (has c (writes i)) (Some (length is)) (last_write is c)
last_write-push [] i c = refl
last_write-push (j ∷ is) i c =
    ap (λ (o : Option ℕ). option_or (option_map (λ (k : ℕ). k + 1) o) (cond (has c (writes j)) (Some 0) None)) (last_write-push is i c)
    ∙ moved (has c (writes i)) (length is) (last_write is c) _
    ∙ ap (λ (n : ℕ). cond (has c (writes i)) (Some n) (last_write (j ∷ is) c)) (omega arith)

put_first : (b : Bool) (k : ℕ) (xs ys : List ℕ) → cond b (k ∷ (xs ++ ys)) (xs ++ ys) ≡ cond b (k ∷ xs) xs ++ ys
put_first true k xs ys = refl
put_first false k xs ys = refl

nor_places_from-push : (k : ℕ) (is : List Instr) (i : Instr) →
    nor_places_from k (is ++ i ∷ []) ≡ nor_places_from k is ++ cond (is_nor i) ((k + length is) ∷ []) []
nor_places_from-push k [] i = ap (λ (n : ℕ). cond (is_nor i) (n ∷ []) []) (omega arith)
nor_places_from-push k (j ∷ is) i =
    let rest : nor_places_from (k + 1) (is ++ i ∷ []) ≡ nor_places_from (k + 1) is ++ cond (is_nor i) ((k + length (j ∷ is)) ∷ []) [] =
    nor_places_from-push (k + 1) is i ∙ ap (λ (n : ℕ). nor_places_from (k + 1) is ++ cond (is_nor i) (n ∷ []) []) (omega arith) in
    ap (λ (xs : List ℕ). cond (is_nor j) (k ∷ xs) xs) rest ∙ put_first (is_nor j) k (nor_places_from (k + 1) is) _

pub exec_laws : ExecLaws
exec_laws = record {
  keeps_length = length-exec;
  keeps_others = exec_elsewhere;
  append = exec-append;
  init_sets = set_ones_there;
  nor_gives = nor_there;
}

pub write_laws : WriteLaws
write_laws = record {
  last_write_push = last_write-push;
  init_append = last_write_is_init-append;
  nors_push = λ is i. nor_places_from-push 0 is i ∙ ap (λ (n : ℕ). nor_places is ++ cond (is_nor i) (n ∷ []) []) (omega arith);
  primed_push = IsPrimed-push;
}

-- a function that agrees on as many bits as inputs is realized too
pub Realizes-same : (p : ProgramView) (labels : List (List ℕ)) (f g : List Bool → List Bool) → Realizes p labels f →
    ((bits : List Bool) → length bits ≡ length labels → f bits ≡ g bits) → Realizes p labels g
Realizes-same p labels f g r same = record {
  inputs = r.inputs;
  keeps_inputs = r.keeps_inputs;
  gives_outputs = λ m bits many fits begins. r.gives_outputs m bits many fits begins ∙ same bits many;
  keeps_length = r.keeps_length;
  keeps_others = r.keeps_others;
}
