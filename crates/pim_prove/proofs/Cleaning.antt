-- Clean programs, by the first use of a cell that isn't set.
use Rattle.std.proofs.Common.{◌≡◌, ℕ, zero, suc, ◌+◌, Bool, true, List, [], ◌∷◌, length, take, Option, Some, None, inl, inr, refl, sym, ap, subst, ◌∙◌}
use Rattle.std.specs.Prelude.{◌↔◌, All, IsNone, slice_get, option_map}
use Rattle.std.specs.List.{list_any}
use Rattle.std.specs.Option.{option_or}
use Rattle.std.proofs.lemmas.Bool.{cases_Bool, true≢false}
use Rattle.std.proofs.lemmas.List.Elements.{All-head, All-tail, All-cons, All-nil, All-weaker}
use Rattle.pim_isa.specs.declared.instr.Instr.{Instr}
use Rattle.pim_isa.specs.Programs.{ProgramView}
use Rattle.pim_isa.specs.Sound.{cells_of}
use Rattle.pim_isa.specs.Touches.{writes}
use Rattle.pim_isa.specs.Validity.{has}
use Rattle.pim_prove.specs.declared.unset.Unset.{Unset}
use Rattle.pim_prove.specs.declared.unset.Unset.TheVariants.{Used, Output}
use Rattle.pim_prove.specs.Clean.{IsClean, first_unset_of, first_unset_output, unset_of, uses}
use Rattle.pim_prove.specs.inner.Marks.{set_after, unset_from}
use Rattle.pim_prove.proofs.Cells.{AllSet}
use Rattle.pim_prove.proofs.Places.{input_set, or_assoc, or_none, set_by, unset_by_places}
use Rattle.pim_prove.proofs.Steadiness.{CleanFrom}

-- ---- no cell is found

none_of_all : (set : ℕ → Bool) (cs : List ℕ) → AllSet set cs → first_unset_of set cs ≡ None
none_of_all set [] all = refl
none_of_all set (c ∷ cs) all = rw all.0 (none_of_all set cs all.1)

all_of_none : (set : ℕ → Bool) (cs : List ℕ) → first_unset_of set cs ≡ None → AllSet set cs
all_of_none set [] none = tt
all_of_none set (c ∷ cs) none =
    elim (cases_Bool (set c)) [
      | inl is ↦ (is, all_of_none set cs (rw is at none))
      | inr isnt ↦ let wrong : Some c ≡ None = rw isnt at none in cc
    ]

no_output_of_all : (set : ℕ → Bool) (k : ℕ) (cs : List ℕ) → AllSet set cs → first_unset_output set k cs ≡ None
no_output_of_all set k [] all = refl
no_output_of_all set k (c ∷ cs) all = rw all.0 (no_output_of_all set (k + 1) cs all.1)

all_of_no_output : (set : ℕ → Bool) (k : ℕ) (cs : List ℕ) → first_unset_output set k cs ≡ None → AllSet set cs
all_of_no_output set k [] none = tt
all_of_no_output set k (c ∷ cs) none =
    elim (cases_Bool (set c)) [
      | inl is ↦ (is, all_of_no_output set (k + 1) cs (rw is at none))
      | inr isnt ↦ let wrong : Some k ≡ None = rw isnt at none in cc
    ]

map_none : {A B : Type 0} (f : A → B) (o : Option A) → option_map f o ≡ None → o ≡ None
map_none f None none = refl
map_none f (Some x) none = cc

or_none_left : {A : Type 0} (a b : Option A) → option_or a b ≡ None → a ≡ None
or_none_left None b none = refl
or_none_left (Some x) b none = cc

or_none_right : {A : Type 0} (a b : Option A) → option_or a b ≡ None → b ≡ None
or_none_right None b none = none
or_none_right (Some x) b none = cc

-- ---- read from the front

pub clean_of_none : (set : ℕ → Bool) (k : ℕ) (is : List Instr) (outputs : List ℕ) → unset_from set k is outputs ≡ None → CleanFrom set is outputs
clean_of_none set k [] outputs none = all_of_no_output set 0 outputs (map_none (λ n. Output n) (first_unset_output set 0 outputs) none)
clean_of_none set k (i ∷ is) outputs none =
    let here = option_map (λ c. Used k c) (first_unset_of set (uses i)) in
    let later = unset_from (set_after set i) (k + 1) is outputs in (
      all_of_none set (uses i) (map_none (λ c. Used k c) (first_unset_of set (uses i)) (or_none_left here later none)),
      clean_of_none (set_after set i) (k + 1) is outputs (or_none_right here later none),
    )

none_of_clean : (set : ℕ → Bool) (k : ℕ) (is : List Instr) (outputs : List ℕ) → CleanFrom set is outputs → unset_from set k is outputs ≡ None
none_of_clean set k [] outputs clean = rw (no_output_of_all set 0 outputs clean) refl
none_of_clean set k (i ∷ is) outputs clean =
    rw (none_of_all set (uses i) clean.0) (none_of_clean (set_after set i) (k + 1) is outputs clean.1)

-- ---- place by place

-- each cell that an instruction uses is set before it, and each of these cells at the end
pub record IsCleanIn (set : ℕ → Bool) (is : List Instr) (cells : List ℕ) : Type 0 where
  pub used : (k : ℕ) (i : Instr) → slice_get is k ≡ Some i → All (λ c. set_by set (take k is) c ≡ true) (uses i)
  pub outputs : All (λ c. set_by set is c ≡ true) cells

-- setting by one instruction and then by others
set_by_more : (set : ℕ → Bool) (i : Instr) (is : List Instr) (c : ℕ) → set_by (set_after set i) is c ≡ set_by set (i ∷ is) c
set_by_more set i is c = or_assoc (set c) (has c (writes i)) (list_any (λ j. has c (writes j)) is)

all_from : (set : ℕ → Bool) (cs : List ℕ) → AllSet set cs → All (λ c. set c ≡ true) cs
all_from set [] all = All-nil (λ c. set c ≡ true)
all_from set (c ∷ cs) all = All-cons (λ c. set c ≡ true) c cs all.0 (all_from set cs all.1)

from_all : (set : ℕ → Bool) (cs : List ℕ) → All (λ c. set c ≡ true) cs → AllSet set cs
from_all set [] all = tt
from_all set (c ∷ cs) all = (All-head (λ c. set c ≡ true) c cs all, from_all set cs (All-tail (λ c. set c ≡ true) c cs all))

all_same : (f g : ℕ → Bool) (cs : List ℕ) → ((c : ℕ) → f c ≡ g c) → All (λ c. f c ≡ true) cs → All (λ c. g c ≡ true) cs
all_same f g cs same all = All-weaker (λ c. f c ≡ true) (λ c. g c ≡ true) (λ c is. sym (same c) ∙ is) cs all

clean_in : (set : ℕ → Bool) (is : List Instr) (outputs : List ℕ) → CleanFrom set is outputs → IsCleanIn set is outputs
clean_in set [] outputs clean = record {
  used = λ k i is. cc;
  outputs = all_same set (set_by set []) outputs (λ c. sym (or_none (set c))) (all_from set outputs clean);
}
clean_in set (i ∷ is) outputs clean =
    let rest = clean_in (set_after set i) is outputs clean.1 in
    record {
      used = used_in set i is clean.0 rest.used;
      outputs = all_same (set_by (set_after set i) is) (set_by set (i ∷ is)) outputs (set_by_more set i is) rest.outputs;
    }
  where
    used_in : (set : ℕ → Bool) (i : Instr) (is : List Instr) → AllSet set (uses i) →
        ((k : ℕ) (j : Instr) → slice_get is k ≡ Some j → All (λ c. set_by (set_after set i) (take k is) c ≡ true) (uses j)) →
        (k : ℕ) (j : Instr) → slice_get (i ∷ is) k ≡ Some j → All (λ c. set_by set (take k (i ∷ is)) c ≡ true) (uses j)
    used_in set i is here later zero j at =
        let same : i ≡ j = cc in
        let P : Instr → Type 0 = λ x. All (λ c. set_by set [] c ≡ true) (uses x) in
        subst P same (all_same set (set_by set []) (uses i) (λ c. sym (or_none (set c))) (all_from set (uses i) here))
    used_in set i is here later (suc k) j at =
        all_same (set_by (set_after set i) (take k is)) (set_by set (i ∷ take k is)) (uses j) (set_by_more set i (take k is)) (later k j at)

clean_from : (set : ℕ → Bool) (is : List Instr) (outputs : List ℕ) → IsCleanIn set is outputs → CleanFrom set is outputs
clean_from set [] outputs clean = from_all set outputs (all_same (set_by set []) set outputs (λ c. or_none (set c)) clean.outputs)
clean_from set (i ∷ is) outputs clean = (
  from_all set (uses i) (all_same (set_by set []) set (uses i) (λ c. or_none (set c)) (clean.used 0 i refl)),
  clean_from (set_after set i) is outputs (record {
    used = λ k j at. all_same (set_by set (i ∷ take k is)) (set_by (set_after set i) (take k is)) (uses j) (λ c. sym (set_by_more set i (take k is) c)) (clean.used (suc k) j at);
    outputs = all_same (set_by set (i ∷ is)) (set_by (set_after set i) is) outputs (λ c. sym (set_by_more set i is c)) clean.outputs;
  }),
)

-- ---- a program

-- all of a list
take_whole : (is : List Instr) → take (length is) is ≡ is
take_whole [] = refl
take_whole (i ∷ is) = ap (λ js. i ∷ js) (take_whole is)

pub clean_front : (p : ProgramView) → IsClean p → CleanFrom (input_set p) p.instrs (cells_of p.outputs)
clean_front p clean =
    clean_from (input_set p) p.instrs (cells_of p.outputs) (record {
      used = clean.used;
      outputs = subst (λ (is : List Instr). All (λ c. set_by (input_set p) is c ≡ true) (cells_of p.outputs)) (take_whole p.instrs) clean.outputs;
    })

pub unset_of_clean : (p : ProgramView) → IsClean p → unset_of p ≡ None
unset_of_clean p clean = sym (unset_by_places p) ∙ none_of_clean (input_set p) 0 p.instrs (cells_of p.outputs) (clean_front p clean)

pub clean_of_unset : (p : ProgramView) → unset_of p ≡ None → IsClean p
clean_of_unset p none =
    let clean = clean_in (input_set p) p.instrs (cells_of p.outputs) (clean_of_none (input_set p) 0 p.instrs (cells_of p.outputs) (unset_by_places p ∙ none)) in
    record {
      used = clean.used;
      outputs = subst (λ (is : List Instr). All (λ c. set_by (input_set p) is c ≡ true) (cells_of p.outputs)) (sym (take_whole p.instrs)) clean.outputs;
    }

pub none_iff : (p : ProgramView) (unset : Option Unset) → unset ≡ unset_of p → IsNone unset ↔ IsClean p
none_iff p None is = (λ none. clean_of_unset p (sym is), λ clean. refl)
none_iff p (Some x) is = (λ none. absurd (true≢false none), λ clean. let wrong : Some x ≡ None = is ∙ unset_of_clean p clean in cc)
