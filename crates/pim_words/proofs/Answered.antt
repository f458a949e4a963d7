-- What the answer of `clap` says of a command line that reads as another does.
use Rattle.std.proofs.Common.{◌≡◌, ◌∙◌, ◌∷◌, List, [], ap, inl, inr, rules, subst, sym, true}
use Rattle.clap.specs.Faults.{fault_of, is_simple_and_free}
use Rattle.clap.specs.Kinds.{HasKind, Kinds}
use Rattle.clap.specs.Matches.{first_value, found_of, one_text}
use Rattle.clap.specs.Simple.{App, HasMatchesOf, matches_of}
use Rattle.clap.specs.Walk.{Text, first_of, is_empty, one_of, rows_of}
use Rattle.clap.specs.declared.error.Error.{Error}
use Rattle.clap.specs.declared.parser.matches.ArgMatches.{ArgMatches}
use Rattle.clap.proofs.WalkLemmas.{both, first_value-rows, one_text-rows}
use Rattle.pim_words.specs.Reading.{KnownCommand, IsWithin, ReadsAlike, refuses}
use Rattle.pim_words.specs.inner.Answer.{IsReading}
use Rattle.pim_words.specs.Refusal.{IsFaultOf}
use Rattle.pim_words.specs.declared.command.Command.{Command}
use Rattle.pim_words.specs.declared.fault.WordsFault.{WordsFault}
use Rattle.pim_words.specs.declared.fault.WordsFault.TheVariants.{NoMemory, Usage}
use Rattle.std.specs.Prelude.{Err, IsErrAnd, Ok, Result, Some, not}

kinds_there : (kinds : Kinds) (e : Error) → HasKind kinds e → IsFaultOf e Usage → not (is_empty kinds) ≡ true
kinds_there [] e has fault = elim has [
  | inl memory ↦ let bad : Usage ≡ NoMemory = fault.0 memory in cc
  | inr none ↦ absurd none
]
kinds_there (k ∷ ks) e has fault = search rules

-- an error that is called a refusal is one
pub refused : (a b : App) (words : List Text) (e : Error) → ReadsAlike a b → (is_simple_and_free a ≡ true → HasKind (fault_of a words) e)
    → IsFaultOf e Usage → refuses words b ≡ true
refused a b words e alike fails fault =
    ap (λ k. not (is_empty k)) (sym (alike.faults words)) ∙ kinds_there (fault_of a words) e (fails alike.simple) fault

-- the matches are those of the other
pub rows_alike : (a b : App) (words : List Text) (m : ArgMatches) → ReadsAlike a b → HasMatchesOf a words m → rows_of (found_of m) ≡ matches_of b words
rows_alike a b words m alike has = (has (both _ _ alike.simple).0).0 ∙ alike.matches words

pub one_alike : (a b : App) (words : List Text) (m : ArgMatches) (id : Text) → ReadsAlike a b → HasMatchesOf a words m
    → one_of id (matches_of b words) ≡ one_text (found_of m) id
one_alike a b words m id alike has = ap (one_of id) (sym (rows_alike a b words m alike has)) ∙ sym (one_text-rows (found_of m) id)

pub first_alike : (a b : App) (words : List Text) (m : ArgMatches) (id : Text) → ReadsAlike a b → HasMatchesOf a words m
    → first_of id (matches_of b words) ≡ first_value (found_of m) id
first_alike a b words m id alike has = ap (first_of id) (sym (rows_alike a b words m alike has)) ∙ sym (first_value-rows (found_of m) id)

-- an error of `clap` is an answer
pub error_read : (b : KnownCommand) (a : App) (words : List Text) (e : Error) (r : Result Command WordsFault) → ReadsAlike a b.line
    → (is_simple_and_free a ≡ true → HasKind (fault_of a words) e) → IsErrAnd r (IsFaultOf e) → IsReading b words r
error_read b a words e (Ok c) alike fails fault = absurd fault
error_read b a words e (Err f) alike fails fault = record {
  usage = λ is. refused a b.line words e alike fails (let same : f ≡ Usage = cc in subst (IsFaultOf e) same fault);
  accepted = tt;
  value = tt;
  within = tt;
}

-- a fault that goes up is an answer
pub fault_read : (b : KnownCommand) (words : List Text) (fault : WordsFault) (r : Result Command WordsFault) → (fault ≡ Usage → refuses words b.line ≡ true)
    → IsErrAnd r (λ f. f ≡ fault) → IsReading b words r
fault_read b words fault (Ok c) usage same = absurd same
fault_read b words fault (Err f) usage same = record {
  usage = λ is. usage (let here : f ≡ Usage = cc in sym same ∙ here);
  accepted = tt;
  value = tt;
  within = tt;
}

-- what the matches of `clap` say is an answer
pub matches_read : (b : KnownCommand) (a : App) (words : List Text) (c : Command) → ReadsAlike a b.line → (is_simple_and_free a ≡ true → fault_of a words ≡ [])
    → b.said (matches_of b.line words) ≡ Some c → IsWithin c → IsReading b words (Ok c)
matches_read b a words c alike passes said within = record {
  usage = λ is. cc;
  accepted = ap (λ k. not (is_empty k)) (sym (alike.faults words) ∙ passes alike.simple);
  value = said;
  within = within;
}
