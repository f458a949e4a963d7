-- One more byte of a label between quotes.
use Rattle.std.proofs.Common.{◌≡◌, ℕ, true, false, eqb, List, [], ◌∷◌, ◌++◌, Option, Some, None, refl, ap, sym, ◌∙◌, append_assoc, arith, option_map}
use Rattle.std.proofs.lemmas.Bool.Decides.{nat_tests}
use Rattle.pim_asm.specs.Labels.{is_clear, unescaped, Between, Escape}

-- a byte at the end of those that were read, or at the front of those that follow
moved : (bytes : List ℕ) (b : ℕ) (o : Option (List ℕ)) → option_map (λ (more : List ℕ). (bytes ++ b ∷ []) ++ more) o ≡ option_map (λ (more : List ℕ). bytes ++ more) (option_map (λ (more : List ℕ). b ∷ more) o)
moved bytes b None = refl
moved bytes b (Some more) = ap (λ (t : List ℕ). let o : Option (List ℕ) = Some t in o) (append_assoc bytes (b ∷ []) more)

clear_no_escape : (b : ℕ) → is_clear b ≡ true → eqb b 92 ≡ false
clear_no_escape b h = grind (arith, nat_tests)

pub unescaped-clear : (b : ℕ) (text : List ℕ) → is_clear b ≡ true → unescaped Between (b ∷ text) ≡ option_map (λ (more : List ℕ). b ∷ more) (unescaped Between text)
unescaped-clear b text h =
    let plain = clear_no_escape b h in
    let clear = rw plain at h in
    rw (plain, clear) refl

pub clear_more : (bytes tail : List ℕ) (b : ℕ) → is_clear b ≡ true → option_map (λ (more : List ℕ). (bytes ++ b ∷ []) ++ more) (unescaped Between tail) ≡ option_map (λ (more : List ℕ). bytes ++ more) (unescaped Between (b ∷ tail))
clear_more bytes tail b h = moved bytes b (unescaped Between tail) ∙ ap (λ (o : Option (List ℕ)). option_map (λ (more : List ℕ). bytes ++ more) o) (sym (unescaped-clear b tail h))

pub escape_more : (bytes tail behind : List ℕ) (byte : ℕ) → unescaped Escape tail ≡ option_map (λ (more : List ℕ). byte ∷ more) (unescaped Between behind) → option_map (λ (more : List ℕ). (bytes ++ byte ∷ []) ++ more) (unescaped Between behind) ≡ option_map (λ (more : List ℕ). bytes ++ more) (unescaped Between (92 ∷ tail))
escape_more bytes tail behind byte h = moved bytes byte (unescaped Between behind) ∙ ap (λ (o : Option (List ℕ)). option_map (λ (more : List ℕ). bytes ++ more) o) (sym h)
