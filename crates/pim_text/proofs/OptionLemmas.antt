-- Options and results, one after another.
use Rattle.std.proofs.Common.{◌≡◌, Bool, true, false, cond, ◌||◌, Option, Some, None, Result, Ok, Err, refl, ap, ◌⊎◌, inl, inr}
use Rattle.std.specs.Option.{option_map, option_and_then, option_or, ok_or}
use Rattle.pim_io.specs.Readings.{◌>>=◌}

abbrev there : {A : Type 0} → A → Option A
there x = Some x

pub some_is : {A : Type 0} (x y : A) → there x ≡ there y → x ≡ y
some_is x y e = cc

pub bind_some : {A B : Type 0} (o : Option A) (f : A → Option B) (y : B) → option_and_then f o ≡ Some y → (x : A) × (o ≡ Some x) × (f x ≡ Some y)
bind_some None f y e = absurd cc
bind_some (Some x) f y e = (x, refl, e)

pub mapped : {A B : Type 0} (f : A → B) (o : Option A) (y : B) → option_map f o ≡ Some y → (x : A) × (o ≡ Some x) × (f x ≡ y)
mapped f None y e = absurd cc
mapped f (Some x) y e = (x, refl, some_is (f x) y e)

-- the first of two options, or the second
pub or_is : {A : Type 0} (a b : Option A) (y : A) → option_or a b ≡ Some y → (a ≡ Some y) ⊎ (b ≡ Some y)
or_is None b y e = inr e
or_is (Some x) b y e = inl e

abbrev done : {A E : Type 0} → A → Result A E
done x = Ok x

pub ok_is : {A E : Type 0} (x y : A) → done {E = E} x ≡ done y → x ≡ y
ok_is x y e = cc

pub bind_ok : {A B E : Type 0} (r : Result A E) (f : A → Result B E) (y : B) → (r >>= f) ≡ Ok y → (x : A) × (r ≡ Ok x) × (f x ≡ Ok y)
bind_ok (Ok x) f y e = (x, refl, e)
bind_ok (Err fault) f y e = absurd cc

or_fault : {A E : Type 0} (o : Option A) (fault : E) (y : A) → ok_or o fault ≡ Ok y → o ≡ Some y
or_fault None fault y e = absurd cc
or_fault {E = E} (Some x) fault y e = ap (λ (z : _). Some z) (ok_is {E = E} x y e)

-- a line that is judged where its newline stands, or nothing may follow
pub judged_line : {A E : Type 0} (ended over : Bool) (o : Option A) (fault other : E) (next : A) → (over ≡ true → o ≡ None) → cond (ended || over) (ok_or o fault) (Err other) ≡ Ok next → (ended ≡ true) × (o ≡ Some next)
judged_line true over o fault other next h e = (refl, or_fault o fault next e)
judged_line false true o fault other next h e = let some = or_fault o fault next e in let none = h refl in absurd cc
judged_line false false o fault other next h e = absurd cc
