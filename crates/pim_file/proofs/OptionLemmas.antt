-- Options, one after another.
use Rattle.std.proofs.Common.{◌≡◌, Option, Some, None, refl, ◌⊎◌, inl, inr}
use Rattle.std.specs.Option.{option_map, option_or}

abbrev there : {A : Type 0} → A → Option A
there x = Some x

some_is : {A : Type 0} (x y : A) → there x ≡ there y → x ≡ y
some_is x y e = cc

pub mapped : {A B : Type 0} (f : A → B) (o : Option A) (y : B) → option_map f o ≡ Some y → (x : A) × (o ≡ Some x) × (f x ≡ y)
mapped f None y e = absurd cc
mapped f (Some x) y e = (x, refl, some_is (f x) y e)

-- the first of two options, or the second
pub or_is : {A : Type 0} (a b : Option A) (y : A) → option_or a b ≡ Some y → (a ≡ Some y) ⊎ (b ≡ Some y)
or_is None b y e = inr e
or_is (Some x) b y e = inl e
