-- Kinds in the same places, as `==` of arrays tells it.
use Rattle.std.proofs.Common.{◌≡◌, Bool, true, false, ◌&&◌, List, [], ◌∷◌, Some, None, Option, refl}
use Rattle.std.specs.Cmp.Lexicographic.{pointwise}
use Rattle.std.specs.Option.{option_eq}
use Rattle.values.specs.declared.kind.Kind.{Kind}
use Rattle.values.specs.declared.kind.Kind.TheVariants.{Integer, Boolean}
use Rattle.values.specs.Kinds.{same_kind}
use Rattle.listing.specs.Offers.{same_place, alike}

module _ (E : Kind → Kind → Bool) (ii : E Integer Integer ≡ true) (ib : E Integer Boolean ≡ false) (bi : E Boolean Integer ≡ false) (bb : E Boolean Boolean ≡ true) where
  kind_is : (k j : Kind) → E k j ≡ same_kind k j
  kind_is Integer Integer = ii
  kind_is Integer Boolean = ib
  kind_is Boolean Integer = bi
  kind_is Boolean Boolean = bb

  place_is : (x y : Option Kind) → option_eq E x y ≡ same_place x y
  place_is None None = refl
  place_is None (Some j) = refl
  place_is (Some k) None = refl
  place_is (Some k) (Some j) = kind_is k j

  pub alike_is : (xs ys : List (Option Kind)) → pointwise (option_eq E) xs ys ≡ alike xs ys
  alike_is [] [] = refl
  alike_is [] (y ∷ ys) = refl
  alike_is (x ∷ xs) [] = refl
  alike_is (x ∷ xs) (y ∷ ys) = let e = place_is x y in let r = alike_is xs ys in (λ i. e i && r i)
