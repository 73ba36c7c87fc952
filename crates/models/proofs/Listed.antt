-- A step in a list, by the equality of steps.
use Rattle.std.proofs.Common.{◌≡◌, ℕ, ◌||◌, ◌&&◌, eqb, List, [], ◌∷◌, refl, sym, ◌∙◌, ⊎_elim}
use Rattle.std.specs.List.{list_any}
use Rattle.std.proofs.lemmas.Bool.{eq-eqb, ne_eqb, cases_eq}
use Rattle.records.specs.declared.step.Step.{Step}
use Rattle.steps.specs.Taking.{same_step, is_in}

either_way : (a b : ℕ) → eqb a b ≡ eqb b a
either_way a b = ⊎_elim (λ e. eq-eqb a b e ∙ sym (eq-eqb b a (sym e))) (λ n. ne_eqb a b n ∙ sym (ne_eqb b a (λ e. n (sym e)))) (cases_eq a b)

pub same_either_way : (x y : Step) → same_step x y ≡ same_step y x
same_either_way x y i =
    either_way x.kind y.kind i && (either_way x.process y.process i && (either_way x.front y.front i && (either_way x.partner y.partner i && (either_way x.partner_front y.partner_front i && (either_way x.channel y.channel i && either_way x.message y.message i)))))

pub any_is : (s : Step) (xs : List Step) → list_any (λ y. same_step y s) xs ≡ is_in s xs
any_is s [] = refl
any_is s (x ∷ xs) = let here = same_either_way x s in let later = any_is s xs in (λ i. here i || later i)
