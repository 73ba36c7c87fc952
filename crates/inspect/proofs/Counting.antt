-- The fronts that are offered, counted by their numbers.
use Rattle.std.proofs.Common.{◌≡◌, ℕ, ◌+◌, ◌<◌, ◌≤◌, Bool, true, false, cond, List, [], ◌∷◌, length, is_some, Some, None, sym, refl, ap, ◌∙◌, subst, ⊎_elim, arith}
use Rattle.std.proofs.lemmas.Bool.{eq-eqb, ne_eqb, cases_eq}
use Rattle.commands.specs.Trees.{Class}
use Rattle.admission.specs.Conditions.{most_fronts}
use Rattle.processes.specs.Found.{front_numbered}
use Rattle.processes.specs.Fronts.{Front}
use Rattle.processes.specs.Laws.{Ascend}
use Rattle.processes.proofs.Ascending.{ascend_short, ascend_below, none_before}
use Rattle.processes.proofs.Kept.{few_fronts}
use Rattle.processes.proofs.Numbered.{numbered_before}
use Rattle.classes.specs.declared.fresh.Fresh.{Fresh}
use Rattle.classes.specs.Starts.{FreshOf}
use Rattle.inspect.specs.Offers.{first_fronts}

-- the fronts from a number on, behind those that were counted
pub record Counted (all : List Front) (count number : ℕ) : Type 0 where
  pub rest : List Front
  pub ascend : Ascend number rest 8
  pub same : (k : ℕ) → number ≤ k → front_numbered k all ≡ front_numbered k rest
  pub many : count + length rest ≡ length all

pub counted_start : (f : List ℕ) (c : Class) (p : Fresh) → FreshOf f c p → Counted (first_fronts c) 0 0
counted_start f c p h =
    let few = few_fronts _ _ c.statement h.process.class_kept.statement_kept in
    record {
      rest = first_fronts c;
      ascend = ascend_below 0 (0 + most_fronts c.statement) 8 (first_fronts c) (omega (arith, few)) (numbered_before c.variables 0 c.statement []);
      same = λ k l. refl;
      many = omega arith;
    }

not_both : (b : Bool) → b ≡ true → b ≡ false → ⊥
not_both b p q = let z : ◌≡◌ {A = ℕ} 0 1 = cc in omega arith

-- by the first of those that are left
module _ (all : List Front) (count number : ℕ) (less : number < 8) where
  abbrev Same : List Front → Type 0
  Same rest = (k : ℕ) → number ≤ k → front_numbered k all ≡ front_numbered k rest

  taken : (rest : List Front) → Ascend number rest 8 → Same rest → count + length rest ≡ length all → is_some (front_numbered number all) ≡ true → Counted all (count + 1) (number + 1)
  taken [] a s m h = absurd (not_both (is_some (front_numbered number all)) h (ap is_some (s number (omega arith))))
  taken (x ∷ xs) a s m h = ⊎_elim here later (cases_eq x.number number)
    where
      here : x.number ≡ number → Counted all (count + 1) (number + 1)
      here e =
          record {
            rest = xs;
            ascend = subst (λ n. Ascend (n + 1) xs 8) e a.1;
            same = λ k l. s k (omega arith) ∙ ap (λ b. cond b (Some x) (front_numbered k xs)) (ne_eqb x.number k (λ q. omega arith));
            many = omega (arith, m);
          }

      later : (x.number ≡ number → ⊥) → Counted all (count + 1) (number + 1)
      later ne =
          let none : front_numbered number (x ∷ xs) ≡ None = none_before number (number + 1) 8 (x ∷ xs) (omega (arith, a.0, ne), a.1) (omega arith) in
          absurd (not_both (is_some (front_numbered number all)) h (ap is_some (s number (omega arith) ∙ none)))

  passed : (rest : List Front) → Ascend number rest 8 → Same rest → count + length rest ≡ length all → is_some (front_numbered number all) ≡ false → Counted all count (number + 1)
  passed [] a s m h = record { rest = []; ascend = omega arith; same = λ k l. s k (omega arith); many = m }
  passed (x ∷ xs) a s m h = ⊎_elim here later (cases_eq x.number number)
    where
      here : x.number ≡ number → Counted all count (number + 1)
      here e =
          let some : front_numbered number (x ∷ xs) ≡ Some x = ap (λ b. cond b (Some x) (front_numbered number xs)) (eq-eqb x.number number e) in
          absurd (not_both (is_some (front_numbered number all)) (ap is_some (s number (omega arith) ∙ some)) h)

      later : (x.number ≡ number → ⊥) → Counted all count (number + 1)
      later ne = record { rest = x ∷ xs; ascend = (omega (arith, a.0, ne), a.1); same = λ k l. s k (omega arith); many = m }

  pub counted_more : (b : Bool) → b ≡ true → b ≡ is_some (front_numbered number all) → Counted all count number → Counted all (count + 1) (number + 1)
  counted_more b t e h = taken h.rest h.ascend h.same h.many (sym e ∙ t)

  pub counted_same : (b : Bool) → b ≡ false → b ≡ is_some (front_numbered number all) → Counted all count number → Counted all count (number + 1)
  counted_same b t e h = passed h.rest h.ascend h.same h.many (sym e ∙ t)

pub counted_all : (all : List Front) (count number : ℕ) → 8 ≤ number → Counted all count number → count ≡ length all
counted_all all count number past h = omega (arith, h.many, past, ascend_short number 8 h.rest h.ascend)
