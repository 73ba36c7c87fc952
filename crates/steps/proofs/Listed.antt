-- A step is listed where it stands in the list.
use Rattle.std.proofs.Common.{◌≡◌, ℕ, Bool, true, false, cond, eqb, List, [], ◌∷◌, Some, None, refl, subst, inl, inr, ⊎_elim, arith}
use Rattle.std.proofs.lemmas.Bool.{and_parts, and_from, eqb-true, eq-eqb, or_cases, or_left, or_right}
use Rattle.records.specs.declared.step.Step.{Step}
use Rattle.values.specs.Values.{Val}
use Rattle.answers.specs.declared.refusal.TakeRefusal.TheVariants.{NotListed, Values}
use Rattle.steps.specs.Models.{Model}
use Rattle.steps.specs.Steps.{offers, steps}
use Rattle.steps.specs.Taking.{same_step, is_in, fits, refusal}
use Rattle.steps.proofs.Members.{In}
use Rattle.steps.proofs.Sources.{Comes, step_comes}

same_fields : (a b : Step) → a.kind ≡ b.kind → a.process ≡ b.process → a.front ≡ b.front → a.partner ≡ b.partner → a.partner_front ≡ b.partner_front → a.channel ≡ b.channel → a.message ≡ b.message → a ≡ b
same_fields a b p q r s t u v =
    (λ i. record { kind = p i; process = q i; front = r i; partner = s i; partner_front = t i; channel = u i; message = v i })

same_step_is : (a b : Step) → same_step a b ≡ true → a ≡ b
same_step_is a b h =
    let p = and_parts (eqb a.kind b.kind) _ h in
    let q = and_parts (eqb a.process b.process) _ p.1 in
    let r = and_parts (eqb a.front b.front) _ q.1 in
    let s = and_parts (eqb a.partner b.partner) _ r.1 in
    let t = and_parts (eqb a.partner_front b.partner_front) _ s.1 in
    let u = and_parts (eqb a.channel b.channel) (eqb a.message b.message) t.1 in
    same_fields a b (eqb-true _ _ p.0) (eqb-true _ _ q.0) (eqb-true _ _ r.0) (eqb-true _ _ s.0) (eqb-true _ _ t.0) (eqb-true _ _ u.0) (eqb-true _ _ u.1)

same_step_refl : (a : Step) → same_step a a ≡ true
same_step_refl a =
    let e : (n : ℕ) → eqb n n ≡ true = λ n. eq-eqb n n refl in
    and_from _ _ (e a.kind) (and_from _ _ (e a.process) (and_from _ _ (e a.front) (and_from _ _ (e a.partner) (and_from _ _ (e a.partner_front) (and_from _ _ (e a.channel) (e a.message))))))

pub listed_in : (s : Step) (xs : List Step) → is_in s xs ≡ true → In s xs
listed_in s [] h = absurd (let z : ◌≡◌ {A = ℕ} 0 1 = cc in omega arith)
listed_in s (x ∷ xs) h = ⊎_elim (λ e. inl (same_step_is s x e)) (λ k. inr (listed_in s xs k)) (or_cases (same_step s x) (is_in s xs) h)

pub in_listed : (s : Step) (xs : List Step) → In s xs → is_in s xs ≡ true
in_listed s [] h = absurd h
in_listed s (x ∷ xs) h =
    ⊎_elim (λ e. or_left (same_step s x) (is_in s xs) (subst (λ y. same_step s y ≡ true) e (same_step_refl s))) (λ k. or_right (same_step s x) (is_in s xs) (in_listed s xs k)) h

pub listed_comes : (m : Model) (s : Step) → is_in s (steps m) ≡ true → Comes m.behaviour (offers m) s
listed_comes m s h = step_comes m.behaviour (offers m) s (listed_in s (steps m) h)

-- a step that is not refused is listed, and its values fit
pub taken : (m : Model) (s : Step) (given : List Val) → refusal m s given ≡ None → (is_in s (steps m) ≡ true) × (fits m s given ≡ true)
taken m s given h = by (is_in s (steps m)) (fits m s given) h
  where
    by : (t u : Bool) → cond t (cond u None (Some Values)) (Some NotListed) ≡ None → (t ≡ true) × (u ≡ true)
    by true true e = (refl, refl)
    by true false e = absurd (let z : ◌≡◌ {A = ℕ} 0 1 = cc in omega arith)
    by false u e = absurd (let z : ◌≡◌ {A = ℕ} 0 1 = cc in omega arith)
