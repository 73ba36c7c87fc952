-- Seniority is fair.
use Rattle.std.specs.Prelude.{◌≡◌, ℕ, suc, ◌<◌, ◌≤◌, true, false, ◌&&◌, ◌≢◌, List, [], ◌∷◌, ◌++◌, length, Some, None, Option, ◌==◌, slice_index_or, refl}
use Rattle.std.proofs.Common.{sym, ap, ◌∙◌, ⊎_elim, arith}
use Rattle.std.proofs.lemmas.List.{length-append}
use Rattle.std.proofs.lemmas.Bool.{cond-true, cond-false, eq-eqb, ne_eqb, eqb-true, eqb-false, both_ways, or_cases, or_parts, and_parts, cond_both, cases_eq, cases_lt}
use Rattle.records.specs.declared.step.Step.{Step}
use Rattle.records.specs.Steps.{has, no_step}
use Rattle.choosers.specs.Meanings.{Question}
use Rattle.choosers.specs.Fairness.{Fair, some_has}
use Rattle.choosers.specs.Firsts.{first, by_some}
use Rattle.choosers.specs.Seniorities.{senior_step, seniority_pick, seniority_next, seniority, seniority_waits, to_end, demoted, place, Complete}
use Rattle.choosers.specs.FirstsLemmas.{found_first, found_some}
use Rattle.choosers.specs.FairnessLemmas.{Machine, fair_machine}

-- places in an order

place_first : (p x : ℕ) (xs : List ℕ) → x ≡ p → place p (x ∷ xs) ≡ 0
place_first p x xs e = cond-true _ _ _ (eq-eqb x p e)

place_later : (p x : ℕ) (xs : List ℕ) → (x ≢ p) → place p (x ∷ xs) ≡ suc (place p xs)
place_later p x xs n = cond-false _ _ _ (ne_eqb x p n)

place_append : (p : ℕ) (xs ys : List ℕ) → place p xs < length xs → place p (xs ++ ys) ≡ place p xs
place_append p [] ys h = absurd (omega arith)
place_append p (x ∷ xs) ys h = ⊎_elim
    (λ e. place_first p x (xs ++ ys) e ∙ sym (place_first p x xs e))
    (λ n. let l = place_later p x xs n in place_later p x (xs ++ ys) n ∙ ap suc (place_append p xs ys (omega arith)) ∙ sym l)
    (cases_eq x p)

place_push : (p : ℕ) (xs : List ℕ) → place p (xs ++ p ∷ []) ≤ length xs
place_push p [] = let e = place_first p p [] refl in omega arith
place_push p (x ∷ xs) = ⊎_elim
    (λ e. let f = place_first p x (xs ++ p ∷ []) e in omega arith)
    (λ n. let f = place_later p x (xs ++ p ∷ []) n in let i = place_push p xs in omega arith)
    (cases_eq x p)

end_first : (p x : ℕ) (xs : List ℕ) → x ≡ p → to_end p (x ∷ xs) ≡ xs ++ x ∷ []
end_first p x xs e = cond-true _ _ _ (eq-eqb x p e)

end_later : (p x : ℕ) (xs : List ℕ) → (x ≢ p) → to_end p (x ∷ xs) ≡ x ∷ to_end p xs
end_later p x xs n = cond-false _ _ _ (ne_eqb x p n)

length_end : (x : ℕ) (o : List ℕ) → length (to_end x o) ≡ length o
length_end x [] = refl
length_end x (y ∷ ys) = ⊎_elim
    (λ e. ap length (end_first x y ys e) ∙ length-append ys (y ∷ []) ∙ omega arith)
    (λ n. ap length (end_later x y ys n) ∙ ap suc (length_end x ys))
    (cases_eq y x)

place_self : (x : ℕ) (o : List ℕ) → place x o < length o → place x (to_end x o) < length o
place_self x [] h = absurd (omega arith)
place_self x (y ∷ ys) h = ⊎_elim
    (λ e. let f = ap (place x) (end_first x y ys e ∙ ap (λ z. ys ++ z ∷ []) e) in let g = place_push x ys in omega arith)
    (λ n.
    let l = place_later x y ys n in
    let f = ap (place x) (end_later x y ys n) ∙ place_later x y (to_end x ys) n in
    let i = place_self x ys (omega arith) in
    omega arith)
    (cases_eq y x)

-- where p stands once x has moved to the end
record Shift (x p : ℕ) (o : List ℕ) : Type 0 where
  lower : place x o < place p o → place p (to_end x o) < place p o
  same : place p o ≤ place x o → place p (to_end x o) ≡ place p o

shift : (x p : ℕ) (o : List ℕ) → (x ≢ p) → place p o < length o → Shift x p o
shift x p [] n h = absurd (omega arith)
shift x p (y ∷ ys) n h = ⊎_elim
    (λ e.
    let a = place_first x y ys e in
    let b = place_later p y ys (λ f. n (sym e ∙ f)) in
    let c = ap (place p) (end_first x y ys e) ∙ place_append p ys (y ∷ []) (omega arith) in
    let s : Shift x p (y ∷ ys) = record { lower = λ _. omega arith; same = λ l. absurd (omega arith) } in s)
    (λ m. ⊎_elim
    (λ e.
    let a = place_first p y ys e in
    let c = ap (place p) (end_later x y ys m) ∙ place_first p y (to_end x ys) e in
    let s : Shift x p (y ∷ ys) = record { lower = λ l. absurd (omega arith); same = λ _. omega arith } in s)
    (λ k.
    let a = place_later p y ys k in
    let b = place_later x y ys m in
    let c = ap (place p) (end_later x y ys m) ∙ place_later p y (to_end x ys) k in
    let i = shift x p ys n (omega arith) in
    let s : Shift x p (y ∷ ys) = record { lower = λ l. let j = i.lower (omega arith) in omega arith; same = λ l. let j = i.same (omega arith) in omega arith } in s)
    (cases_eq y p))
    (cases_eq y x)

at_most : (x p : ℕ) (o : List ℕ) → (x ≢ p) → place p o < length o → place p (to_end x o) ≤ place p o
at_most x p o n h =
    let s = shift x p o n h in
    ⊎_elim (λ l. let j = s.lower l in omega arith) (λ l. let j = s.same l in omega arith) (cases_lt (place x o) (place p o))

complete_end : (x : ℕ) (o : List ℕ) → Complete o → Complete (to_end x o)
complete_end x o (len, all) = (length_end x o ∙ len, λ p h. let a = all p h in ⊎_elim (λ e. let b = place_self x o (rw e (omega arith)) in rw (← e) (omega arith)) (λ n. let b = at_most x p o n (omega arith) in omega arith) (cases_eq x p))

pub complete_demoted : (s : Step) (o : List ℕ) → Complete o → Complete (demoted s o)
complete_demoted s o c =
    let one = complete_end s.process o c in
    cond_both (s.kind == 1) _ _ Complete (λ _. complete_end s.partner (to_end s.process o) one) (λ _. one)

-- fairness

-- one in the step stands in front of p, which is not in it: p moves up
ahead_falls : (s : Step) (o : List ℕ) (p r : ℕ) → has p s ≡ false → has r s ≡ true → place r o < place p o → place p o < length o → place p (demoted s o) < place p o
ahead_falls s o p r no_p has_r front within =
    let parts = or_parts (s.process == p) (s.kind == 1 && s.partner == p) no_p in
    let a≢p = eqb-false s.process p parts.0 in
    let o₁ = to_end s.process o in
    let one = shift s.process p o a≢p within in
    cond_both (s.kind == 1) (to_end s.partner o₁) o₁ (λ x. place p x < place p o)
    (λ k.
    let b≢p = eqb-false s.partner p (sym (ap (λ t. t && s.partner == p) k) ∙ parts.1) in
    let len = length_end s.process o in
    let most = at_most s.process p o a≢p within in
    let two = shift s.partner p o₁ b≢p (omega arith) in
    let most₂ = at_most s.partner p o₁ b≢p (omega arith) in
    ⊎_elim
    (λ l. let j = one.lower l in omega arith)
    (λ l.
    let same = one.same l in
    let which : s.partner ≡ r = ⊎_elim (λ e. absurd (let z = ap (λ x. place x o) (eqb-true s.process r e) in omega arith)) (λ e. eqb-true s.partner r (and_parts (s.kind == 1) (s.partner == r) e).1) (or_cases (s.process == r) (s.kind == 1 && s.partner == r) has_r) in
    let z = ap (λ x. place x o) which in
    let b≢a : s.process ≡ s.partner → ⊥ = λ e. let y = ap (λ x. place x o) e in omega arith in
    let b = (shift s.process s.partner o b≢a (omega arith)).same (omega arith) in
    let j = two.lower (omega arith) in
    omega arith)
    (cases_lt (place s.process o) (place p o)))
    (λ k.
    let which : s.process ≡ r = ⊎_elim (λ e. eqb-true s.process r e) (λ e. absurd (both_ways (s.kind == 1) k (and_parts (s.kind == 1) (s.partner == r) e).0)) (or_cases (s.process == r) (s.kind == 1 && s.partner == r) has_r) in
    let z = ap (λ x. place x o) which in
    one.lower (omega arith))

-- the step found is the first of a process r, in front of every other that is in a step
abbrev Senior : List ℕ → Question → Option ℕ → Type 0
Senior o q (Some i) = (r : ℕ) × (first (has r) q ≡ Some i) × ((p : ℕ) → some_has p q ≡ true → (r ≢ p) → place r o < place p o)
Senior o q None = (p : ℕ) → some_has p q ≡ true → length o ≤ place p o

behind : (x : ℕ) (o : List ℕ) (q : Question) → first (has x) q ≡ None → (s : Option ℕ) → Senior o q s → Senior (x ∷ o) q s
behind x o q e (Some i) (r, f, front) = (
  r,
  f,
  λ p has_p n.
      let a = place_later p x o (λ y. both_ways (some_has p q) (rw (← y) (found_some x 0 q e)) has_p) in
      let b = place_later r x o (λ y. let z : ◌≡◌ {A = ℕ} 0 1 = cc (ap (λ t. first (has t) q) y) in absurd (omega arith)) in
      let j = front p has_p n in
      omega arith,
)
behind x o q e None front = λ p has_p.
    let a = place_later p x o (λ y. both_ways (some_has p q) (rw (← y) (found_some x 0 q e)) has_p) in
    let j = front p has_p in
    omega arith

is_senior : (o : List ℕ) (q : Question) → Senior o q (senior_step o q)
is_senior [] q = λ p _. omega arith
is_senior (x ∷ o) q = go (first (has x) q) refl (is_senior o q)
  where
    go : (f : Option ℕ) → first (has x) q ≡ f → Senior o q (senior_step o q) → Senior (x ∷ o) q (by_some f (λ i. Some i) (senior_step o q))
    go (Some i) e _ = (x, e, λ p has_p n. let a = place_later p x o n in let b = place_first x x o refl in omega arith)
    go None e more = behind x o q e (senior_step o q) more

seniority_machine : Machine 7 seniority_pick seniority_next (λ o p. place p o) Complete
seniority_machine = record {
  keeps = λ o q c. keep o q c (senior_step o q);
  bounds = λ o c p h. let b = c.1 p h in omega arith;
  answers = λ o q c n. picks o q n (senior_step o q) (is_senior o q);
  lowers = λ o q c p h a b. lowered o q p c h a (senior_step o q) (is_senior o q) b;
}
  where
    keep : (o : List ℕ) (q : Question) → Complete o → (s : Option ℕ) → Complete (by_some s (λ i. demoted (slice_index_or q i no_step) o) o)
    keep o q c (Some i) = complete_demoted (slice_index_or q i no_step) o c
    keep o q c None = c

    picks : (o : List ℕ) (q : Question) → 0 < length q → (s : Option ℕ) → Senior o q s → by_some s (λ i. i) 0 < length q
    picks o q n (Some i) (r, e, _) = (found_first (has r) q i e).0
    picks o q n None _ = n

    lowered : (o : List ℕ) (q : Question) (p : ℕ) → Complete o → p < 8 → some_has p q ≡ true → (s : Option ℕ) → Senior o q s → has p (slice_index_or q (by_some s (λ i. i) 0) no_step) ≡ false → place p (by_some s (λ i. demoted (slice_index_or q i no_step) o) o) < place p o
    lowered o q p c h a (Some i) (r, e, front) no_p =
        let has_r = (found_first (has r) q i e).1 in
        let len = c.0 in
        let w = c.1 p h in
        ahead_falls (slice_index_or q i no_step) o p r no_p has_r (front p a (λ y. both_ways (has p (slice_index_or q i no_step)) no_p (rw (← y) has_r))) (omega arith)
    lowered o q p c h a None front b = let j = front p a in let len = c.0 in let w = c.1 p h in absurd (omega arith)

pub seniority_fair : (o : List ℕ) → Complete o → Fair 7 (seniority o) (seniority_waits o)
seniority_fair = fair_machine 7 seniority_pick seniority_next (λ o p. place p o) Complete seniority_machine
