-- Rotation in one pass over the steps.
use Rattle.std.proofs.Common.{◌≡◌, ℕ, zero, suc, ◌+◌, ◌%◌, ◌<◌, ◌≤◌, min, Bool, true, false, ◌&&◌, eqb, ltb, [], ◌∷◌, length, get_or, Some, None, Option, sym, refl, ap, ◌∙◌, ⊎_elim, arith}
use Rattle.std.proofs.lemmas.Bool.{cond-true, cond-false, cond_both, eq-eqb, eqb-true, or_cases, or_left, or_right, and_from, and_parts, lt-ltb, le-ltb, ltb-true, cases_lt, cases_Bool}
use Rattle.records.specs.declared.step.Step.{Step}
use Rattle.records.specs.Steps.{has, no_step}
use Rattle.choosers.specs.Meanings.{Question}
use Rattle.choosers.specs.Fairness.{some_has}
use Rattle.choosers.specs.Firsts.{first, first_from}
use Rattle.choosers.specs.Rotations.{nearest, ahead, reach, away, behind, rotation_pick, rotation_next}
use Rattle.choosers.specs.FirstsLemmas.{found_first}
use Rattle.choosers.specs.RotationsLemmas.{Nearest, near}
use Rattle.choosers.proofs.Rotations.{turned, stayed}

-- the best of the first i steps
pub record Best (c : ℕ) (q : Question) (i at best : ℕ) : Type 0 where
  pub most : best ≤ 8
  pub least : (k : ℕ) → k < i → best ≤ away c (get_or q k no_step)
  pub none : best ≡ 8 → at ≡ 0
  pub within : best < 8 → at < i
  pub is : best < 8 → away c (get_or q at no_step) ≡ best
  pub before : (k : ℕ) → k < at → best < away c (get_or q k no_step)

-- a step is no further away than a process in it
away_has : (c p : ℕ) (s : Step) → p < 8 → has p s ≡ true → away c s ≤ ahead c p
away_has c p s h e = ⊎_elim
    (λ a.
    let r : reach c s.process ≡ ahead c p = ap (reach c) (eqb-true s.process p a) ∙ cond-true _ _ _ (lt-ltb p 8 h) in
    cond_both (eqb s.kind 1) _ _ (λ x. x ≤ ahead c p) (λ _. omega arith) (λ _. omega arith))
    (λ a.
    let parts = and_parts (eqb s.kind 1) (eqb s.partner p) a in
    let r : reach c s.partner ≡ ahead c p = ap (reach c) (eqb-true s.partner p parts.1) ∙ cond-true _ _ _ (lt-ltb p 8 h) in
    let f : away c s ≡ min (reach c s.process) (reach c s.partner) = cond-true _ _ _ parts.0 in
    omega arith)
    (or_cases (eqb s.process p) (eqb s.kind 1 && eqb s.partner p) e)

-- a process by its distance
reach_back : (c p : ℕ) → c < 8 → reach c p < 8 → p ≡ (c + reach c p) % 8
reach_back c p h = cond_both (ltb p 8) (ahead c p) 8 (λ x. x < 8 → p ≡ (c + x) % 8) (λ e l. let k = ltb-true p 8 e in omega arith) (λ _ l. absurd (omega arith))

away_is : (c : ℕ) (s : Step) → c < 8 → away c s < 8 → has ((c + away c s) % 8) s ≡ true
away_is c s h l = ⊎_elim
    (λ k.
    let m : away c s ≡ min (reach c s.process) (reach c s.partner) = cond-true _ _ _ k in
    ⊎_elim
    (λ f. let e : away c s ≡ reach c s.partner = omega arith in or_right _ _ (and_from _ _ k (at_distance s.partner e)))
    (λ f. let e : away c s ≡ reach c s.process = omega arith in or_left _ _ (at_distance s.process e))
    (cases_lt (reach c s.partner) (reach c s.process)))
    (λ k. or_left _ _ (at_distance s.process (cond-false _ _ _ k)))
    (cases_Bool (eqb s.kind 1))
  where
    at_distance : (p : ℕ) → away c s ≡ reach c p → eqb p ((c + away c s) % 8) ≡ true
    at_distance p e = eq-eqb p ((c + away c s) % 8) (reach_back c p h (omega arith) ∙ ap (λ x. (c + x) % 8) (sym e))

-- the first that passes, by its place
first_at : (test : Step → Bool) (k : ℕ) (q : Question) (i : ℕ) → i < length q → test (get_or q i no_step) ≡ true → ((j : ℕ) → j < i → test (get_or q j no_step) ≡ false) → first_from k test q ≡ Some (k + i)
first_at test k [] i l t f = absurd (omega arith)
first_at test k (s ∷ ss) zero l t f = cond-true _ _ _ t ∙ ap Some (omega arith)
first_at test k (s ∷ ss) (suc i) l t f = cond-false _ _ _ (f 0 (omega arith)) ∙ first_at test (k + 1) ss i (omega arith) t (λ j m. f (suc j) (omega arith)) ∙ ap Some (omega arith)

some_at : (p : ℕ) (q : Question) (k : ℕ) → k < length q → has p (get_or q k no_step) ≡ true → some_has p q ≡ true
some_at p [] k l e = absurd (omega arith)
some_at p (s ∷ ss) zero l e = or_left _ _ e
some_at p (s ∷ ss) (suc k) l e = or_right _ _ (some_at p ss k (omega arith) e)

pub best_all : (c at best : ℕ) (q : Question) → c < 8 → Best c q (length q) at best → (at ≡ rotation_pick c q) × (behind c best ≡ rotation_next c q)
best_all c at best q h b = ⊎_elim
    (λ (l : best < 8).
    let p = (c + best) % 8 in
    let p8 : p < 8 = omega arith in
    let d : ahead c p ≡ best = omega arith in
    let here : has p (get_or q at no_step) ≡ true = rw (b.is l) at (away_is c (get_or q at no_step) h (rw (b.is l) l)) in
    let f : first (has p) q ≡ Some at = first_at (has p) 0 q at (b.within l) here (λ j m. ⊎_elim (λ t. absurd (let x = away_has c p (get_or q j no_step) p8 t in let y = b.before j m in omega arith)) (λ t. t) (cases_Bool (has p (get_or q j no_step)))) ∙ ap Some (omega arith) in
    let e : nearest 8 c q ≡ Some p = found p p8 d (some_at p q at (b.within l) here) (nearest 8 c q) (near 8 c q h (omega arith)) in
    let t = turned c p at q e f in
    (t.0, cond-true _ _ _ (lt-ltb best 8 l) ∙ let z : (c + best + 1) % 8 ≡ (p + 1) % 8 = omega arith in z ∙ t.1))
    (λ (l : 8 ≤ best).
    let t = stayed c q (missing l (nearest 8 c q) (near 8 c q h (omega arith))) in
    (b.none (let m = b.most in omega arith) ∙ t.0, cond-false _ _ _ (le-ltb best 8 l) ∙ t.1))
    (cases_lt best 8)
  where
    found : (p : ℕ) → p < 8 → ahead c p ≡ best → some_has p q ≡ true → (o : Option ℕ) → Nearest 8 c q o → o ≡ Some p
    found p p8 d a (Some r) (r8, _, (i, e), least) =
        let f = found_first (has r) q i e in
        let x = least p p8 a in
        let y = away_has c r (get_or q i no_step) r8 f.1 in
        let z = b.least i f.0 in
        ap Some (omega arith)
    found p p8 d a None least = absurd (let x = least p p8 a in omega arith)

    missing : 8 ≤ best → (o : Option ℕ) → Nearest 8 c q o → o ≡ None
    missing l (Some r) (r8, x, (i, e), _) =
        let f = found_first (has r) q i e in
        let y = away_has c r (get_or q i no_step) r8 f.1 in
        let z = b.least i f.0 in
        absurd (omega arith)
    missing l None _ = refl
