-- Which offers there are, and that a front is found by its number.
use Rattle.std.proofs.Common.{◌≡◌, ℕ, zero, suc, ◌+◌, ◌≤◌, true, false, eqb, List, [], ◌∷◌, map, get_or, Some, sym, refl, ap, ◌∙◌, subst, ⊎_elim, arith}
use Rattle.std.proofs.lemmas.Bool.{eq-eqb, ne_eqb}
use Rattle.std.specs.List.{slice_get}
use Rattle.values.specs.Values.{Val}
use Rattle.commands.specs.Trees.{Stmt}
use Rattle.processes.proofs.Numbered.{numbered_before}
use Rattle.processes.specs.Found.{front_numbered}
use Rattle.processes.specs.Fronts.{Front, process_fronts}
use Rattle.processes.specs.Laws.{Ascend}
use Rattle.steps.specs.Models.{Process, Model}
use Rattle.steps.specs.Steps.{Offer, offers_of, offers_from, offers}
use Rattle.steps.specs.Taking.{ended, process_numbered, offered_front}
use Rattle.steps.proofs.Members.{In, in_left, in_right, in_either, in_map, map_in, Apart, apart_append}

-- front numbers
above : (from below : ℕ) (xs : List Front) → Ascend from xs below → (x : Front) → In x xs → from ≤ x.number
above from below [] a x h = absurd h
above from below (y ∷ xs) a x h =
    ⊎_elim (λ e. let n : x.number ≡ y.number = ap (λ z. z.number) e in omega (arith, a.0)) (λ k. omega (arith, a.0, above (y.number + 1) below xs a.1 x k)) h

found : (from below : ℕ) (xs : List Front) → Ascend from xs below → (x : Front) → In x xs → front_numbered x.number xs ≡ Some x
found from below [] a x h = absurd h
found from below (y ∷ xs) a x h =
    ⊎_elim
    (λ e. let t : eqb y.number x.number ≡ true = eq-eqb _ _ (ap (λ z. z.number) (sym e)) in rw t (ap (λ z. Some z) (sym e)))
    (λ k. let t : eqb y.number x.number ≡ false = ne_eqb _ _ (λ e. omega (arith, e, above (y.number + 1) below xs a.1 x k)) in rw t (found (y.number + 1) below xs a.1 x k))
    h

numbers_apart : (from below : ℕ) (xs : List Front) → Ascend from xs below → Apart (λ x y. x.number ≡ y.number) xs
numbers_apart from below [] a = tt
numbers_apart from below (x ∷ xs) a = (λ y h e. omega (arith, e, above (x.number + 1) below xs a.1 y h), numbers_apart (x.number + 1) below xs a.1)

pub front_found : (one : Process) (x : Front) → In x (process_fronts one.variables one.left) → offered_front one x.number ≡ Some x
front_found one x h = of one.variables one.left h
  where
    of : (vs : List Val) (left : List Stmt) → In x (process_fronts vs left) → front_numbered x.number (process_fronts vs left) ≡ Some x
    of vs [] k = absurd k
    of vs (s ∷ rest) k = found 0 _ _ (numbered_before vs 0 s rest) x k

-- the offers of a model
pub record Offered (ps : List Process) (p : ℕ) (o : Offer) : Type 0 where
  pub one : Process
  pub at : ℕ
  pub numbered : slice_get ps at ≡ Some one
  pub process : o.process ≡ p + at
  pub variables : o.variables ≡ one.variables
  pub front : In o.front (process_fronts one.variables one.left)

pub in_offers : (p : ℕ) (ps : List Process) (o : Offer) → In o (offers_from p ps) → Offered ps p o
in_offers p [] o h = absurd h
in_offers p (one ∷ others) o h =
    ⊎_elim
    (λ k.
    let q = in_map _ o (process_fronts one.variables one.left) k in
    let e = q.2 in
    record {
      one = one;
      at = 0;
      numbered = refl;
      process = ap (λ z. z.process) e ∙ omega arith;
      variables = ap (λ z. z.variables) e;
      front = subst (λ z. In z (process_fronts one.variables one.left)) (sym (ap (λ z. z.front) e)) q.1;
    })
    (λ k.
    let q = in_offers (p + 1) others o k in
    record { one = q.one; at = suc q.at; numbered = q.numbered; process = omega (arith, q.process); variables = q.variables; front = q.front })
    (in_either o (offers_of p one) (offers_from (p + 1) others) h)

abbrev pub offer : ℕ → Process → Front → Offer
offer p one x = record { process = p; variables = one.variables; front = x }

offers_in : (p i : ℕ) (ps : List Process) (one : Process) (x : Front) → slice_get ps i ≡ Some one → In x (process_fronts one.variables one.left) → In (offer (p + i) one x) (offers_from p ps)
offers_in p i [] one x h k = absurd (let z : ◌≡◌ {A = ℕ} 0 1 = cc in omega arith)
offers_in p zero (other ∷ ps) one x h k =
    let e : other ≡ one = cc in
    let z : p + 0 ≡ p = omega arith in
    in_left _ (offers_of p other) (offers_from (p + 1) ps)
    (subst (λ w. In (offer w one x) (offers_of p other)) (sym z) (subst (λ w. In (offer p one x) (offers_of p w)) (sym e) (map_in (λ y. offer p one y) x _ k)))
offers_in p (suc i) (other ∷ ps) one x h k =
    let z : p + 1 + i ≡ p + suc i = omega arith in
    in_right _ (offers_of p other) (offers_from (p + 1) ps) (subst (λ w. In (offer w one x) (offers_from (p + 1) ps)) z (offers_in (p + 1) i ps one x h k))

pub front_offered : (m : Model) (p : ℕ) (one : Process) (x : Front) → slice_get m.processes p ≡ Some one → In x (process_fronts one.variables one.left) → In (offer p one x) (offers m)
front_offered m p one x h k =
    let z : 0 + p ≡ p = omega arith in
    subst (λ w. In (offer w one x) (offers m)) z (offers_in 0 p m.processes one x h k)

-- an offer of a model, by its process and front
pub record OfferOf (m : Model) (o : Offer) : Type 0 where
  pub one : Process
  pub numbered : slice_get m.processes o.process ≡ Some one
  pub variables : o.variables ≡ one.variables
  pub front : In o.front (process_fronts one.variables one.left)

pub offer_of : (m : Model) (o : Offer) → In o (offers m) → OfferOf m o
offer_of m o h =
    let q = in_offers 0 m.processes o h in
    let e : q.at ≡ o.process = omega (arith, q.process) in
    record { one = q.one; numbered = subst (λ i. slice_get m.processes i ≡ Some q.one) e q.numbered; variables = q.variables; front = q.front }

-- no two have the same process and front number
pub record SameFront (a b : Offer) : Type 0 where
  pub process : a.process ≡ b.process
  pub front : a.front.number ≡ b.front.number

fronts_apart : (p : ℕ) (one : Process) (xs : List Front) → Apart (λ x y. x.number ≡ y.number) xs → Apart SameFront (map (λ x. offer p one x) xs)
fronts_apart p one [] a = tt
fronts_apart p one (x ∷ xs) a =
    (λ y h r. let q = in_map (λ z. offer p one z) y xs h in a.0 q.0 q.1 (r.front ∙ ap (λ z. z.front.number) q.2), fronts_apart p one xs a.1)

process_apart : (p : ℕ) (one : Process) → Apart SameFront (offers_of p one)
process_apart p one = fronts_apart p one _ (of one.variables one.left)
  where
    of : (vs : List Val) (left : List Stmt) → Apart (λ x y. x.number ≡ y.number) (process_fronts vs left)
    of vs [] = tt
    of vs (s ∷ rest) = numbers_apart 0 _ _ (numbered_before vs 0 s rest)

pub offers_apart : (p : ℕ) (ps : List Process) → Apart SameFront (offers_from p ps)
offers_apart p [] = tt
offers_apart p (one ∷ others) =
    apart_append SameFront (offers_of p one) (offers_from (p + 1) others) (process_apart p one) (offers_apart (p + 1) others)
    (λ a b h k r.
    let q = in_map _ a (process_fronts one.variables one.left) h in
    let e : a.process ≡ p = ap (λ z. z.process) q.2 in
    let f = (in_offers (p + 1) others b k).process in
    let g = r.process in
    omega arith)

-- a number that a process has gives that process
pub process_is : (m : Model) (p : ℕ) (one : Process) → slice_get m.processes p ≡ Some one → process_numbered m p ≡ one
process_is m p one h = of m.processes p h
  where
    of : (ps : List Process) (i : ℕ) → slice_get ps i ≡ Some one → get_or ps i ended ≡ one
    of [] i k = absurd (let z : ◌≡◌ {A = ℕ} 0 1 = cc in omega arith)
    of (x ∷ ps) zero k = let e : x ≡ one = cc in e
    of (x ∷ ps) (suc i) k = of ps i k
