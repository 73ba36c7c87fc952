-- 1,088 steps are the most of 64 offers.
use Rattle.std.proofs.Common.{◌≡◌, ℕ, ◌+◌, ◌-◌, ◌*◌, ◌≤◌, Bool, true, false, cond, not, ◌&&◌, eqb, List, [], ◌∷◌, map, length, Some, None, Option, refl, inl, inr, mul-le-mul_right, mul_comm, add-mul, mul-le-mul_left, zero-mul, mul-add, arith, length-append}
use Rattle.std.proofs.lemmas.Bool.Decides.{leb_tells}
use Rattle.std.specs.List.{flat_map}
use Rattle.values.specs.declared.kind.Kind.{Kind}
use Rattle.values.specs.Values.{kind_of}
use Rattle.commands.specs.Trees.{Behaviour}
use Rattle.heads.specs.Exchanges.{same_kinds}
use Rattle.processes.specs.Fronts.{Action, internal, sends, receives}
use Rattle.records.specs.declared.step.Step.{Step}
use Rattle.records.specs.Steps as step
use Rattle.arrivals.specs.Climbing.{meeting_channel}
use Rattle.steps.specs.Steps.{Offer, over, agreed, target_kinds, internal_by, internal_steps, receive_meets, send_meets, meeting_steps, meetings, send_by, outside_sends, receive_by, outside_receives, steps_of}

-- s * r is largest where both are half
half : (s r : ℕ) → s ≤ 32 → s + r ≤ 64 → s * r ≤ 1024
half s r h k =
    let a : r ≤ 32 + (32 - s) = omega arith in
    let b = mul-le-mul_left s a in
    let d = mul-add s 32 (32 - s) in
    let e = mul-le-mul_right (32 - s) h in
    let f = mul_comm s 32 in
    omega arith

product : (s r : ℕ) → s + r ≤ 64 → s * r ≤ 1024
product s r h =
    elim (leb_tells s 32) [
      | inl p ↦ half s r p.1 h
      | inr p ↦ let q : r ≤ 32 = omega arith in let k : r + s ≤ 64 = omega arith in omega (arith, half r s q k, mul_comm s r)
    ]

-- one for an action of a sort
abbrev one_internal : Action → ℕ
one_internal internal = 1
one_internal (sends c m xs) = 0
one_internal (receives c m ws) = 0

abbrev one_send : Action → ℕ
one_send internal = 0
one_send (sends c m xs) = 1
one_send (receives c m ws) = 0

abbrev one_receive : Action → ℕ
one_receive internal = 0
one_receive (sends c m xs) = 0
one_receive (receives c m ws) = 1

abbrev many : (Action → ℕ) → List Offer → ℕ
many one [] = 0
many one (o ∷ os) = one o.front.does + many one os

one_sort : (a : Action) → (one_internal a + one_send a) + one_receive a ≡ 1
one_sort internal = refl
one_sort (sends c m xs) = refl
one_sort (receives c m ws) = refl

sorts : (os : List Offer) → (many one_internal os + many one_send os) + many one_receive os ≡ length os
sorts [] = refl
sorts (o ∷ os) = let h = sorts os in let k = one_sort o.front.does in omega arith

-- a list that gives some steps for each offer of a sort
sized : (g : Offer → List Step) (one : Action → ℕ) (c : ℕ) → ((o : Offer) → length (g o) ≤ one o.front.does * c) → (os : List Offer) → length (flat_map g os) ≤ many one os * c
sized g one c h [] = omega (arith, zero-mul c)
sized g one c h (o ∷ os) = simp (length-append, add-mul) (omega (arith, h o, sized g one c h os))

over_few : (o : Option ℕ) (s : ℕ → Step) → length (over o s) ≤ 1
over_few None s = omega arith
over_few (Some k) s = omega arith

when_few : (t : Bool) (xs : List Step) → length xs ≤ 1 → length (cond t xs []) ≤ 1
when_few true xs h = h
when_few false xs h = omega arith

internal_few : (p n : ℕ) (a : Action) → length (internal_by p n a) ≤ one_internal a * 1
internal_few p n internal = omega arith
internal_few p n (sends c m xs) = omega arith
internal_few p n (receives c m ws) = omega arith

module _ (b : Behaviour) where
  send_few : (p n : ℕ) (a : Action) → length (send_by b p n a) ≤ one_send a * 1
  send_few p n internal = omega arith
  send_few p n (sends c m xs) = over_few _ _
  send_few p n (receives c m ws) = omega arith

  receive_few : (p n : ℕ) (a : Action) → length (receive_by b p n a) ≤ one_receive a * 1
  receive_few p n internal = omega arith
  receive_few p n (sends c m xs) = omega arith
  receive_few p n (receives c m ws) = over_few _ _

  met_few : (s r : Offer) (c m : ℕ) (ks : List Kind) (a : Action) → length (receive_meets b s r c m ks a) ≤ one_receive a * 1
  met_few s r c m ks internal = omega arith
  met_few s r c m ks (sends d n xs) = omega arith
  met_few s r c m ks (receives d n ws) =
      when_few (not (eqb s.process r.process) && (eqb m n && same_kinds ks (target_kinds r.variables ws))) _
      (over_few (agreed (meeting_channel b s.process r.process c) (meeting_channel b r.process s.process d)) (λ k. step.meeting s.process s.front.number r.process r.front.number k m))

  of_pair : (s r : Offer) (a : Action) → length (send_meets b s r a) ≤ one_receive r.front.does * one_send a
  of_pair s r internal = omega arith
  of_pair s r (sends c m xs) = met_few s r c m (map kind_of xs) r.front.does
  of_pair s r (receives c m ws) = omega arith

  module _ (os : List Offer) where
    of_one : (s : Offer) → length (meetings b os s) ≤ one_send s.front.does * many one_receive os
    unfolding meetings
    of_one s = rw mul_comm (sized (meeting_steps b s) one_receive (one_send s.front.does) (λ r. of_pair s r s.front.does) os)

    pub steps_fit : length os ≤ 64 → length (steps_of b os) ≤ 1088
    unfolding steps_of
    steps_fit h =
        let a = sized internal_steps one_internal 1 (λ o. internal_few o.process o.front.number o.front.does) os in
        let m = sized (meetings b os) one_send (many one_receive os) of_one os in
        let s = sized (outside_sends b) one_send 1 (λ o. send_few o.process o.front.number o.front.does) os in
        let r = sized (outside_receives b) one_receive 1 (λ o. receive_few o.process o.front.number o.front.does) os in
        let e = sorts os in
        let k : many one_send os + many one_receive os ≤ 64 = omega arith in
        let p = product (many one_send os) (many one_receive os) k in
        simp length-append (omega arith)
