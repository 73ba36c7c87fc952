-- The closed steps of a model stand first in its list.
use Rattle.std.proofs.Common.{◌≡◌, ℕ, Bool, true, false, cond, List, [], ◌∷◌, ◌++◌, map, length, take, filter, Some, None, Option, refl, sym, ap, ◌∙◌, subst, append_assoc}
use Rattle.std.specs.List.{flat_map}
use Rattle.std.proofs.lemmas.List.{append-nil}
use Rattle.std.proofs.lemmas.List.Elements.{filter-append}
use Rattle.std.proofs.Math.Seq.{take-append_seam}
use Rattle.values.specs.Values.{kind_of}
use Rattle.values.specs.declared.kind.Kind.{Kind}
use Rattle.commands.specs.Trees.{Behaviour}
use Rattle.processes.specs.Fronts.{Action, internal, sends, receives}
use Rattle.records.specs.Steps.{closed}
use Rattle.records.specs.Steps as step
use Rattle.arrivals.specs.Climbing.{climb}
use Rattle.steps.specs.Models.{Model}
use Rattle.steps.specs.Steps.{Offer, offers, over, internal_by, internal_steps, receive_meets, send_meets, meeting_steps, meetings, send_by, outside_sends, receive_by, outside_receives, steps_of, steps}

module _ {X A : Type 0} (p : A → Bool) (f : X → List A) where
  all_joined : ((x : X) → filter p (f x) ≡ f x) → (xs : List X) → filter p (flat_map f xs) ≡ flat_map f xs
  all_joined h [] = refl
  all_joined h (x ∷ xs) = filter-append p (f x) (flat_map f xs) ∙ (λ i. h x i ++ all_joined h xs i)

  none_joined : ((x : X) → filter p (f x) ≡ []) → (xs : List X) → filter p (flat_map f xs) ≡ []
  none_joined h [] = refl
  none_joined h (x ∷ xs) = filter-append p (f x) (flat_map f xs) ∙ (λ i. h x i ++ none_joined h xs i)

-- each sort of step is closed, or none of it is

internal_closed : (p n : ℕ) (a : Action) → filter closed (internal_by p n a) ≡ internal_by p n a
internal_closed p n internal = refl
internal_closed p n (sends c m xs) = refl
internal_closed p n (receives c m ws) = refl

meeting_closed : (t : Bool) (o : Option ℕ) (p n q l m : ℕ) → let xs = cond t (over o (λ k. step.meeting p n q l k m)) [] in filter closed xs ≡ xs
meeting_closed false o p n q l m = refl
meeting_closed true None p n q l m = refl
meeting_closed true (Some k) p n q l m = refl

receive_closed : (b : Behaviour) (s r : Offer) (c m : ℕ) (ks : List Kind) (a : Action) → filter closed (receive_meets b s r c m ks a) ≡ receive_meets b s r c m ks a
receive_closed b s r c m ks internal = refl
receive_closed b s r c m ks (sends d n xs) = refl
receive_closed b s r c m ks (receives d n ws) = meeting_closed _ _ s.process s.front.number r.process r.front.number m

send_closed : (b : Behaviour) (s r : Offer) (a : Action) → filter closed (send_meets b s r a) ≡ send_meets b s r a
send_closed b s r internal = refl
send_closed b s r (sends c m xs) = receive_closed b s r c m (map kind_of xs) r.front.does
send_closed b s r (receives c m ws) = refl

meetings_closed : (b : Behaviour) (os : List Offer) (s : Offer) → filter closed (meetings b os s) ≡ meetings b os s
unfolding meetings
meetings_closed b os s = all_joined closed (meeting_steps b s) (λ r. send_closed b s r s.front.does) os

send_open : (b : Behaviour) (p n : ℕ) (a : Action) → filter closed (send_by b p n a) ≡ []
send_open b p n internal = refl
send_open b p n (sends c m xs) = by (climb b p c)
  where
    by : (o : Option ℕ) → filter closed (over o (λ k. step.outside_send p n k m)) ≡ []
    by None = refl
    by (Some k) = refl
send_open b p n (receives c m ws) = refl

receive_open : (b : Behaviour) (p n : ℕ) (a : Action) → filter closed (receive_by b p n a) ≡ []
receive_open b p n internal = refl
receive_open b p n (sends c m xs) = refl
receive_open b p n (receives c m ws) = by (climb b p c)
  where
    by : (o : Option ℕ) → filter closed (over o (λ k. step.outside_receive p n k m)) ≡ []
    by None = refl
    by (Some k) = refl

-- a list whose first part passes and whose rest does not
passing_part : {A : Type 0} (p : A → Bool) (xs ys : List A) → filter p xs ≡ xs → filter p ys ≡ [] → filter p (xs ++ ys) ≡ xs
passing_part p xs ys h k = filter-append p xs ys ∙ (λ i. h i ++ k i) ∙ append-nil xs

seam : {A : Type 0} (p : A → Bool) (xs ys : List A) → filter p xs ≡ xs → filter p ys ≡ [] → take (length (filter p (xs ++ ys))) (xs ++ ys) ≡ filter p (xs ++ ys)
seam p xs ys h k = let e = passing_part p xs ys h k in ap (λ zs. take (length zs) (xs ++ ys)) e ∙ take-append_seam xs ys ∙ sym e

pub closed_first : (m : Model) → take (length (filter closed (steps m))) (steps m) ≡ filter closed (steps m)
unfolding steps_of
closed_first m =
    let b = m.behaviour in
    let os = offers m in
    let inside = flat_map internal_steps os in
    let meets = flat_map (meetings b os) os in
    let sent = flat_map (outside_sends b) os in
    let got = flat_map (outside_receives b) os in
    let one = all_joined closed internal_steps (λ o. internal_closed o.process o.front.number o.front.does) os in
    let two = all_joined closed (meetings b os) (meetings_closed b os) os in
    let three = none_joined closed (outside_sends b) (λ o. send_open b o.process o.front.number o.front.does) os in
    let four = none_joined closed (outside_receives b) (λ o. receive_open b o.process o.front.number o.front.does) os in
    let h : filter closed (inside ++ meets) ≡ inside ++ meets = filter-append closed inside meets ∙ (λ i. one i ++ two i) in
    let k : filter closed (sent ++ got) ≡ [] = filter-append closed sent got ∙ (λ i. three i ++ four i) in
    let e : (inside ++ meets) ++ (sent ++ got) ≡ inside ++ (meets ++ (sent ++ got)) = append_assoc inside meets (sent ++ got) in
    subst (λ zs. take (length (filter closed zs)) zs ≡ filter closed zs) e (seam closed (inside ++ meets) (sent ++ got) h k)
