-- The steps listed from offers in the code are the steps of the model.
use Rattle.std.proofs.Common.{◌≡◌, ℕ, zero, suc, ◌<◌, ◌≤◌, Bool, true, false, cond, not, ◌&&◌, eqb, List, [], ◌∷◌, ◌++◌, map, length, get_or, Some, None, Option, refl, ap, ◌∙◌, arith}
use Rattle.std.proofs.lemmas.List.{length-map}
use Rattle.std.specs.List.{flat_map, AllByRecursion}
use Rattle.values.specs.declared.kind.Kind.{Kind}
use Rattle.values.specs.Kinds.{same_kind}
use Rattle.values.specs.Values.{Val, integer, kind_of}
use Rattle.commands.specs.Trees.{Behaviour}
use Rattle.heads.specs.Exchanges.{same_kinds}
use Rattle.processes.specs.Fronts.{Action, internal, sends, receives}
use Rattle.records.specs.declared.step.Step.{Step}
use Rattle.records.specs.Lists.{optional}
use Rattle.records.specs.Steps as step
use Rattle.steps.specs.Steps as steps
use Rattle.steps.specs.Steps.{over, agreed, target_kinds, steps_of, internal_by, send_by, receive_by, send_meets, receive_meets}
use Rattle.listing.specs.declared.offer.Offer.{Offer}
use Rattle.listing.specs.Offers.{kind_places, exchange, seen, offer_of, alike, agree, met, passing, common_channel, internal_steps, meeting_steps, meetings, outside_sends, outside_receives, listed, Holdable, HoldableAction, ArrivesBy}

-- kinds are the same where their places are
pub kinds_alike : (n : ℕ) (ks js : List Kind) → length ks ≤ n → length js ≤ n → alike (kind_places n ks) (kind_places n js) ≡ same_kinds ks js
kinds_alike zero [] [] h k = refl
kinds_alike zero [] (j ∷ js) h k = absurd (omega arith)
kinds_alike zero (k ∷ ks) js h l = absurd (omega arith)
kinds_alike (suc n) [] [] h k = kinds_alike n [] [] (omega arith) (omega arith)
kinds_alike (suc n) [] (j ∷ js) h k = refl
kinds_alike (suc n) (k ∷ ks) [] h l = refl
kinds_alike (suc n) (k ∷ ks) (j ∷ js) h l = ap (λ t. same_kind k j && t) (kinds_alike n ks js (omega arith) (omega arith))

-- lists of steps
over_passing : (o : Option ℕ) (s : ℕ → Step) → optional (passing o s) ≡ over o s
over_passing None s = refl
over_passing (Some k) s = refl

over_met : (s r : Offer) (m : ℕ) (o : Option ℕ) → optional (met s r m o) ≡ over o (λ k. step.meeting s.process s.front r.process r.front k m)
over_met s r m None = refl
over_met s r m (Some k) = refl

listed_when : (t : Bool) (s : Option Step) → optional (cond t s None) ≡ cond t (optional s) []
listed_when true s = refl
listed_when false s = refl

module _ {X Y : Type 0} (g : X → Y) (P : X → Type 0) (f : Y → List Step) (h : X → List Step) (same : (x : X) → P x → f (g x) ≡ h x) where
  joined_same : (xs : List X) → AllByRecursion P xs → flat_map f (map g xs) ≡ flat_map h xs
  joined_same [] a = refl
  joined_same (x ∷ xs) a = let e = same x a.0 in let r = joined_same xs a.1 in (λ i. e i ++ r i)

module _ (b : Behaviour) (t : List (Option ℕ)) (arrives : ArrivesBy t b) where
  internal_same : (o : steps.Offer) → internal_steps (offer_of o) ≡ steps.internal_steps o
  internal_same o = go o.process o.front.number o.variables o.front.does
    where
      go : (p n : ℕ) (vs : List Val) (a : Action) → internal_steps (seen p n vs a) ≡ internal_by p n a
      go p n vs internal = refl
      go p n vs (sends c m xs) = refl
      go p n vs (receives c m ws) = refl

  send_same : (o : steps.Offer) → Holdable o → outside_sends t (offer_of o) ≡ steps.outside_sends b o
  send_same o h = go o.process o.front.number o.variables o.front.does h.numbered h.action
    where
      go : (p n : ℕ) (vs : List Val) (a : Action) → p < 8 → HoldableAction a → outside_sends t (seen p n vs a) ≡ send_by b p n a
      go p n vs internal l h = refl
      go p n vs (sends c m xs) l h = over_passing _ _ ∙ ap (λ o. over o (λ k. step.outside_send p n k m)) (arrives.passes p c l h.0)
      go p n vs (receives c m ws) l h = refl

  receive_same : (o : steps.Offer) → Holdable o → outside_receives t (offer_of o) ≡ steps.outside_receives b o
  receive_same o h = go o.process o.front.number o.variables o.front.does h.numbered h.action
    where
      go : (p n : ℕ) (vs : List Val) (a : Action) → p < 8 → HoldableAction a → outside_receives t (seen p n vs a) ≡ receive_by b p n a
      go p n vs internal l h = refl
      go p n vs (sends c m xs) l h = refl
      go p n vs (receives c m ws) l h = over_passing _ _ ∙ ap (λ o. over o (λ k. step.outside_receive p n k m)) (arrives.passes p c l h.0)

  -- a send and a receive
  meets_same : (s r : steps.Offer) (c m d n : ℕ) (xs : List Val) (ws : List ℕ) → s.process < 8 → r.process < 8 → HoldableAction (sends c m xs) → HoldableAction (receives d n ws) →
      meeting_steps t (seen s.process s.front.number s.variables (sends c m xs)) (seen r.process r.front.number r.variables (receives d n ws))
      ≡ receive_meets b s r c m (map kind_of xs) (receives d n ws)
  meets_same s r c m d n xs ws p q h k =
      let p' = s.process in
      let q' = r.process in
      let few : length (map kind_of xs) ≤ 4 = omega (arith, length-map xs kind_of, h.1) in
      let fewer : length (target_kinds r.variables ws) ≤ 4 = omega (arith, length-map ws (λ w. kind_of (get_or r.variables w (integer None))), k.1) in
      let kinds = kinds_alike 4 (map kind_of xs) (target_kinds r.variables ws) few fewer in
      let a = arrives.meets p' q' c p q h.0 in
      let e = arrives.meets q' p' d q p k.0 in
      let S = seen p' s.front.number s.variables (sends c m xs) in
      let R = seen q' r.front.number r.variables (receives d n ws) in
      let found = met S R m (common_channel t p' c q' d) in
      let same = agree (exchange c m (map kind_of xs)) (exchange d n (target_kinds r.variables ws)) in
      listed_when (not (eqb p' q') && same) found
      ∙ ap (λ v. cond (not (eqb p' q') && (eqb m n && v)) (optional found) []) kinds
      ∙ ap (λ v. cond (not (eqb p' q') && (eqb m n && same_kinds (map kind_of xs) (target_kinds r.variables ws))) v [])
      (over_met S R m (common_channel t p' c q' d) ∙ (λ i. over (agreed (a i) (e i)) (λ k. step.meeting p' s.front.number q' r.front.number k m)))

  abbrev pair_meets : steps.Offer → steps.Offer → Action → Action → List Step
  pair_meets s r internal a' = []
  pair_meets s r (sends c m xs) a' = receive_meets b s r c m (map kind_of xs) a'
  pair_meets s r (receives c m ws) a' = []

  pair_is : (s r : steps.Offer) (a : Action) → pair_meets s r a r.front.does ≡ send_meets b s r a
  pair_is s r internal = refl
  pair_is s r (sends c m xs) = refl
  pair_is s r (receives c m ws) = refl

  pair_same : (s r : steps.Offer) (a a' : Action) → s.process < 8 → r.process < 8 → HoldableAction a → HoldableAction a' →
      meeting_steps t (seen s.process s.front.number s.variables a) (seen r.process r.front.number r.variables a')
      ≡ pair_meets s r a a'
  pair_same s r internal internal p q h k = refl
  pair_same s r internal (sends c m xs) p q h k = refl
  pair_same s r internal (receives c m ws) p q h k = refl
  pair_same s r (receives d n vs) internal p q h k = refl
  pair_same s r (receives d n vs) (sends c m xs) p q h k = refl
  pair_same s r (receives d n vs) (receives c m ws) p q h k = refl
  pair_same s r (sends d n ys) internal p q h k = refl
  pair_same s r (sends d n ys) (sends c m xs) p q h k = refl
  pair_same s r (sends d n ys) (receives c m ws) p q h k = meets_same s r d n c m ys ws p q h k

  meeting_same : (s r : steps.Offer) → Holdable s → Holdable r → meeting_steps t (offer_of s) (offer_of r) ≡ steps.meeting_steps b s r
  meeting_same s r h k = pair_same s r s.front.does r.front.does h.numbered k.numbered h.action k.action ∙ pair_is s r s.front.does

  meetings_same : (os : List steps.Offer) → AllByRecursion Holdable os → (s : steps.Offer) → Holdable s → meetings t (map offer_of os) (offer_of s) ≡ steps.meetings b os s
  unfolding meetings steps.meetings
  meetings_same os a s h = joined_same offer_of Holdable (meeting_steps t (offer_of s)) (steps.meeting_steps b s) (λ r k. meeting_same s r h k) os a

  pub listed_same : (os : List steps.Offer) → AllByRecursion Holdable os → listed t (map offer_of os) ≡ steps_of b os
  unfolding listed steps_of
  listed_same os a =
      let i = joined_same offer_of Holdable internal_steps steps.internal_steps (λ o h. internal_same o) os a in
      let m = joined_same offer_of Holdable (meetings t (map offer_of os)) (steps.meetings b os) (λ s h. meetings_same os a s h) os a in
      let s = joined_same offer_of Holdable (outside_sends t) (steps.outside_sends b) send_same os a in
      let r = joined_same offer_of Holdable (outside_receives t) (steps.outside_receives b) receive_same os a in
      (λ j. i j ++ (m j ++ (s j ++ r j)))
