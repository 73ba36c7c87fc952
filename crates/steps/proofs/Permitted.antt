-- What the front of an offer may do, and the model after it.
use Rattle.std.proofs.Common.{◌≡◌, ℕ, true, false, List, [], ◌∷◌, map, Some, sym, refl, ap, ◌∙◌, subst, arith}
use Rattle.std.proofs.lemmas.List.{length-set}
use Rattle.values.specs.declared.kind.Kind.{Kind}
use Rattle.values.specs.Values.{Val, kind_of}
use Rattle.commands.specs.Trees.{Class}
use Rattle.heads.specs.Exchanges.{exchange}
use Rattle.admission.specs.Conditions.{Declares, HaveKinds}
use Rattle.processes.proofs.Kept.{variable_kind, class_laws, permitted_by, brings_in}
use Rattle.processes.specs.Classes.{PermittedBy, BringsOver, FrontOf}
use Rattle.processes.specs.Fronts.{Action, internal, sends, receives, front, process_fronts}
use Rattle.steps.specs.Declaring.{class_of}
use Rattle.steps.specs.Kept.{ProcessKept, ModelKept}
use Rattle.steps.specs.Models.{Model, class_numbered}
use Rattle.steps.specs.Steps.{Offer, target_kinds}
use Rattle.steps.specs.Taking.{process_numbered, offered_front, gone_on, moved, with_moved, sent, wanted}
use Rattle.steps.proofs.Members.{place_in, all_in, all_set}
use Rattle.steps.proofs.Offered.{front_found, OfferOf, process_is}
use Rattle.steps.proofs.Sources.{Quiet}
use Rattle.steps.proofs.Staying.{class_kept, moved_classes}

-- the kinds of variables that exist
pub targets_have : (vs : List Val) (ws : List ℕ) (js : List Kind) → HaveKinds (map kind_of vs) ws js → target_kinds vs ws ≡ js
targets_have vs [] [] h = refl
targets_have vs [] (j ∷ js) h = absurd h
targets_have vs (w ∷ ws) [] h = absurd h
targets_have vs (w ∷ ws) (j ∷ js) h = let p = variable_kind vs w j h.0 in let q = targets_have vs ws js h.1 in (λ i. p i ∷ q i)

quiet_brings : (ks : List Kind) (a : Action) (got : List Val) → Quiet a → BringsOver ks a got
quiet_brings ks internal got h = tt
quiet_brings ks (sends c m xs) got h = absurd h
quiet_brings ks (receives c m ws) got h = absurd h

module _ (m : Model) (o : Offer) (h : OfferOf m o) where
  pub front_is : offered_front (process_numbered m o.process) o.front.number ≡ Some o.front
  front_is = ap (λ w. offered_front w o.front.number) (process_is m o.process h.one h.numbered) ∙ front_found h.one o.front h.front

  pub sent_is : (c n : ℕ) (xs : List Val) → o.front.does ≡ sends c n xs → sent (offered_front (process_numbered m o.process) o.front.number) ≡ xs
  sent_is c n xs e = ap sent front_is ∙ ap (λ a. sent (Some (front o.front.number a o.front.variables o.front.leaves))) e

  pub wanted_is : (c n : ℕ) (ws : List ℕ) → o.front.does ≡ receives c n ws → wanted (process_numbered m o.process).variables (offered_front (process_numbered m o.process) o.front.number) ≡ target_kinds h.one.variables ws
  wanted_is c n ws e =
      ap (λ w. wanted w.variables (offered_front (process_numbered m o.process) o.front.number)) (process_is m o.process h.one h.numbered)
      ∙ ap (wanted h.one.variables) front_is
      ∙ ap (λ a. wanted h.one.variables (Some (front o.front.number a o.front.variables o.front.leaves))) e

  module _ (k : ModelKept m) where
    abbrev its_class : Class
    its_class = class_numbered m.classes h.one.class

    one_kept : ProcessKept m.classes h.one
    one_kept = all_in (ProcessKept m.classes) m.processes k.processes_kept h.one (place_in h.one m.processes o.process h.numbered)

    front_of : FrontOf its_class o.front
    front_of =
        all_in (FrontOf its_class) (process_fronts h.one.variables h.one.left)
        (class_laws.fronts_kept its_class h.one.variables h.one.left (class_kept m.classes h.one.class k.classes_kept one_kept.of_class) one_kept.process)
        o.front h.front

    permitted : (a : Action) → o.front.does ≡ a → PermittedBy (map kind_of its_class.variables) its_class.declarations a
    permitted a e = subst (PermittedBy (map kind_of its_class.variables) its_class.declarations) e (permitted_by its_class o.front.does front_of.permitted)

    abbrev pub OwnBrings : List Val → Type 0
    OwnBrings got = BringsOver (map kind_of its_class.variables) o.front.does got

    pub receives_own : (c n : ℕ) (ws : List ℕ) (js : List Kind) → o.front.does ≡ receives c n ws → target_kinds h.one.variables ws ≡ js → HaveKinds (map kind_of its_class.variables) ws js × Declares its_class.declarations (exchange true c n js)
    receives_own c n ws js e t =
        let q = permitted (receives c n ws) e in
        let same : q.0 ≡ js = sym (targets_have h.one.variables ws q.0 (subst (λ ks. HaveKinds ks ws q.0) (sym one_kept.process.kinds) q.1)) ∙ t in
        (subst (HaveKinds (map kind_of its_class.variables) ws) same q.1, subst (λ ks. Declares its_class.declarations (exchange true c n ks)) same q.2)

    -- values that it may bring
    pub brings_quiet : (got : List Val) → Quiet o.front.does → OwnBrings got
    brings_quiet got q = quiet_brings _ o.front.does got q

    pub brings_sent : (c n : ℕ) (xs got : List Val) → o.front.does ≡ sends c n xs → OwnBrings got
    brings_sent c n xs got e = subst (λ a. BringsOver (map kind_of its_class.variables) a got) (sym e) tt

    pub brings_received : (c n : ℕ) (ws : List ℕ) (got : List Val) → o.front.does ≡ receives c n ws → target_kinds h.one.variables ws ≡ map kind_of got → OwnBrings got
    brings_received c n ws got e t = subst (λ a. BringsOver (map kind_of its_class.variables) a got) (sym e) (receives_own c n ws (map kind_of got) e t).0

    -- what its class declares
    pub declares_sent : (c n : ℕ) (xs : List Val) → o.front.does ≡ sends c n xs → Declares (class_of m o.process).declarations (exchange false c n (map kind_of xs))
    declares_sent c n xs e =
        subst (λ w. Declares (class_numbered m.classes w.class).declarations (exchange false c n (map kind_of xs))) (sym (process_is m o.process h.one h.numbered)) (permitted (sends c n xs) e)

    pub declares_received : (c n : ℕ) (ws : List ℕ) (js : List Kind) → o.front.does ≡ receives c n ws → target_kinds h.one.variables ws ≡ js → Declares (class_of m o.process).declarations (exchange true c n js)
    declares_received c n ws js e t =
        subst (λ w. Declares (class_numbered m.classes w.class).declarations (exchange true c n js)) (sym (process_is m o.process h.one h.numbered)) (receives_own c n ws js e t).1

    -- the model after it
    moved_is : (got : List Val) → moved (process_numbered m o.process) o.front.number got ≡ gone_on h.one (Some o.front) got
    moved_is got = ap (λ w. moved w o.front.number got) (process_is m o.process h.one h.numbered) ∙ ap (λ w. gone_on h.one w got) (front_found h.one o.front h.front)

    pub moved_kept : (got : List Val) → OwnBrings got → ModelKept (with_moved m o.process o.front.number got)
    moved_kept got b =
        let there : ProcessKept m.classes (gone_on h.one (Some o.front) got) = record { of_class = one_kept.of_class; process = front_of.goes_on got (brings_in its_class o.front.does got b) } in
        record {
          classes_kept = k.classes_kept;
          processes_kept = all_set (ProcessKept m.classes) m.processes o.process _ k.processes_kept (subst (ProcessKept m.classes) (sym (moved_is got)) there);
          few = omega (arith, length-set m.processes o.process (moved (process_numbered m o.process) o.front.number got), k.few);
          per_proc = λ n. moved_classes m o.process o.front.number got ∙ k.per_proc (omega (arith, n, length-set m.processes o.process (moved (process_numbered m o.process) o.front.number got)));
        }
