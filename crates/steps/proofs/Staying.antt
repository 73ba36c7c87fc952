-- What a step leaves as it was, and what is kept.
use Rattle.std.proofs.Common.{◌≡◌, ℕ, zero, suc, ◌<◌, Bool, true, false, cond, ◌&&◌, eqb, ◌≢◌, List, [], ◌∷◌, ◌++◌, map, length, get_or, Some, None, Option, sym, refl, ap, ◌∙◌, arith}
use Rattle.std.specs.Prelude.{option_map}
use Rattle.std.specs.List.{slice_get, AllByRecursion}
use Rattle.std.proofs.Math.ListN.{get_or-map}
use Rattle.std.proofs.Math.Seq.{map-set_same}
use Rattle.std.proofs.lemmas.Option.{slice_get-map}
use Rattle.std.proofs.lemmas.List.{length-map, length-append, get_or-set_other}
use Rattle.std.proofs.lemmas.Bool.{or_parts, eqb-false}
use Rattle.values.specs.Values.{Val}
use Rattle.commands.specs.Trees.{Behaviour, process, parallel, hide, rename, Class, File}
use Rattle.admission.specs.Conditions.{ClassKept, BehaviourKept, Conditions, processes}
use Rattle.processes.proofs.Kept.{class_laws}
use Rattle.processes.specs.Fronts.{Front}
use Rattle.records.specs.declared.step.Step.{Step}
use Rattle.records.specs.Steps.{has}
use Rattle.steps.specs.Kept.{ProcessKept, ProcessPerProc, ModelKept}
use Rattle.steps.specs.Laws.{ProcLaws}
use Rattle.steps.specs.Models.{Process, Model, process_classes, class_numbered, fresh, start}
use Rattle.steps.specs.Taking.{ended, process_numbered, offered_front, gone_on, with_moved, moved, exchanged, after_step}

-- processes that are not in a step
with_moved_stays : (m : Model) (q n : ℕ) (got : List Val) (p : ℕ) → (q ≡ p → ⊥) → process_numbered (with_moved m q n got) p ≡ process_numbered m p
with_moved_stays m q n got p h = let ne : p ≢ q = λ e. h (sym e) in get_or-set_other m.processes q p (moved (process_numbered m q) n got) ended ne

pub others_stay : (m : Model) (s : Step) (given : List Val) (p : ℕ) → has p s ≡ false → process_numbered (after_step m s given) p ≡ process_numbered m p
others_stay m s given p h =
    let o = or_parts (eqb s.process p) (eqb s.kind 1 && eqb s.partner p) h in
    by (eqb s.kind 1) (with_moved_stays m s.process s.front xs p (eqb-false _ _ o.0)) o.1
  where
    xs : List Val
    xs = exchanged m s given

    next : Model
    next = with_moved m s.process s.front xs

    by : (t : Bool) → process_numbered next p ≡ process_numbered m p → (t && eqb s.partner p) ≡ false → process_numbered (cond t (with_moved next s.partner s.partner_front xs) next) p ≡ process_numbered m p
    by true e f = with_moved_stays next s.partner s.partner_front xs p (eqb-false _ _ f) ∙ e
    by false e f = e

either : {A : Type 0} (f : Model → A) (x : A) (t : Bool) (a b : Model) → f a ≡ x → f b ≡ x → f (cond t a b) ≡ x
either f x true a b p q = p
either f x false a b p q = q

pub classes_stay : (m : Model) (s : Step) (given : List Val) → (after_step m s given).classes ≡ m.classes
classes_stay m s given = either (λ z. z.classes) m.classes (eqb s.kind 1) _ _ refl refl

pub behaviour_stays : (m : Model) (s : Step) (given : List Val) → (after_step m s given).behaviour ≡ m.behaviour
behaviour_stays m s given = either (λ z. z.behaviour) m.behaviour (eqb s.kind 1) _ _ refl refl

-- each process keeps its class
class_gone : (one : Process) (o : Option Front) (got : List Val) → (gone_on one o got).class ≡ one.class
class_gone one None got = refl
class_gone one (Some x) got = refl

pub moved_classes : (m : Model) (p n : ℕ) (got : List Val) → map (λ one. one.class) (with_moved m p n got).processes ≡ map (λ one. one.class) m.processes
moved_classes m p n got =
    let one = process_numbered m p in
    map-set_same (λ (one : Process). one.class) m.processes p (moved one n got) ended (class_gone one (offered_front one n) got)

step_classes : (m : Model) (s : Step) (given : List Val) → map (λ one. one.class) (after_step m s given).processes ≡ map (λ one. one.class) m.processes
step_classes m s given =
    let xs = exchanged m s given in
    let next = with_moved m s.process s.front xs in
    let one = moved_classes m s.process s.front xs in
    either (λ z. map (λ one. one.class) z.processes) (map (λ one. one.class) m.processes) (eqb s.kind 1) (with_moved next s.partner s.partner_front xs) next
    (moved_classes next s.partner s.partner_front xs ∙ one) one

pub its_class_stays : (m : Model) (s : Step) (given : List Val) (p : ℕ) → (process_numbered (after_step m s given) p).class ≡ (process_numbered m p).class
its_class_stays m s given p =
    sym (get_or-map (λ (one : Process). one.class) (after_step m s given).processes p ended)
    ∙ ap (λ ks. get_or ks p 0) (step_classes m s given)
    ∙ get_or-map (λ (one : Process). one.class) m.processes p ended

-- a process for each PROC
pub step_per_proc : (m : Model) (s : Step) (given : List Val) → ProcessPerProc m → ProcessPerProc (after_step m s given)
step_per_proc m s given h = step_classes m s given ∙ h ∙ ap process_classes (sym (behaviour_stays m s given))

fresh_classes : (cs : List Class) (ks : List ℕ) → map (λ one. one.class) (map (fresh cs) ks) ≡ ks
fresh_classes cs [] = refl
fresh_classes cs (k ∷ ks) = ap (λ xs. k ∷ xs) (fresh_classes cs ks)

pub start_per_proc : (t : File) → ProcessPerProc (start t)
start_per_proc t = fresh_classes t.classes (process_classes t.behaviour)

pub count : (b : Behaviour) → length (process_classes b) ≡ processes b
count (process k) = refl
count (parallel a b) = length-append (process_classes a) (process_classes b) ∙ omega (arith, count a, count b)
count (hide s a) = count a
count (rename x y a) = count a

as_many : (m : Model) → ProcessPerProc m → length m.processes ≡ processes m.behaviour
as_many m h = sym (length-map m.processes (λ (one : Process). one.class)) ∙ ap length h ∙ count m.behaviour

of_class : (m : Model) (p : ℕ) (one : Process) → ProcessPerProc m → slice_get m.processes p ≡ Some one → slice_get (process_classes m.behaviour) p ≡ Some one.class
of_class m p one h e = ap (λ ks. slice_get ks p) (sym h) ∙ slice_get-map (λ (one : Process). one.class) m.processes p ∙ ap (option_map (λ (one : Process). one.class)) e

pub proc_laws : ProcLaws
proc_laws = record { start_per_proc = start_per_proc; step_per_proc = step_per_proc; as_many = as_many; of_class = of_class }

-- every process of a model that has one is one of its behaviour's
pub proc_exists : (m : Model) (p : ℕ) → ModelKept m → p < length m.processes → p < processes m.behaviour
proc_exists m p k h = omega (arith, as_many m (k.per_proc (omega arith)))

-- the start
pub class_kept : (cs : List Class) (k : ℕ) → AllByRecursion ClassKept cs → k < length cs → ClassKept (class_numbered cs k)
class_kept [] k a h = absurd (omega arith)
class_kept (c ∷ cs) zero a h = a.0
class_kept (c ∷ cs) (suc k) a h = class_kept cs k a.1 (omega arith)

pub all_append : {A : Type 0} (P : A → Type 0) (xs ys : List A) → AllByRecursion P xs → AllByRecursion P ys → AllByRecursion P (xs ++ ys)
all_append P [] ys a b = b
all_append P (x ∷ xs) ys a b = (a.0, all_append P xs ys a.1 b)

pub classes_exist : (n : ℕ) (b : Behaviour) → BehaviourKept n b → AllByRecursion (λ k. k < n) (process_classes b)
classes_exist n (process k) h = (h, tt)
classes_exist n (parallel a b) h = all_append (λ k. k < n) (process_classes a) (process_classes b) (classes_exist n a h.0) (classes_exist n b h.1)
classes_exist n (hide s a) h = classes_exist n a h.1
classes_exist n (rename x y a) h = classes_exist n a h.2

fresh_kept : (cs : List Class) → AllByRecursion ClassKept cs → (ks : List ℕ) → AllByRecursion (λ k. k < length cs) ks → AllByRecursion (ProcessKept cs) (map (fresh cs) ks)
fresh_kept cs a [] h = tt
fresh_kept cs a (k ∷ ks) h =
    (record { of_class = h.0; process = class_laws.fresh (class_numbered cs k) (class_kept cs k a h.0) }, fresh_kept cs a ks h.1)

pub start_kept : (t : File) → Conditions t → ModelKept (start t)
start_kept t h =
    record {
      classes_kept = h.classes_kept;
      processes_kept = fresh_kept t.classes h.classes_kept _ (classes_exist _ t.behaviour h.behaviour_kept);
      few = omega (arith, length-map (process_classes t.behaviour) (fresh t.classes), count t.behaviour, h.processes_few);
      per_proc = λ n. start_per_proc t;
    }
