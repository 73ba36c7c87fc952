-- The fronts of a process are of the commands at which it waits.
use Rattle.std.proofs.Common.{◌≡◌, ℕ, ◌+◌, Bool, true, false, cond, not, List, [], ◌∷◌, ◌++◌, map, Some, None, sym, refl, ap, subst, inl, inr, ⊎_elim, arith}
use Rattle.values.specs.Values.{Val, integer, boolean}
use Rattle.commands.specs.Trees.{Expr, Stmt, skip, assign, send, receive, sequence, select, guard, branch, loop}
use Rattle.admission.specs.Conditions.{most_fronts}
use Rattle.processes.specs.Evaluation.{eval}
use Rattle.processes.specs.Fronts.{Action, internal, sends, receives, Front, front, is_true, is_false, offered, behind, fronts, process_fronts}
use Rattle.processes.specs.Waiting.{Place, at_guard, at_command, Waits, ProcessWaits}
use Rattle.steps.proofs.Members.{In, in_left, in_right, in_either}

-- what a front does where its process waits at a command
abbrev pub Does : List Val → Stmt → Action → Type 0
Does vs skip a = a ≡ internal
Does vs (assign v e) a = a ≡ internal
Does vs (send c m es) a = a ≡ sends c m (map (λ e. eval e vs) es)
Does vs (receive c m ws) a = a ≡ receives c m ws
Does vs (sequence a b) x = ⊥
Does vs (select a b) x = ⊥
Does vs (guard e a) x = ⊥
Does vs (branch e a b) x = x ≡ internal
Does vs (loop e a) x = x ≡ internal

-- a front for a command at which a statement waits
pub record FrontFor (vs : List Val) (xs : List Front) (t : Stmt) : Type 0 where
  pub front : Front
  pub here : In front xs
  pub does : Does vs t front.does

-- a command at which a statement waits, for a front
pub record WaitFor (vs : List Val) (Wait : Place → Type 0) (x : Front) : Type 0 where
  pub command : Stmt
  pub waits : Wait (at_command command)
  pub does : Does vs command x.does

command_is : (s t : Stmt) → at_command s ≡ at_command t → s ≡ t
command_is s t h = cc h

no_guard : (e : Expr) (t : Stmt) → at_command t ≡ at_guard e → ⊥
no_guard e t h = let z : ◌≡◌ {A = ℕ} 0 1 = cc in omega arith

-- one way at least is offered, and each is internal
some_way : (v : Val) (n : ℕ) (us : List Val) (x y : List Stmt) → (f : Front) × In f (offered (not (is_false v)) (front n internal us x) ++ offered (not (is_true v)) (front (n + 1) internal us y)) × (f.does ≡ internal)
some_way (integer z) n us x y = (front n internal us x, inl refl, refl)
some_way (boolean None) n us x y = (front n internal us x, inl refl, refl)
some_way (boolean (Some true)) n us x y = (front n internal us x, inl refl, refl)
some_way (boolean (Some false)) n us x y = (front (n + 1) internal us y, inl refl, refl)

offered_is : (t : Bool) (x f : Front) → In f (offered t x) → f ≡ x
offered_is true x f h = ⊎_elim (λ e. e) (λ k. absurd k) h
offered_is false x f h = absurd h

each_internal : (a b : Bool) (n k : ℕ) (us : List Val) (x y : List Stmt) (f : Front) → In f (offered a (front n internal us x) ++ offered b (front k internal us y)) → f.does ≡ internal
each_internal a b n k us x y f h =
    ⊎_elim (λ l. ap (λ z. z.does) (offered_is a (front n internal us x) f l)) (λ l. ap (λ z. z.does) (offered_is b (front k internal us y) f l)) (in_either f (offered a (front n internal us x)) _ h)

open_in : (b : Bool) (xs : List Front) (x : Front) → In x (cond b xs []) → (b ≡ true) × In x xs
open_in true xs x h = (refl, h)
open_in false xs x h = absurd h

-- what stands behind changes nothing of what a front does
in_behind : (rest : List Stmt) (x : Front) (fs : List Front) → In x fs → In (behind rest x) (map (behind rest) fs)
in_behind rest x [] h = absurd h
in_behind rest x (y ∷ fs) h = ⊎_elim (λ e. inl (ap (behind rest) e)) (λ k. inr (in_behind rest x fs k)) h

from_behind : (rest : List Stmt) (x : Front) (fs : List Front) → In x (map (behind rest) fs) → (y : Front) × In y fs × (x.does ≡ y.does)
from_behind rest x [] h = absurd h
from_behind rest x (y ∷ fs) h = ⊎_elim (λ e. (y, inl refl, ap (λ z. z.does) e)) (λ k. let p = from_behind rest x fs k in (p.0, inr p.1, p.2)) h

for_behind : {vs : List Val} (rest : List Stmt) (fs : List Front) (t : Stmt) → FrontFor vs fs t → FrontFor vs (map (behind rest) fs) t
for_behind rest fs t q = record { front = behind rest q.front; here = in_behind rest q.front fs q.here; does = q.does }

module _ (vs : List Val) where
  module _ (t : Stmt) where
    one_front : (n : ℕ) (s : Stmt) (a : Action) (us : List Val) (rest : List Stmt) → at_command t ≡ at_command s → Does vs s a → FrontFor vs (front n a us rest ∷ []) t
    one_front n s a us rest e d = record { front = front n a us rest; here = inl refl; does = subst (λ z. Does vs z a) (sym (command_is t s e)) d }

    two_fronts : (n : ℕ) (s : Stmt) (v : Val) (x y : List Stmt) → at_command t ≡ at_command s → ((a : Action) → a ≡ internal → Does vs s a) → FrontFor vs (offered (not (is_false v)) (front n internal vs x) ++ offered (not (is_true v)) (front (n + 1) internal vs y)) t
    two_fronts n s v x y e d = let w = some_way v n vs x y in record { front = w.0; here = w.1; does = subst (λ z. Does vs z w.0.does) (sym (command_is t s e)) (d _ w.2) }

    waits_front : (n : ℕ) (s : Stmt) → Waits vs s (at_command t) → FrontFor vs (fronts vs n s) t
    waits_front n skip h = one_front n skip internal _ [] h refl
    waits_front n (assign v e) h = one_front n (assign v e) _ _ [] h refl
    waits_front n (send c m es) h = one_front n (send c m es) _ _ [] h refl
    waits_front n (receive c m ws) h = one_front n (receive c m ws) _ _ [] h refl
    waits_front n (sequence a b) h = for_behind (b ∷ []) (fronts vs n a) t (waits_front n a h)
    waits_front n (select a b) h =
        ⊎_elim
        (λ k. let q = waits_front n a k in record { front = q.front; here = in_left _ _ _ q.here; does = q.does })
        (λ k. let q = waits_front (n + most_fronts a) b k in record { front = q.front; here = in_right _ (fronts vs n a) _ q.here; does = q.does })
        h
    waits_front n (guard e a) h =
        ⊎_elim (λ k. absurd (no_guard e t k.1)) (λ k. let q = waits_front n a k.1 in let o = k.0 in rw o q) h
    waits_front n (branch e a b) h = two_fronts n (branch e a b) (eval e vs) (a ∷ []) (b ∷ []) h (λ x i. i)
    waits_front n (loop e a) h = two_fronts n (loop e a) (eval e vs) (a ∷ loop e a ∷ []) [] h (λ x i. i)

  only : (x : Front) (n : ℕ) (s : Stmt) (a : Action) (us : List Val) (rest : List Stmt) → In x (front n a us rest ∷ []) → Waits vs s (at_command s) → Does vs s a → WaitFor vs (Waits vs s) x
  only x n s a us rest h w d = ⊎_elim (λ e. record { command = s; waits = w; does = subst (λ z. Does vs s z.does) (sym e) d }) (λ k. absurd k) h

  front_waits : (x : Front) (n : ℕ) (s : Stmt) → In x (fronts vs n s) → WaitFor vs (Waits vs s) x
  front_waits x n skip h = only x n skip _ _ [] h refl refl
  front_waits x n (assign v e) h = only x n (assign v e) _ _ [] h refl refl
  front_waits x n (send c m es) h = only x n (send c m es) _ _ [] h refl refl
  front_waits x n (receive c m ws) h = only x n (receive c m ws) _ _ [] h refl refl
  front_waits x n (sequence a b) h =
      let p = from_behind (b ∷ []) x (fronts vs n a) h in
      let q = front_waits p.0 n a p.1 in
      record { command = q.command; waits = q.waits; does = subst (Does vs q.command) (sym p.2) q.does }
  front_waits x n (select a b) h =
      ⊎_elim
      (λ k. let q = front_waits x n a k in record { command = q.command; waits = inl q.waits; does = q.does })
      (λ k. let q = front_waits x (n + most_fronts a) b k in record { command = q.command; waits = inr q.waits; does = q.does })
      (in_either x (fronts vs n a) _ h)
  front_waits x n (guard e a) h =
      let o = open_in (is_true (eval e vs)) (fronts vs n a) x h in
      let q = front_waits x n a o.1 in
      record { command = q.command; waits = inr (o.0, q.waits); does = q.does }
  front_waits x n (branch e a b) h =
      record { command = branch e a b; waits = refl; does = each_internal (not (is_false (eval e vs))) (not (is_true (eval e vs))) n (n + 1) vs (a ∷ []) (b ∷ []) x h }
  front_waits x n (loop e a) h =
      record { command = loop e a; waits = refl; does = each_internal (not (is_false (eval e vs))) (not (is_true (eval e vs))) n (n + 1) vs (a ∷ loop e a ∷ []) [] x h }

  pub waiting_front : (left : List Stmt) (t : Stmt) → ProcessWaits vs left (at_command t) → FrontFor vs (process_fronts vs left) t
  waiting_front [] t h = absurd h
  waiting_front (s ∷ rest) t h = for_behind rest (fronts vs 0 s) t (waits_front t 0 s h)

  pub front_waiting : (left : List Stmt) (x : Front) → In x (process_fronts vs left) → WaitFor vs (ProcessWaits vs left) x
  front_waiting [] x h = absurd h
  front_waiting (s ∷ rest) x h =
      let p = from_behind rest x (fronts vs 0 s) h in
      let q = front_waits p.0 0 s p.1 in
      record { command = q.command; waits = q.waits; does = subst (Does vs q.command) (sym p.2) q.does }
