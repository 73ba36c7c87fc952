-- A process has no front exactly when it has ended or waits only at guards that are not true.
use Rattle.std.proofs.Common.{◌≡◌, ℕ, ◌+◌, Bool, true, false, cond, not, List, [], ◌∷◌, ◌++◌, map, Some, None, sym, refl, ap, subst, inl, inr, ⊎_elim, arith}
use Rattle.values.specs.Values.{Val, integer, boolean}
use Rattle.commands.specs.Trees.{Stmt, skip, assign, send, receive, sequence, select, guard, branch, loop}
use Rattle.admission.specs.Conditions.{most_fronts}
use Rattle.processes.specs.Evaluation.{eval}
use Rattle.processes.specs.Fronts.{Front, front, internal, is_true, is_false, offered, behind, fronts, process_fronts}
use Rattle.processes.specs.Waiting.{Place, at_command, Waits, ProcessWaits, IsGuard, FrontsAndWaiting}

not_empty : {A : Type 0} (x : Front) (xs : List Front) → (x ∷ xs) ≡ [] → A
not_empty x xs e = absurd (let z : ◌≡◌ {A = ℕ} 0 1 = cc in omega arith)

both_empty : (xs ys : List Front) → (xs ++ ys) ≡ [] → (xs ≡ []) × (ys ≡ [])
both_empty [] ys e = (refl, e)
both_empty (x ∷ xs) ys e = not_empty x (xs ++ ys) e

-- one way at least is offered
some_way : {A : Type 0} (v : Val) (x y : Front) → (offered (not (is_false v)) x ++ offered (not (is_true v)) y) ≡ [] → A
some_way (integer n) x y e = not_empty x _ e
some_way (boolean None) x y e = not_empty x _ e
some_way (boolean (Some true)) x y e = not_empty x _ e
some_way (boolean (Some false)) x y e = not_empty y _ e

guarded : (b : Bool) (xs : List Front) → cond b xs [] ≡ [] → b ≡ true → xs ≡ []
guarded true xs e h = e
guarded false xs e h = absurd (let z : ◌≡◌ {A = ℕ} 0 1 = cc in omega arith)

none_behind : (rest : List Stmt) (fs : List Front) → map (behind rest) fs ≡ [] → fs ≡ []
none_behind rest [] e = refl
none_behind rest (x ∷ fs) e = not_empty (behind rest x) (map (behind rest) fs) e

none_of : (vs : List Val) (n : ℕ) (s : Stmt) → fronts vs n s ≡ [] → (w : Place) → Waits vs s w → IsGuard w
none_of vs n skip e w h = not_empty _ _ e
none_of vs n (assign v x) e w h = not_empty _ _ e
none_of vs n (send c m es) e w h = not_empty _ _ e
none_of vs n (receive c m ws) e w h = not_empty _ _ e
none_of vs n (sequence a b) e w h = none_of vs n a (none_behind (b ∷ []) (fronts vs n a) e) w h
none_of vs n (select a b) e w h =
    let p = both_empty (fronts vs n a) (fronts vs (n + most_fronts a) b) e in
    ⊎_elim (none_of vs n a p.0 w) (none_of vs (n + most_fronts a) b p.1 w) h
none_of vs n (guard x a) e w h =
    ⊎_elim (λ g. subst IsGuard (sym g.1) tt) (λ g. none_of vs n a (guarded (is_true (eval x vs)) (fronts vs n a) e g.0) w g.1) h
none_of vs n (branch x a b) e w h = some_way (eval x vs) (front n internal vs (a ∷ [])) (front (n + 1) internal vs (b ∷ [])) e
none_of vs n (loop x a) e w h = some_way (eval x vs) (front n internal vs (a ∷ loop x a ∷ [])) (front (n + 1) internal vs []) e

by_guard : (b : Bool) (xs : List Front) → (b ≡ true → xs ≡ []) → cond b xs [] ≡ []
by_guard true xs h = h refl
by_guard false xs h = refl

no_front : (vs : List Val) (n : ℕ) (s : Stmt) → ((w : Place) → Waits vs s w → IsGuard w) → fronts vs n s ≡ []
no_front vs n skip h = absurd (h (at_command skip) refl)
no_front vs n (assign v x) h = absurd (h (at_command (assign v x)) refl)
no_front vs n (send c m es) h = absurd (h (at_command (send c m es)) refl)
no_front vs n (receive c m ws) h = absurd (h (at_command (receive c m ws)) refl)
no_front vs n (sequence a b) h = ap (map (behind (b ∷ []))) (no_front vs n a h)
no_front vs n (select a b) h =
    let p = no_front vs n a (λ w k. h w (inl k)) in
    let q = no_front vs (n + most_fronts a) b (λ w k. h w (inr k)) in
    (λ i. p i ++ q i)
no_front vs n (guard x a) h = by_guard (is_true (eval x vs)) (fronts vs n a) (λ t. no_front vs n a (λ w k. h w (inr (t, k))))
no_front vs n (branch x a b) h = absurd (h (at_command (branch x a b)) refl)
no_front vs n (loop x a) h = absurd (h (at_command (loop x a)) refl)

pub fronts_and_waiting : FrontsAndWaiting
fronts_and_waiting = record { none = none; only_guards = only_guards }
  where
    none : (vs : List Val) (left : List Stmt) → process_fronts vs left ≡ [] → (w : Place) → ProcessWaits vs left w → IsGuard w
    none vs [] e w h = absurd h
    none vs (s ∷ rest) e w h = none_of vs 0 s (none_behind rest (fronts vs 0 s) e) w h

    only_guards : (vs : List Val) (left : List Stmt) → ((w : Place) → ProcessWaits vs left w → IsGuard w) → process_fronts vs left ≡ []
    only_guards vs [] h = refl
    only_guards vs (s ∷ rest) h = ap (map (behind rest)) (no_front vs 0 s h)
