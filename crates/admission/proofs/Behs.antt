-- The check of a behaviour accepts exactly the behaviours that keep the conditions.
use Rattle.std.proofs.Common.{◌≡◌, ℕ, zero, suc, ◌+◌, ◌-◌, ◌<◌, ◌≤◌, ◌&&◌, eqb, ltb, List, drop, Some, Ok, sym, refl, ap, ◌∙◌, subst, arith, ltb-true, lt-ltb, eq-eqb, eqb-true}
use Rattle.commands.specs.declared.behaviour.BehaviourCommand.{BehaviourCommand}
use Rattle.commands.specs.declared.behaviour.BehaviourCommand.TheVariants.{Proc, Par, Hide, Rename}
use Rattle.commands.specs.Behaviours.{behaviour_command}
use Rattle.commands.specs.Depths.{behaviour_depth}
use Rattle.commands.specs.Stands.{BehaviourAt}
use Rattle.commands.specs.Trees.{Behaviour, process, parallel, hide, rename, behaviour_size}
use Rattle.answers.specs.declared.fault.FaultKind.TheVariants.{Command, Operand, Processes}
use Rattle.answers.specs.declared.fault.Layer.TheVariants.{Behaviour as BehaviourL}
use Rattle.heads.specs.Checked.{known}
use Rattle.files.specs.Behaviours.{Procs, behaviour_parts, check_behaviour}
use Rattle.commands.specs.ByteLists.{Bytes}
use Rattle.admission.specs.Conditions.{BehaviourKept, processes}
use Rattle.admission.proofs.Oks.{bind_ok, ask_ok, known_ok, both_true, ok_is}
use Rattle.admission.proofs.Ranges.{set_below}

-- a tree that keeps the conditions stands at the place, and the check answered its end and the PROCs up to there
pub record BehaviourFound (d : ℕ) (f : List ℕ) (n at procs : ℕ) (e : Procs) (t : Behaviour) : Type 0 where
  pub stands : BehaviourAt f at t
  pub ends : e.0 ≡ at + behaviour_size t
  pub kept : BehaviourKept n t
  pub deep : behaviour_depth t ≤ d
  pub counted : e.1 ≡ procs + processes t
  pub few : procs + processes t ≤ 8

module _ (d : ℕ) (f : List ℕ) (bs : Bytes f) (n : ℕ) (below : (at procs : ℕ) (e : Procs) → check_behaviour d f n at procs ≡ Ok e → (t : Behaviour) × BehaviourFound d f n at procs e t) (at procs : ℕ) (e : Procs) where
  behaviour_from_parts : (c : BehaviourCommand) → behaviour_command (drop at f) ≡ Some c → behaviour_parts (λ p k. check_behaviour d f n p k) n procs at c ≡ Ok e → (t : Behaviour) × BehaviourFound (suc d) f n at procs e t
  behaviour_from_parts (Proc c) s h =
      let p = ask_ok (ltb c n) Operand at BehaviourL _ e h in
      let r = ask_ok (ltb procs 8) Processes at BehaviourL _ e p.1 in
      let q : ◌≡◌ {A = Procs} (at + 2, procs + 1) e = ok_is _ _ r.1 in
      (process c, record { stands = s; ends = sym (ap (λ x. x.0) q); kept = ltb-true c n p.0; deep = omega arith; counted = sym (ap (λ x. x.1) q); few = omega (arith, ltb-true procs 8 r.0) })
  behaviour_from_parts (Par m) s h =
      let p = bind_ok (check_behaviour d f n (at + 3) procs) _ e h in
      let a = p.0 in
      let r = ask_ok (eqb a.0 m) Command at BehaviourL _ e p.2 in
      let x = below (at + 3) procs a p.1 in
      let y = below a.0 a.1 e r.1 in
      let place : a.0 ≡ m = eqb-true a.0 m r.0 in (
        parallel x.0 y.0,
        record {
          stands = (s ∙ ap (λ i. Some (Par i)) (sym place ∙ x.1.ends), x.1.stands, subst (λ i. BehaviourAt f i y.0) x.1.ends y.1.stands);
          ends = omega (arith, x.1.ends, y.1.ends);
          kept = (x.1.kept, y.1.kept);
          deep = omega (arith, x.1.deep, y.1.deep);
          counted = omega (arith, x.1.counted, y.1.counted);
          few = omega (arith, x.1.counted, y.1.few);
        },
      )
  behaviour_from_parts (Hide set) s h =
      let x = below (at + 5) procs e h in (
        hide set x.0,
        record {
          stands = (s, x.1.stands);
          ends = omega (arith, x.1.ends);
          kept = (set_below f at set bs s, x.1.kept);
          deep = omega (arith, x.1.deep);
          counted = x.1.counted;
          few = x.1.few;
        },
      )
  behaviour_from_parts (Rename from to) s h =
      let p = ask_ok (ltb from 32 && ltb to 32) Operand at BehaviourL _ e h in
      let b = both_true (ltb from 32) (ltb to 32) p.0 in
      let x = below (at + 3) procs e p.1 in (
        rename from to x.0,
        record {
          stands = (s, x.1.stands);
          ends = omega (arith, x.1.ends);
          kept = (ltb-true from 32 b.0, ltb-true to 32 b.1, x.1.kept);
          deep = omega (arith, x.1.deep);
          counted = x.1.counted;
          few = x.1.few;
        },
      )

pub behaviour_sound : (d : ℕ) (f : List ℕ) → Bytes f → (n at procs : ℕ) (e : Procs) → check_behaviour d f n at procs ≡ Ok e → (t : Behaviour) × BehaviourFound d f n at procs e t
unfolding check_behaviour
behaviour_sound zero f bs n at procs e h = let p = bind_ok (known (behaviour_command (drop at f)) Command at BehaviourL) _ e h in let w = p.2 in absurd (let z : ◌≡◌ {A = ℕ} 0 1 = cc in omega arith)
behaviour_sound (suc d) f bs n at procs e h =
    let p = bind_ok (known (behaviour_command (drop at f)) Command at BehaviourL) _ e h in
    behaviour_from_parts d f bs n (λ at' procs' e'. behaviour_sound d f bs n at' procs' e') at procs e p.0 (known_ok _ Command at BehaviourL _ p.1) p.2

pub behaviour_step : (c : BehaviourCommand) (d : ℕ) (f : List ℕ) (n at procs : ℕ) → behaviour_command (drop at f) ≡ Some c → 0 < d → check_behaviour d f n at procs ≡ behaviour_parts (λ p k. check_behaviour (d - 1) f n p k) n procs at c
unfolding check_behaviour
behaviour_step c zero f n at procs e h = absurd (omega arith)
behaviour_step c (suc d) f n at procs e h = let less : suc d - 1 ≡ d = omega arith in rw (less, e)

pub behaviour_complete : (t : Behaviour) (d : ℕ) (f : List ℕ) (n at procs : ℕ) → BehaviourAt f at t → BehaviourKept n t → behaviour_depth t ≤ d → procs + processes t ≤ 8 → check_behaviour d f n at procs ≡ Ok (at + behaviour_size t, procs + processes t)
behaviour_complete (process c) d f n at procs s k deep few =
    rw (behaviour_step (Proc c) d f n at procs s (omega arith), lt-ltb c n k, lt-ltb procs 8 (omega arith))
behaviour_complete (parallel a b) d f n at procs s k deep few =
    let m = at + 3 + behaviour_size a in
    let first : check_behaviour (d - 1) f n (at + 3) procs ≡ Ok (m, procs + processes a) = behaviour_complete a (d - 1) f n (at + 3) procs s.1 k.0 (omega arith) (omega arith) in
    let second : check_behaviour (d - 1) f n m (procs + processes a) ≡ Ok (m + behaviour_size b, procs + processes a + processes b) = behaviour_complete b (d - 1) f n m (procs + processes a) s.2 k.1 (omega arith) (omega arith) in
    let here = eq-eqb m m refl in
    let long : m + behaviour_size b ≡ at + (3 + behaviour_size a + behaviour_size b) = omega arith in
    let sum : procs + processes a + processes b ≡ procs + (processes a + processes b) = omega arith in
    rw (behaviour_step (Par m) d f n at procs s.0 (omega arith), first, here, second, long, sum)
behaviour_complete (hide set a) d f n at procs s k deep few =
    let only : check_behaviour (d - 1) f n (at + 5) procs ≡ Ok (at + 5 + behaviour_size a, procs + processes a) = behaviour_complete a (d - 1) f n (at + 5) procs s.1 k.1 (omega arith) few in
    let long : at + 5 + behaviour_size a ≡ at + (5 + behaviour_size a) = omega arith in
    rw (behaviour_step (Hide set) d f n at procs s.0 (omega arith), only, long)
behaviour_complete (rename x y a) d f n at procs s k deep few =
    let only : check_behaviour (d - 1) f n (at + 3) procs ≡ Ok (at + 3 + behaviour_size a, procs + processes a) = behaviour_complete a (d - 1) f n (at + 3) procs s.1 k.2 (omega arith) few in
    let long : at + 3 + behaviour_size a ≡ at + (3 + behaviour_size a) = omega arith in
    rw (behaviour_step (Rename x y) d f n at procs s.0 (omega arith), lt-ltb x 32 k.0, lt-ltb y 32 k.1, only, long)
