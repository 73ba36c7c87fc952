-- Every run keeps the rules of runs, and is the only one that does.
use Rattle.std.proofs.Common.{◌≡◌, ℕ, zero, suc, ◌-◌, ◌<◌, ◌≤◌, leb, le-leb, Bool, true, false, cond, eqb, List, [], ◌∷◌, length, Some, None, Option, Ok, Err, refl, sym, ap, ◌∙◌, subst, arith}
use Rattle.std.specs.List.{slice_get}
use Rattle.std.proofs.lemmas.Bool.{eqb-true, eqb-false, eq-eqb, ne_eqb}
use Rattle.std.proofs.lemmas.Option.{slice_get_within}
use Rattle.records.specs.declared.step.Step.{Step}
use Rattle.choosers.specs.Meanings.{Question, Answer, Meaning, after}
use Rattle.steps.specs.Taking.{after_step}
use Rattle.answers.specs.declared.stop.Stop.{Stop}
use Rattle.answers.specs.declared.stop.Stop.TheVariants.{NoClosedStep, JournalFull, Declined}
use Rattle.engine.specs.Turns.{entry, closed_steps, Turn, Working, Outcome, stops, takes, chosen, picked, answered, turn_over, turn, preceded, continued, run_from}
use Rattle.engine.specs.Running.{AnswersNumber, Picks, Declines, turn_with, once_taken, once_asked, RunsBy, RunsAs, RunsAreThese}
use Rattle.engine.specs.Running.RunsBy.{spent, none_closed, full, declined, taken}
use Rattle.engine.proofs.Turning.{turn_empty, turn_full, turn_asked}
use Rattle.engine.proofs.Runs.{run_spent, run_more}

-- what a turn comes to is the run's end, or goes before any run from there
abbrev Rule : ℕ → Working → Outcome → Type 0
Rule n w (stops why left) = RunsBy (suc n) w [] why left
Rule n w (takes t v) = (turns : List Turn) (why : Stop) (left : Working) → RunsBy n v turns why left → RunsBy (suc n) w (t ∷ turns) why left

-- what is left once the chooser was asked about q; and once a step was taken too
abbrev asked_of : Working → Question → Working
asked_of w q = record { model = w.model; chooser = after w.chooser q; free = w.free }

abbrev taken_of : Working → Step → Question → Working
taken_of w s q = record { model = after_step w.model s []; chooser = after w.chooser q; free = w.free - 1 }

module _ (n : ℕ) (w : Working) (q : Question) (e : q ≡ closed_steps w.model) (some : 0 < length q) (free : 0 < w.free) where
  declines : Declines w.chooser q → RunsBy (suc n) w [] Declined (asked_of w q)
  declines d =
      subst (λ c. RunsBy (suc n) w [] Declined (asked_of w c)) (sym e)
      (declined (subst (λ c. 0 < length c) e some) free (subst (Declines w.chooser) e d))

  takes_it : (s : Step) → Picks w.chooser q s → Rule n w (answered w q (Some s))
  takes_it s p turns why left more =
      subst (λ c. RunsBy (suc n) w (record { offered = c; entered = entry w.model s [] } ∷ turns) why left) (sym e)
      (taken s free (subst (λ c. Picks w.chooser c s) e p) (subst (λ c. RunsBy n (taken_of w s c) turns why left) e more))

  by_step : (k : ℕ) → AnswersNumber w.chooser q k → (o : Option Step) → slice_get q k ≡ o → Rule n w (answered w q o)
  by_step k h None g = declines (λ j a. let same : ◌≡◌ {A = Answer} (Ok j) (Ok k) = sym a ∙ h in let e : j ≡ k = cc in ap (slice_get q) e ∙ g)
  by_step k h (Some s) g = takes_it s (k, h, g)

  by_answer : (a : Answer) → w.chooser [] q ≡ a → Rule n w (answered w q (chosen q a))
  by_answer (Err d) h = declines (λ j a. let z : ◌≡◌ {A = Answer} (Err d) (Ok j) = sym h ∙ a in absurd (let y : ◌≡◌ {A = ℕ} 0 1 = cc in omega arith))
  by_answer (Ok k) h = by_step k h (slice_get q k) refl

rule : (n : ℕ) (w : Working) (q : Question) → q ≡ closed_steps w.model → Rule n w (turn_over q w)
unfolding turn_over
rule n w [] e = none_closed (sym e)
rule n w (x ∷ xs) e = by_room (eqb w.free 0) refl
  where
    by_room : (b : Bool) → eqb w.free 0 ≡ b → Rule n w (cond b (stops JournalFull w) (answered w (x ∷ xs) (picked w.chooser (x ∷ xs))))
    by_room true h = full (subst (λ c. 0 < length c) e (omega arith)) (eqb-true w.free 0 h)
    by_room false h = by_answer n w (x ∷ xs) e (omega arith) (let f = eqb-false w.free 0 h in omega arith) (w.chooser [] (x ∷ xs)) refl

pub every_run : (budget : ℕ) (w : Working) → RunsAs budget w (run_from budget w)
unfolding run_from
every_run zero w = spent
every_run (suc n) w = by (turn w) (rule n w (closed_steps w.model) refl) (λ v. every_run n v)
  where
    by : (o : Outcome) → Rule n w o → ((v : Working) → let r = run_from n v in RunsBy n v r.turns r.stop r.left) → let r = continued o (λ v. run_from n v) in RunsBy (suc n) w r.turns r.stop r.left
    by (stops why left) h more = h
    by (takes t v) h more = h (run_from n v).turns (run_from n v).stop (run_from n v).left (more v)

picked_none : (c : Meaning) (q : Question) → Declines c q → picked c q ≡ None
picked_none c q d = by (c [] q) refl
  where
    by : (a : Answer) → c [] q ≡ a → chosen q a ≡ None
    by (Err x) h = refl
    by (Ok k) h = d k h

-- the run that keeps the rules
pub run_is : {n : ℕ} {w : Working} {turns : List Turn} {why : Stop} {left : Working} → RunsBy n w turns why left → run_from n w ≡ record { turns = turns; stop = why; left = left }
run_is (spent {w = w}) = run_spent 0 w refl
run_is (none_closed {n = n} {w = w} e) = run_more (suc n) n w (stops NoClosedStep w) refl (turn_empty w [] (sym e) refl)
run_is (full {n = n} {w = w} h f) = run_more (suc n) n w (stops JournalFull w) refl (turn_full w (closed_steps w.model) refl h (eq-eqb w.free 0 f))
run_is (declined {n = n} {w = w} h f d) =
    let q = closed_steps w.model in
    run_more (suc n) n w (stops Declined (once_asked w)) refl (turn_asked w q refl h (ne_eqb w.free 0 (λ e. omega arith)) None (picked_none w.chooser q d))
run_is (taken {n = n} {w = w} s f p more) =
    let q = closed_steps w.model in
    let here : 0 < length q = let l = slice_get_within q p.0 s p.2 in omega arith in
    let is : picked w.chooser q ≡ Some s = ap (chosen q) p.1 ∙ p.2 in
    run_more (suc n) n w (takes (turn_with w s) (once_taken w s)) refl (turn_asked w q refl here (ne_eqb w.free 0 (λ e. omega arith)) (Some s) is)
    ∙ ap (preceded (turn_with w s ∷ [])) (run_is more)

pub runs_are_these : RunsAreThese
runs_are_these = record { every = every_run; only = λ budget w a b h k. sym (run_is h) ∙ run_is k }

-- so does a run with a step table of enough room
pub roomy_run : (budget room : ℕ) (w : Working) → 1088 ≤ room → RunsAs budget w (run_from (cond (leb 1088 room) budget 0) w)
roomy_run budget room w h = subst (λ b. RunsAs budget w (run_from (cond b budget 0) w)) (sym (le-leb 1088 room h)) (every_run budget w)
