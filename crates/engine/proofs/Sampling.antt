-- Worked samples through the calls, from what a file reads as and the steps of its model.
use Rattle.std.proofs.Common.{◌≡◌, ℕ, ◌<◌, cond, filter, map, [], ◌∷◌, Some, None, Ok, Err, length, refl, sym, ap, ◌∙◌, subst, arith}
use Rattle.std.proofs.lemmas.Bool.{ne_eqb}
use Rattle.answers.specs.declared.fault.FaultKind.TheVariants.{Command}
use Rattle.answers.specs.declared.fault.Layer.TheVariants.{Behaviour}
use Rattle.heads.specs.Checked.{Checked, fault, ◌>>=◌}
use Rattle.admission.specs.Samples as admission
use Rattle.admission.specs.Read.{tree_in}
use Rattle.commands.specs.Trees.{File}
use Rattle.records.specs.Steps.{closed}
use Rattle.choosers.specs.Meanings.{Meaning}
use Rattle.steps.specs.Models.{start}
use Rattle.steps.specs.Samples as steps
use Rattle.steps.specs.Samples.{exchange_tree, before_meeting, after_meeting}
use Rattle.steps.specs.Steps.{steps as steps_in}
use Rattle.steps.specs.Taking.{after_step, process_numbered, is_in, fits}
use Rattle.models.specs.Views.{no_processes, start_of}
use Rattle.answers.specs.declared.refusal.TakeRefusal.TheVariants.{NotListed, Values, JournalFull as Full}
use Rattle.answers.specs.declared.stop.Stop.TheVariants.{NoClosedStep, Declined, JournalFull}
use Rattle.engine.specs.Turns.{entry, closed_steps, Working, Run, run_from, run_answer}
use Rattle.engine.specs.Calls.{Runner, take_refusal, load_answer, loaded, listed, refused, take_answer, unless, asked, run_of, next, entered}
use Rattle.engine.specs.Calls as calls
use Rattle.engine.specs.Samples.{exchange_step, exchange_record, open_file, cut_file, with_file, with_step, TakeSample, AgainSample, OpenSample, FaultSample, RunSample, Samples}
use Rattle.admission.specs.Samples.{exchange_file}
use Rattle.engine.specs.Running.{AnswersNumber, Picks, Declines, turn_with, once_taken, once_asked, RunsBy}
use Rattle.engine.specs.Running.RunsBy.{none_closed, full, declined, taken}
use Rattle.engine.proofs.Ruled.{run_is}
use Rattle.engine.proofs.Runs.{run_spent}

module _ (a : admission.Samples) (s : steps.Samples) where
  -- the model that each file starts as
  started : start_of exchange_file ≡ Ok before_meeting
  started = ap (λ (r : Checked File). r >>= (λ t. Ok (start t))) s.file

  opened : start_of open_file ≡ Ok (start (exchange_tree 0))
  opened = ap (λ (r : Checked File). r >>= (λ t. Ok (start t))) s.open_file

  cut : start_of cut_file ≡ Err (fault Command 64 Behaviour)
  cut = ap (λ r. (r >>= (λ x. Ok (tree_in cut_file x))) >>= (λ t. Ok (start t))) a.last_byte_removed

  with_file_is : (c : Meaning) → with_file exchange_file c ≡ record { model = before_meeting; chooser = c }
  with_file_is c = (λ i. record { model = loaded no_processes (started i); chooser = c })

  -- the step is taken where the journal has room
  free_take : (free : ℕ) → 0 < free → refused before_meeting exchange_step [] free ≡ None
  free_take free f = ap (take_refusal free) s.taken ∙ ap (λ b. cond b (Some Full) None) (ne_eqb free 0 (λ e. omega arith))

  with_step_is : (c : Meaning) (free : ℕ) → 0 < free → with_step free c ≡ record { model = after_meeting; chooser = c }
  with_step_is c free f =
      ap (next (calls.take exchange_step [] free)) (with_file_is c)
      ∙ (λ i. record { model = unless (free_take free f i) after_meeting before_meeting; chooser = c })

  entry_is : entry before_meeting exchange_step [] ≡ exchange_record
  unfolding entry
  entry_is = refl

  take_sample : TakeSample
  take_sample = record {
    loads = ap load_answer started;
    lists = refl;
    one_step = λ c held. ap (λ w. listed 1088 w.model held) (with_file_is c) ∙ s.one_step;
    takes = λ c free f. ap (λ w. take_answer (refused w.model exchange_step [] free)) (with_file_is c) ∙ ap take_answer (free_take free f);
    received = λ c free f. ap (λ w. (process_numbered w.model 1).variables) (with_step_is c free f) ∙ s.received;
    enters = λ c free f. ap (entered (calls.take exchange_step [] free)) (with_file_is c) ∙ (λ i. unless (free_take free f i) (entry_is i ∷ []) []);
    no_step = λ c free held f. ap (λ w. listed 1088 w.model held) (with_step_is c free f) ∙ s.at_rest;
  }

  -- once it is taken, it is not listed
  not_again : (more : ℕ) → refused after_meeting exchange_step [] more ≡ Some NotListed
  not_again more = ap (λ xs. take_refusal more (cond (is_in exchange_step xs) (cond (fits after_meeting exchange_step []) None (Some Values)) (Some NotListed))) s.at_rest

  again_sample : AgainSample
  again_sample = record {
    refuses = λ c free more f. ap (λ w. take_answer (refused w.model exchange_step [] more)) (with_step_is c free f) ∙ ap take_answer (not_again more);
    leaves = λ c free more f.
        let e = with_step_is c free f in
        ap (next (calls.take exchange_step [] more)) e
        ∙ (λ i. record { model = unless (not_again more i) (after_step after_meeting exchange_step []) after_meeting; chooser = c })
        ∙ sym e;
    enters = λ c free more f. ap (entered (calls.take exchange_step [] more)) (with_step_is c free f) ∙ (λ i. unless (not_again more i) (entry after_meeting exchange_step [] ∷ []) []);
  }

  open_sample : OpenSample
  open_sample = record {
    loads = ap load_answer opened;
    three_steps = λ c held. ap (λ r. steps_in (loaded no_processes r)) opened ∙ s.three_steps;
  }

  fault_sample : FaultSample
  fault_sample = record {
    refuses = ap load_answer cut;
    leaves = λ c. let w = with_file exchange_file c in (λ i. record { model = loaded w.model (cut i); chooser = c });
  }

  -- the closed steps before it, and after it
  one_closed : closed_steps before_meeting ≡ exchange_step ∷ []
  unfolding closed_steps
  one_closed = ap (filter closed) s.one_step

  none_left : closed_steps after_meeting ≡ []
  unfolding closed_steps
  none_left = ap (filter closed) s.at_rest

  module _ (m : Meaning) (free : ℕ) where
    abbrev before : Working
    before = record { model = before_meeting; chooser = m; free = free }

    run_takes : 0 < free → AnswersNumber m (exchange_step ∷ []) 0 → RunsBy 5 before (turn_with before exchange_step ∷ []) NoClosedStep (once_taken before exchange_step)
    run_takes f h = taken exchange_step f (subst (λ q. Picks m q exchange_step) (sym one_closed) (0, h, refl)) (none_closed none_left)

    run_declines : 0 < free → Declines m (exchange_step ∷ []) → RunsBy 5 before [] Declined (once_asked before)
    run_declines f d = declined (subst (λ q. 0 < length q) (sym one_closed) (omega arith)) f (subst (Declines m) (sym one_closed) d)

    run_full : free ≡ 0 → RunsBy 5 before [] JournalFull before
    run_full e = full (subst (λ q. 0 < length q) (sym one_closed) (omega arith)) e

  module _ (c : Meaning) (runner : Runner) where
    chooser : Meaning
    chooser = asked runner (with_file exchange_file c)

    -- a run from there, by what it comes to
    run_comes : (n free : ℕ) (r : Run) → run_from n (before chooser free) ≡ r → run_of runner n 1088 free (with_file exchange_file c) ≡ r
    unfolding chooser
    run_comes n free r e = ap (λ w. run_from n (record { model = w.model; chooser = chooser; free = free })) (with_file_is c) ∙ e

    run_sample : RunSample c runner
    unfolding chooser
    run_sample = record {
      takes_one = λ free f h. ap (run_answer 1088) (run_comes 5 free _ (run_is (run_takes chooser free f h)));
      enters = λ free f h. ap (λ (r : Run). map (λ t. t.entered) r.turns) (run_comes 5 free _ (run_is (run_takes chooser free f h))) ∙ ap (λ r. r ∷ []) entry_is;
      leaves = λ free f h. ap (λ (r : Run). r.left.model) (run_comes 5 free _ (run_is (run_takes chooser free f h))) ∙ sym (ap (λ w. w.model) (with_step_is c free f));
      declines = λ free f d. ap (run_answer 1088) (run_comes 5 free _ (run_is (run_declines chooser free f d)));
      full = ap (run_answer 1088) (run_comes 5 0 _ (run_is (run_full chooser 0 refl)));
      no_budget = λ free. ap (run_answer 1088) (run_comes 0 free _ (run_spent 0 _ refl));
    }

  pub samples : Samples
  samples = record {
    taking = take_sample;
    again = again_sample;
    unhidden = open_sample;
    faulty = fault_sample;
    no_room = record { lists = refl; stays = λ m held. refl; runs = λ r. refl };
    running = run_sample;
  }
