use Rattle.std.proofs.Common.{rules, ℕ, ◌≡◌, List, ◌++◌, codes, decimal, length, sym, ap, ap₂, ◌∙◌, arith}
use Rattle.std.proofs.Output.{has_written_append, has_written_of_eq}
use Rattle.std.specs.Fmt.{HasWritten}
use Rattle.std.specs.List.{flat_map, range_with_len}
use Rattle.processes.specs.Evaluation.{values_of}
use Rattle.processes.specs.Places.{places_of}
use Rattle.values.specs.Values.{Val}
use Rattle.models.specs.Views.{model_of}
use Rattle.commands.proofs.Channels.{range_more}
use Rattle.session.specs.States.{process_line, process_text}
use Rattle.session.proofs.state.StateDisplay.fmt.Goals as goal

pub loop-number-preserved : goal.loop-number-preserved
loop-number-preserved g c p =
    let m = c.args.self.now.0.now.model in
    let n = c.loop-number.number in
    let line : codes "\n" ++ process_text n (places_of c.left.result) (values_of c.variables.result.now) ≡ process_line m n = ap₂ (λ (ps : List ℕ) (vs : List Val). codes "\n" ++ process_text n ps vs) c.left.ensures.places c.variables.ensures in
    let before = flat_map (process_line m) (range_with_len 0 n) in
    has_written_of_eq _ _ _ _ _ (ap (λ l. before ++ l) line ∙ sym (range_more (process_line m) n)) (has_written_append _ _ _ _ _ _ (c.loop-number.invariant p) (search rules))

pub returns-clause-writes : goal.returns-clause-writes
returns-clause-writes g c p k =
    let m = c.args.self.now.0.now.model in
    let all : c.loop-number.number ≡ c.processes-count.result = omega arith in
    let count : c.processes-count.result ≡ length (model_of m).processes = c.processes-count.ensures in
    let head : HasWritten g.W.Write.write_str_gives c.args.f.now (codes "processes " ++ decimal c.processes-count.result) c.write.new.self = search rules in
    has_written_of_eq _ _ _ _ _ (ap₂ (λ a b. codes "processes " ++ (decimal a ++ flat_map (process_line m) (range_with_len 0 b))) count (all ∙ count)) (has_written_append _ _ _ _ _ _ head (c.loop-number.invariant (search rules)))
