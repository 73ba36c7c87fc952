-- What the fronts of a process are counted by, and the offers of several.
use Rattle.std.proofs.Common.{◌≡◌, ℕ, zero, suc, ◌+◌, List, [], ◌∷◌, ◌++◌, map, Some, None, Option, sym, refl, ap, ◌∙◌, arith}
use Rattle.std.proofs.lemmas.List.{map-append}
use Rattle.std.specs.List.{range_with_len, flat_map, AllByRecursion}
use Rattle.values.specs.declared.kind.Kind.{Kind}
use Rattle.values.specs.Values.{Val}
use Rattle.commands.specs.Trees.{Stmt, Declaration}
use Rattle.admission.specs.Conditions.{StmtKept, most_fronts}
use Rattle.listing.specs.Offers.{offer_of}
use Rattle.steps.specs.Models.{Process}
use Rattle.steps.specs.Steps.{offers_of, offers_from}
use Rattle.tables.specs.Offered.{seen_offers}
use Rattle.processes.specs.declared.front.Front.{Front as FrontC}
use Rattle.processes.specs.Found.{Answers, StandsFor}
use Rattle.processes.specs.Fronts.{Front, process_fronts}
use Rattle.processes.proofs.Ascending.{ascend_below}
use Rattle.processes.proofs.Kept.{few_fronts}
use Rattle.processes.proofs.Numbered.{numbered_before}
use Rattle.processes.specs.Laws.{Ascend}

-- what an answer stands for
pub answered : (f : List ℕ) (vs : List Val) (x : FrontC) (o : Option Front) → Answers f vs (Some x) o → (y : Front) × (o ≡ Some y) × StandsFor f vs x y
answered f vs x None h = absurd h
answered f vs x (Some y) h = (y, refl, h)

-- a process whose statements are kept offers the fronts of eight numbers
pub eight : (ks : List Kind) (ds : List Declaration) (vs : List Val) (ss : List Stmt) → AllByRecursion (StmtKept ks ds) ss → Ascend 0 (process_fronts vs ss) 8
eight ks ds vs [] k = omega arith
eight ks ds vs (s ∷ ss) k =
    let few = few_fronts ks ds s k.0 in
    ascend_below 0 (0 + most_fronts s) 8 (process_fronts vs (s ∷ ss)) (omega (arith, few)) (numbered_before vs 0 s ss)

-- the offers of processes that are numbered one after the other
pub numbered_offers : (one : ℕ → Process) (k m : ℕ) → flat_map (λ p. seen_offers p (one p)) (range_with_len k m) ≡ map offer_of (offers_from k (map one (range_with_len k m)))
numbered_offers one k zero = refl
numbered_offers one k (suc m) = ap (λ os. seen_offers k (one k) ++ os) (numbered_offers one (k + 1) m) ∙ sym (map-append offer_of (offers_of k (one k)) _)
