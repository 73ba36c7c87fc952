-- What the walk over a statement appends.
use Rattle.std.specs.Prelude.{ℕ, ◌+◌, ◌≤◌, Bool, true, false, not, List, [], ◌∷◌, ◌++◌, map, length}
use Rattle.values.specs.declared.kind.Kind.{Kind}
use Rattle.values.specs.Values.{Val}
use Rattle.commands.specs.Stands.{StmtAt}
use Rattle.commands.specs.Trees.{Stmt, Declaration}
use Rattle.admission.specs.Conditions.{StmtKept, most_fronts}
use Rattle.processes.specs.Fronts.{is_true, is_false, fronts}
use Rattle.records.specs.declared.list.RecordList.{RecordList}
use Rattle.records.specs.Lists.{items, room_of}
use Rattle.listing.specs.declared.offer.Offer.{Offer}
use Rattle.listing.specs.declared.offer.Role.{Role}
use Rattle.listing.specs.declared.offer.Role.TheVariants.{Internal}
use Rattle.listing.specs.Offers.{seen}

abbrev pub offer : ℕ → ℕ → Role → Offer
offer p n r = record { process = p; front = n; role = r }

abbrev pub offered_when : Bool → ℕ → ℕ → List Offer
offered_when true p n = offer p n Internal ∷ []
offered_when false p n = []

-- the two ways of a condition
abbrev pub offered_either : Val → ℕ → ℕ → List Offer
offered_either v p n = offered_when (not (is_false v)) p n ++ offered_when (not (is_true v)) p (n + 1)

-- the fronts of a statement, as others see them
abbrev pub seen_fronts : ℕ → ℕ → List Val → Stmt → List Offer
seen_fronts p n vs s = map (λ x. seen p x.number vs x.does) (fronts vs n s)

-- a statement to be walked over: it stands at a place, its fronts are few, and there is room for all of them
pub record Walk (f : List ℕ) (at n : ℕ) (out : RecordList Offer) (s : Stmt) : Type 0 where
  pub here : StmtAt f at s
  pub kept : (ks : List Kind) × (ds : List Declaration) × StmtKept ks ds s
  pub few : n + most_fronts s ≤ 8
  pub room : length (items out) + most_fronts s ≤ room_of out
