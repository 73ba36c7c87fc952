use Rattle.std.proofs.Common.{◌+◌, ◌*◌, ◌≤◌, length}
use Rattle.std.specs.List.{range_with_len}
use Rattle.records.specs.Lists.{items}
use Rattle.records.proofs.Filling.{Filling}
use Rattle.tables.specs.Offered.{seen_offers}
use Rattle.tables.specs.Views.{process_in}
use Rattle.tables.proofs.offers.put_offers.Given as goal

abbrev pub invariant-loop-p : goal.invariant-loop-p
invariant-loop-p l =
    Filling (λ p. seen_offers p (process_in l.file l.table p)) (range_with_len 0 l.count) l.p l.initial.out l.out
    × (length (items l.out) ≤ length (items l.initial.out) + 8 * l.p)
