-- The processes of a model by their numbers.
use Rattle.std.proofs.Common.{◌≡◌, ℕ, ◌<◌, ◌≤◌, arith}
use Rattle.std.proofs.lemmas.List.{get_or_past}
use Rattle.std.proofs.lemmas.List.FromFn.{length-map-range_with_len, get_or-map-range_with_len}
use Rattle.steps.specs.Taking.{ended, process_numbered}
use Rattle.tables.specs.Views.{process_in, processes_in}
use Rattle.models.specs.declared.model.Model.{Model}
use Rattle.models.specs.Views.{bytes_of, model_of}

module _ (m : Model) (p : ℕ) where
  pub process_there : p < m.count → process_numbered (model_of m) p ≡ process_in (bytes_of m) m.table p
  process_there h = get_or-map-range_with_len (process_in (bytes_of m) m.table) 0 m.count p p ended h (omega arith)

  pub process_absent : m.count ≤ p → process_numbered (model_of m) p ≡ ended
  process_absent h = get_or_past (processes_in (bytes_of m) m.table m.count) p ended (omega (arith, h, length-map-range_with_len (process_in (bytes_of m) m.table) 0 m.count))
