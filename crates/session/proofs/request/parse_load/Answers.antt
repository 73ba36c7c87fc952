use Rattle.std.proofs.Common.{ℕ, List, Bor, refl, ap, ◌∙◌}
use Rattle.std.proofs.lemmas.List.Concat.{concat_is}
use Rattle.std.proofs.lemmas.List.Folds.{flat_map-map}
use Rattle.hex.specs.Hex.{decode_of}
use Rattle.rota.specs.Words.{texts}
use Rattle.session.proofs.request.parse_load.Goals as goal

pub returns-in-Ok : goal.returns-in-Ok
returns-in-Ok c =
    let words = texts c.args.words.now in
    (words, refl, ap decode_of (concat_is words ∙ flat_map-map (λ (x : List ℕ). x) (λ (w : Bor (List ℕ)). w.now) c.args.words.now) ∙ c.in-Ok.ensures.bytes)
