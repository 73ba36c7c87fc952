use Rattle.std.proofs.Common.{List, ℕ, Bor, IsErr, map, sym, ◌∙◌, refl, inl, inr}
use Rattle.std.proofs.lemmas.List.Concat.{concat_is}
use Rattle.std.proofs.lemmas.List.Folds.{flat_map-map}
use Rattle.std.specs.List.{concat}
use Rattle.hex.specs.Hex.{decode_of}
use Rattle.inspect.proofs.Words.{odd_number}
use Rattle.inspect.proofs.digits.bytes_of.Goals as goal

pub returns-in_default-error : goal.returns-in_default-error
returns-in_default-error c =
    let texts = map (λ (w : Bor (List ℕ)). w.now) c.args.words.now in
    let joined = concat_is texts ∙ flat_map-map (λ (x : List ℕ). x) (λ (w : Bor (List ℕ)). w.now) c.args.words.now ∙ sym c.in_ok-text.ensures.ok in
    let failed : IsErr (decode_of (concat texts)) = elim c.in-Err.ensures.err [
      | inl memory ↦ absurd (c.in_default-error.not-OutOfMemory memory)
      | inr is_err ↦ rw (joined, is_err) refl
    ] in
    record { bytes = tt; refused = (c.in_default.ensures, odd_number texts c.in_default.ensures failed) }
