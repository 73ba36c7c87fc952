use Rattle.std.proofs.Common.{rules, ◌≡◌, [], ◌∷◌, ◌++◌, ap, ◌∙◌, append_assoc}
use Rattle.std.proofs.Output.{has_written_append, has_written_of_eq}
use Rattle.std.proofs.lemmas.List.{flat_map_more}
use Rattle.commands.specs.Texts.{spaced}
use Rattle.processes.specs.Places.{places_of}
use Rattle.inspect.proofs.line.PlacesDisplay.fmt.Goals as goal

pub loop-place-preserved : goal.loop-place-preserved
loop-place-preserved g c p =
    let h = c.loop-place.invariant p in
    let last = c.in-Some.place ∷ [] in
    let here : c.in-Some.place ∷ places_of c.in-Some.rest ≡ places_of c.loop-place.left = search rules in (
      h.0 ++ last,
      append_assoc h.0 last _ ∙ ap (λ l. h.0 ++ l) here ∙ h.1,
      has_written_of_eq _ _ _ _ _ (flat_map_more spaced [] h.0 c.in-Some.place) (has_written_append _ _ _ _ _ _ h.2 (search rules)),
    )
