-- Rotation as the code does it.
use Rattle.std.proofs.Common.{◌≡◌, ℕ, ◌+◌, ◌%◌, Some, None, sym, ap, ◌∙◌}
use Rattle.records.specs.Steps.{has}
use Rattle.choosers.specs.Meanings.{Question}
use Rattle.choosers.specs.Firsts.{first, by_some}
use Rattle.choosers.specs.Rotations.{first_of, nearest, rotation_pick, rotation_next}
use Rattle.choosers.specs.RotationsLemmas.{first_is}

pub turned : (c p i : ℕ) (q : Question) → nearest 8 c q ≡ Some p → first (has p) q ≡ Some i → (i ≡ rotation_pick c q) × ((p + 1) % 8 ≡ rotation_next c q)
turned c p i q e f = (sym (ap (λ o. by_some o (λ r. first_of r q) 0) e ∙ first_is p q i f), sym (ap (λ o. by_some o (λ r. (r + 1) % 8) c) e))

pub stayed : (c : ℕ) (q : Question) → nearest 8 c q ≡ None → (0 ≡ rotation_pick c q) × (c ≡ rotation_next c q)
stayed c q e = (sym (ap (λ o. by_some o (λ r. first_of r q) 0) e), sym (ap (λ o. by_some o (λ r. (r + 1) % 8) c) e))
