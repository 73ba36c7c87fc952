-- The table that the walk filled, with the last process repeated, has every arrival.
use Rattle.std.proofs.Common.{◌≡◌, ℕ, ◌+◌, ◌-◌, ◌*◌, ◌/◌, ◌%◌, ◌<◌, ◌≤◌, ⊎_elim, List, length, get_or, map, None, sym, ap, ◌∙◌, arith, ne_eqb}
use Rattle.std.proofs.lemmas.List.{get_or-map, length-map}
use Rattle.commands.specs.Trees.{Behaviour}
use Rattle.admission.specs.Conditions.{processes}
use Rattle.arrivals.specs.Bytes.{channel_of}
use Rattle.arrivals.specs.Climbing.{climb, meeting_channel, arrival, arrival_entry, arrival_table}
use Rattle.arrivals.specs.Filling.{in_row, told, Filled, LastRepeated}
use Rattle.arrivals.proofs.Entries.{all_filled}
use Rattle.arrivals.proofs.Last.{some_process, last_climbs, last_meets, meets_last}
use Rattle.arrivals.proofs.Meeting.{side}

-- an arrival at a process, and outside
at_partner : (b : Behaviour) (p q c : ℕ) → q < 8 → arrival b p q c ≡ meeting_channel b p q c
at_partner b p q c h = rw (ne_eqb q 8 (omega arith))

at_outside : (b : Behaviour) (p q c : ℕ) → q ≡ 8 → arrival b p q c ≡ climb b p c
at_outside b p q c e = ap (λ x. arrival b p x c) e

module _ (t u : List ℕ) (b : Behaviour) (n : ℕ) (e : n ≡ processes b) (f : Filled t 0 b) (r : LastRepeated t u n) where
  passed : (p c : ℕ) → p < n → c < 32 → told t p 8 c ≡ climb b p c
  passed p c h l = ap (λ x. told t x 8 c) (let z : p ≡ 0 + p = omega arith in z) ∙ f.passes p c (omega arith) l

  met : (p q c : ℕ) → p < n → q < n → c < 32 → told t p q c ≡ meeting_channel b p q c
  met p q c h k l =
      ap (λ x. told t x q c) (let z : p ≡ 0 + p = omega arith in z)
      ∙ ap (λ x. told t (0 + p) x c) (let z : q ≡ 0 + q = omega arith in z)
      ∙ f.meets p q c (omega arith) (omega arith) l

  of_process : (p q c : ℕ) → p < n → q < 9 → c < 32 → told u p q c ≡ arrival b p q c
  of_process p q c h k l =
      ⊎_elim
      (λ i. ⊎_elim
      (λ j. r.meetings p q c h j l ∙ met p q c h j l)
      (λ j. r.partners p q c h j i l ∙ met p (n - 1) c h (omega arith) l ∙ meets_last b (n - 1) q p c (omega arith) (omega arith))
      (side q n)
      ∙ sym (at_partner b p q c i))
      (λ i. let z : q ≡ 8 = omega arith in
      ap (λ x. told u p x c) z ∙ r.outside p c h l ∙ passed p c h l ∙ sym (at_outside b p q c z))
      (side q 8)

  of_last : (p q c : ℕ) → n ≤ p → q < 9 → arrival b (n - 1) q c ≡ arrival b p q c
  of_last p q c h k =
      ⊎_elim
      (λ i. at_partner b (n - 1) q c i ∙ last_meets b (n - 1) p q c (omega arith) (omega arith) ∙ sym (at_partner b p q c i))
      (λ i. let z : q ≡ 8 = omega arith in
      at_outside b (n - 1) q c z ∙ last_climbs b (n - 1) p c (omega arith) (omega arith) ∙ sym (at_outside b p q c z))
      (side q 8)

  complete : (p q c : ℕ) → p < 8 → q < 9 → c < 32 → told u p q c ≡ arrival b p q c
  complete p q c h k l =
      ⊎_elim
      (λ i. of_process p q c i k l)
      (λ i. r.processes p q c i h k l
      ∙ (let some = some_process b in of_process (n - 1) q c (omega arith) k l)
      ∙ of_last p q c i k)
      (side p n)

  entry : (k : ℕ) → k < 2304 → k < length u → get_or (map channel_of u) k None ≡ arrival_entry b k
  unfolding in_row
  entry k h l =
      get_or-map channel_of u k 0 None l
      ∙ ap (λ x. channel_of (get_or u x 0)) (let z : k ≡ (k / 32 / 9 * 9 + k / 32 % 9) * 32 + k % 32 = omega arith in z)
      ∙ complete (k / 32 / 9) (k / 32 % 9) (k % 32) (omega arith) (omega arith) (omega arith)

  pub all_told : length u ≡ 2304 → map channel_of u ≡ arrival_table b
  all_told l = all_filled b (map channel_of u) 2304 (length-map u channel_of ∙ l) (omega arith) (λ k h. entry k h (omega arith))
