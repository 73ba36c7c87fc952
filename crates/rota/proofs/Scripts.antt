-- Numbers read one after another.
use Rattle.std.proofs.Common.{◌≡◌, ℕ, ◌+◌, ◌<◌, ◌≤◌, List, [], ◌∷◌, ◌++◌, length, get_or, take, sym, ap, ◌∙◌, subst, subst₂, Bor}
use Rattle.std.proofs.lemmas.List.{map-append, take_more, take_all}
use Rattle.rota.specs.Choices.{Numbers}
use Rattle.rota.specs.Words.{Number, texts}

one_more : (ws : List (List ℕ)) (ns : List ℕ) (w : List ℕ) (n : ℕ) → Numbers ws ns → Number 65535 w n → Numbers (ws ++ w ∷ []) (ns ++ n ∷ [])
one_more [] [] w n _ h = (h, tt)
one_more (x ∷ ws) (y ∷ ns) w n (here, rest) h = (here, one_more ws ns w n rest h)
one_more [] (y ∷ ns) w n none h = absurd none
one_more (x ∷ ws) [] w n none h = absurd none

module _ (ws : List (Bor (List ℕ))) (i : ℕ) (ns : List ℕ) (before : Numbers (texts (take i ws)) ns) where
  pub numbers_more : (d : Bor (List ℕ)) (n : ℕ) (ns' : List ℕ) → i < length ws → Number 65535 (get_or ws i d).now n → ns' ≡ ns ++ n ∷ [] → Numbers (texts (take (i + 1) ws)) ns'
  numbers_more d n ns' l h e =
      subst₂ Numbers
      (sym (ap texts (take_more ws i d l) ∙ map-append (λ x. x.now) (take i ws) (get_or ws i d ∷ [])))
      (sym e)
      (one_more (texts (take i ws)) ns (get_or ws i d).now n before h)

  pub numbers_all : length ws ≤ i → Numbers (texts ws) ns
  numbers_all l = subst (λ xs. Numbers (texts xs) ns) (take_all i ws l) before
