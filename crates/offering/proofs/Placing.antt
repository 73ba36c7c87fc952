-- The kinds of a SEND, put into their places one after the other.
use Rattle.std.proofs.Common.{◌≡◌, ℕ, zero, suc, ◌+◌, ◌-◌, ◌<◌, ◌≤◌, List, [], ◌∷◌, ◌++◌, length, set, Some, Option, refl, ap, ◌∙◌, subst, length-append, arith}
use Rattle.values.specs.declared.kind.Kind.{Kind}
use Rattle.commands.specs.Stands.{ExprAt}
use Rattle.commands.specs.Trees.{Expr, expr_size}
use Rattle.processes.proofs.Sending.{Sending, sending_next, sending_done}
use Rattle.listing.specs.Offers.{kind_places}

one_placed : (n : ℕ) (ks : List Kind) (k : Kind) → length ks < n → set (kind_places n ks) (length ks) (Some k) ≡ kind_places n (ks ++ k ∷ [])
one_placed zero ks k h = absurd (omega arith)
one_placed (suc n) [] k h = refl
one_placed (suc n) (j ∷ ks) k h = ap (λ xs. Some j ∷ xs) (one_placed n ks k (omega (arith, h)))

-- so many expressions are ahead, and the kinds of those behind are in their places
pub record Placing (f : List ℕ) (g : Expr → Kind) (n i place : ℕ) (kinds : List (Option Kind)) (whole : List Kind) : Type 0 where
  pub done : List Kind
  pub many : length done ≡ i
  pub placed : kinds ≡ kind_places 4 done
  pub ahead : Sending f g (n - i) place done whole

module _ (f : List ℕ) (g : Expr → Kind) (n i place : ℕ) (kinds : List (Option Kind)) (whole : List Kind) where
  pub placing_next : (k : Kind) (more : List (Option Kind)) (new : ℕ) → n ≤ 4 → more ≡ set kinds i (Some k) → ((e : Expr) → ExprAt f place e → k ≡ g e) → ((e : Expr) → ExprAt f place e → new ≡ place + expr_size e) → Placing f g n i place kinds whole → i < n → Placing f g n (i + 1) new more whole
  placing_next k more new few m is ends p h = record {
    done = p.done ++ k ∷ [];
    many = omega (arith, length-append p.done (k ∷ []), p.many);
    placed =
        m ∙ ap (λ xs. set xs i (Some k)) p.placed
        ∙ subst (λ j. set (kind_places 4 p.done) j (Some k) ≡ kind_places 4 (p.done ++ k ∷ [])) p.many (one_placed 4 p.done k (omega (arith, p.many, h, few)));
    ahead = sending_next f g n i place p.done whole (p.done ++ k ∷ []) k new refl is ends p.ahead h;
  }

  pub placing_done : Placing f g n i place kinds whole → i ≡ n → kinds ≡ kind_places 4 whole
  placing_done p h = p.placed ∙ ap (kind_places 4) (sending_done f g n i place p.done whole p.ahead h)
