-- The rows of start values, one by one, and the process that begins with them.
use Rattle.std.proofs.Common.{◌≡◌, ℕ, zero, suc, ◌+◌, ◌-◌, ◌*◌, ◌<◌, ◌≤◌, List, [], ◌∷◌, ◌++◌, map, length, take, drop, set, replicate, sym, refl, ap, ◌∙◌, subst, append_assoc, arith}
use Rattle.std.proofs.lemmas.List.{set_at, take_at, drop_at}
use Rattle.values.specs.declared.row.Row.{Row}
use Rattle.values.specs.Rows.{row_of, value_of_row}
use Rattle.values.specs.Values.{Val}
use Rattle.commands.specs.Stands.{StmtAt}
use Rattle.commands.specs.Trees.{Class}
use Rattle.heads.specs.declared.class.Scope.{Scope}
use Rattle.heads.specs.Heads.{row_at}
use Rattle.admission.specs.Conditions.{ClassKept}
use Rattle.admission.proofs.HeadBytes.{value_back}
use Rattle.processes.specs.Found.{StmtsAt}
use Rattle.processes.specs.Places.{places_of}
use Rattle.processes.specs.declared.left.Left.{Left}
use Rattle.processes.proofs.Kept.{class_laws}
use Rattle.classes.specs.Classes.{rows_at, Scoped}
use Rattle.classes.specs.Starts.{unknown_row, FreshOf}
use Rattle.classes.proofs.Heading.{variables_many}

rows_many : (n : ℕ) (f : List ℕ) (at : ℕ) → length (rows_at n f at) ≡ n
rows_many zero f at = refl
rows_many (suc n) f at = ap suc (rows_many n f (at + 6))

rows_push : (n : ℕ) (f : List ℕ) (at : ℕ) → rows_at (suc n) f at ≡ rows_at n f at ++ row_at f (at + 6 * n) ∷ []
rows_push zero f at = let e : at ≡ at + 6 * 0 = omega arith in ap (λ p. row_at f p ∷ []) e
rows_push (suc n) f at =
    let e : at + 6 + 6 * n ≡ at + 6 * suc n = omega arith in
    ap (λ l. row_at f at ∷ l) (rows_push n f (at + 6) ∙ ap (λ p. rows_at n f (at + 6) ++ row_at f p ∷ []) e)

-- one row more among the unknown ones
pub row_put : (n : ℕ) (f : List ℕ) (at : ℕ) (u x : Row) (rows : List Row) → n < 8 → rows ≡ rows_at n f at ++ replicate (8 - n) u → x ≡ row_at f (at + 6 * n) → set rows n x ≡ rows_at (n + 1) f at ++ replicate (8 - (n + 1)) u
row_put n f at u x rows less e is =
    let one : 8 - n ≡ suc (8 - (n + 1)) = omega arith in
    let next : suc n ≡ n + 1 = omega arith in
    let rest = replicate (8 - (n + 1)) u in
    ap (λ l. set l n x) (e ∙ ap (λ k. rows_at n f at ++ replicate k u) one)
    ∙ set_at (rows_at n f at) u rest x n (rows_many n f at)
    ∙ ap (λ y. rows_at n f at ++ y ∷ rest) is
    ∙ sym (append_assoc (rows_at n f at) (row_at f (at + 6 * n) ∷ []) rest)
    ∙ ap (λ l. l ++ rest) (sym (rows_push n f at) ∙ ap (λ k. rows_at k f at) next)

pub values_back : (vs : List Val) → map value_of_row (map row_of vs) ≡ vs
values_back [] = refl
values_back (v ∷ vs) = let a = value_back v in let b = values_back vs in cc

-- a fresh process, by what the code finds
pub fresh_made : (f : List ℕ) (s : Scope) (c : Class) (rows : List Row) (before left : Left) (place : ℕ) → length f ≤ 4096 → ClassKept c → Scoped f s c → rows ≡ rows_at s.variables.count f s.variables.at ++ replicate (8 - s.variables.count) unknown_row → places_of before ≡ [] → places_of left ≡ place ∷ places_of before → StmtAt f place c.statement → FreshOf f c (record { variables = s.variables.count; rows = rows; left = left })
fresh_made f s c rows before left place short kept h is none one stands =
    let n = s.variables.count in
    let many : n ≡ length c.variables = variables_many f s c h in
    let front : take n rows ≡ map row_of c.variables = ap (take n) is ∙ take_at (rows_at n f s.variables.at) _ n (rows_many n f s.variables.at) ∙ h.rows in
    let single : place ∷ [] ≡ places_of left = ap (λ l. place ∷ l) (sym none) ∙ sym one in
    let places = subst (λ ps. StmtsAt f ps (c.statement ∷ [])) single (stands, tt) in
    record {
      count = many;
      few = omega (arith, many, kept.variables_few);
      rows = front;
      others = ap (drop n) is ∙ drop_at (rows_at n f s.variables.at) _ n (rows_many n f s.variables.at);
      values = ap (map value_of_row) front ∙ values_back c.variables;
      stands = places;
      process = record { short = short; class_kept = kept; of_class = class_laws.fresh c kept; places = places };
    }
