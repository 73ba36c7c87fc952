-- The tree that stands at a place, by the term there.
use Rattle.std.proofs.Common.{◌≡◌, ℕ, ◌+◌, true, false, List, [], ◌∷◌, ◌++◌, Some, None, Ok, sym, refl, ap, ◌∙◌, subst, append_assoc, append-nil, arith}
use Rattle.std.specs.List.{slice_get}
use Rattle.values.specs.declared.op.Op.{Op}
use Rattle.values.specs.declared.row.Row.{Row}
use Rattle.values.specs.Ops.{apply}
use Rattle.values.specs.Rows.{row_of, value_of_row}
use Rattle.values.specs.Values.{Val, integer, boolean, negate, as_truth}
use Rattle.sheet.specs.declared.line.Line.{Line}
use Rattle.sheet.specs.declared.line.Line.TheVariants.{Not as NotLine, Binary as BinaryLine}
use Rattle.sheet.specs.declared.word.Term.{Term}
use Rattle.sheet.specs.declared.word.Term.TheVariants.{Value, Not, Binary}
use Rattle.sheet.specs.Words.{Word}
use Rattle.sheet.specs.Trees.{Tree, leaf, negation, operation, Stands, Worked, worth, size}

-- a value comes back from its row
pub row_back : (v : Val) → value_of_row (row_of v) ≡ v
row_back (integer None) = refl
row_back (integer (Some z)) = refl
row_back (boolean None) = refl
row_back (boolean (Some true)) = refl
row_back (boolean (Some false)) = refl

module _ (ws : List Word) (at : ℕ) where
  pub root : (t : Tree) → Stands ws at t → (x : Term) × (slice_get ws at ≡ Some (Ok x))
  root (leaf r) s = (Value r, s)
  root (negation a) s = (Not, s.0)
  root (operation op a b) s = (Binary op, s.0)

  pub stands_value : (r : Row) → slice_get ws at ≡ Some (Ok (Value r)) → (t : Tree) → Stands ws at t → t ≡ leaf r
  stands_value r e (leaf q) s = let h : q ≡ r = cc in ap leaf h
  stands_value r e (negation a) s = let h = s.0 in absurd (let z : ◌≡◌ {A = ℕ} 0 1 = cc in omega arith)
  stands_value r e (operation op a b) s = let h = s.0 in absurd (let z : ◌≡◌ {A = ℕ} 0 1 = cc in omega arith)

  pub stands_not : slice_get ws at ≡ Some (Ok Not) → (t : Tree) → Stands ws at t → (a : Tree) × (t ≡ negation a) × Stands ws (at + 1) a
  stands_not e (leaf q) s = absurd (let z : ◌≡◌ {A = ℕ} 0 1 = cc in omega arith)
  stands_not e (negation a) s = (a, refl, s.1)
  stands_not e (operation op a b) s = let h = s.0 in absurd (let z : ◌≡◌ {A = ℕ} 0 1 = cc in omega arith)

  pub stands_binary : (op : Op) → slice_get ws at ≡ Some (Ok (Binary op)) → (t : Tree) → Stands ws at t → (a b : Tree) × (t ≡ operation op a b) × Stands ws (at + 1) a × Stands ws (at + 1 + size a) b
  stands_binary op e (leaf q) s = absurd (let z : ◌≡◌ {A = ℕ} 0 1 = cc in omega arith)
  stands_binary op e (negation a) s = let h = s.0 in absurd (let z : ◌≡◌ {A = ℕ} 0 1 = cc in omega arith)
  stands_binary op e (operation o a b) s = let h = s.0 in let p : o ≡ op = cc in (a, b, ap (λ x. operation x a b) p, s.1, s.2)

-- what working out a term gives, from what working out its parts gave
pub value_worked : (t : Tree) (r : Row) (at : ℕ) (v : Row) (before : List Line) → t ≡ leaf r → v ≡ row_of (value_of_row r) → Worked t at v (at + 1) before before
value_worked t r at v before is e =
    subst (λ x. Worked x at v (at + 1) before before) (sym is) (record { value_is = e; end_is = refl; lines_are = sym (append-nil before) })

pub not_worked : (t a : Tree) (at end : ℕ) (part v : Row) (before middle after : List Line) → t ≡ negation a → Worked a (at + 1) part end before middle → v ≡ row_of (boolean (negate (as_truth (value_of_row part)))) → after ≡ middle ++ NotLine part v ∷ [] → Worked t at v end before after
not_worked t a at end part v before middle after is w e l =
    let p : value_of_row part ≡ worth a = ap value_of_row w.value_is ∙ row_back (worth a) in
    let r : v ≡ row_of (worth (negation a)) = e ∙ ap (λ x. row_of (boolean (negate (as_truth x)))) p in
    subst (λ x. Worked x at v end before after) (sym is) (record {
      value_is = r;
      end_is = omega (arith, w.end_is);
      lines_are = l ∙ rw (w.lines_are, w.value_is, r, append_assoc);
    })

pub binary_worked : (t : Tree) (op : Op) (a b : Tree) (at mid end : ℕ) (first second v : Row) (before middle later after : List Line) → t ≡ operation op a b → Worked a (at + 1) first mid before middle → Worked b mid second end middle later → v ≡ row_of (apply op (value_of_row first) (value_of_row second)) → after ≡ later ++ BinaryLine op first second v ∷ [] → Worked t at v end before after
binary_worked t op a b at mid end first second v before middle later after is w u e l =
    let p : value_of_row first ≡ worth a = ap value_of_row w.value_is ∙ row_back (worth a) in
    let q : value_of_row second ≡ worth b = ap value_of_row u.value_is ∙ row_back (worth b) in
    let r : v ≡ row_of (worth (operation op a b)) = e ∙ ap (λ x. row_of (apply op x (value_of_row second))) p ∙ ap (λ x. row_of (apply op (worth a) x)) q in
    subst (λ x. Worked x at v end before after) (sym is) (record {
      value_is = r;
      end_is = omega (arith, w.end_is, u.end_is);
      lines_are = l ∙ rw (u.lines_are, w.lines_are, w.value_is, u.value_is, r) (simp append_assoc);
    })
