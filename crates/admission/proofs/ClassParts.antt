-- The check of a class accepts exactly the classes that keep the conditions.
use Rattle.std.proofs.Common.{◌≡◌, ℕ, zero, suc, ◌+◌, ◌≤◌, leb, List, [], ◌∷◌, map, length, take, Ok, sym, refl, ap, ◌∙◌, subst, arith, eq-eqb, eqb-true, le-leb, leb-true}
use Rattle.std.specs.List.{AllByRecursion}
use Rattle.std.proofs.lemmas.List.{length-take-le}
use Rattle.values.specs.Values.{Val, kind_of}
use Rattle.commands.specs.Bytes.{head_size, class_size, classes_size}
use Rattle.commands.specs.Stands.{StmtAt}
use Rattle.commands.specs.Trees.{Class, stmt_size}
use Rattle.answers.specs.declared.fault.FaultKind.TheVariants.{ClassHead, Command}
use Rattle.answers.specs.declared.fault.Layer.TheVariants.{ClassHead as ClassHeadL, Statement as StatementL}
use Rattle.files.specs.Files.{levels, check_body, check_class, check_classes}
use Rattle.heads.specs.Heads.{byte, word_at, values_at, check_head, class_kinds, declarations_place, class_declarations}
use Rattle.files.specs.Statements.{check_statement}
use Rattle.commands.specs.ByteLists.{Bytes}
use Rattle.admission.specs.Conditions.{StmtKept, most_fronts, ClassKept}
use Rattle.admission.proofs.Oks.{bind_ok, seq_ok, ask_ok, ask_last, ok_is}
use Rattle.admission.proofs.ClassHeads.{HeadValid, head_end, head_sound, head_complete, values_count, declarations_count, values_kinds, values_ranged, declarations_kept}
use Rattle.admission.proofs.Stmts.{stmt_sound, stmt_complete}

-- the start values of the class whose bytes begin at a place
abbrev pub class_values : List ℕ → ℕ → List Val
class_values f at = values_at (byte f at) f (at + 1)

-- a body: a valid head, and a statement that ends with the bytes
pub record BodyAt (f : List ℕ) (at : ℕ) (c : Class) : Type 0 where
  pub head : HeadValid f at
  pub variables : class_values f at ≡ c.variables
  pub declarations : class_declarations f at ≡ c.declarations
  pub statement : StmtAt f (at + head_size c) c.statement
  pub ends : length f ≡ at + head_size c + stmt_size c.statement

-- the place of the statement
pub head_long : (f : List ℕ) (at : ℕ) (c : Class) → class_values f at ≡ c.variables → class_declarations f at ≡ c.declarations → head_end f at ≡ at + head_size c
head_long f at c v d =
    let n : length c.variables ≡ byte f at = ap length (sym v) ∙ values_count (byte f at) f (at + 1) in
    let m : length c.declarations ≡ byte f (declarations_place f at) = ap length (sym d) ∙ declarations_count (byte f (declarations_place f at)) f (declarations_place f at + 1) in
    omega (arith, n, m)

pub body_sound : (f : List ℕ) → Bytes f → (at : ℕ) (u : Unit {0}) → check_body f at ≡ Ok u → (c : Class) × BodyAt f at c × ClassKept c
body_sound f bs at u h =
    let p = bind_ok (check_head f at) _ u h in
    let hd = head_sound f at p.0 p.1 in
    let r = bind_ok (check_statement levels f p.0 (class_kinds f at) (class_declarations f at)) _ u p.2 in
    let e = r.0 in
    let stop : e.0 ≡ length f = eqb-true e.0 (length f) (ask_last _ Command e.0 StatementL u r.2) in
    let s = stmt_sound levels f bs p.0 (class_kinds f at) (class_declarations f at) e r.1 in
    let c : Class = record { variables = class_values f at; declarations = class_declarations f at; statement = s.0 } in
    let place : p.0 ≡ at + head_size c = hd.1 ∙ head_long f at c refl refl in
    let ks : class_kinds f at ≡ map kind_of (class_values f at) = sym (values_kinds (byte f at) f (at + 1)) in
    let n : length (class_values f at) ≡ byte f at = values_count (byte f at) f (at + 1) in
    let m : length (class_declarations f at) ≡ byte f (declarations_place f at) = declarations_count (byte f (declarations_place f at)) f (declarations_place f at + 1) in (
      c,
      record { head = hd.0; variables = refl; declarations = refl; statement = subst (λ i. StmtAt f i s.0) place s.1.stands; ends = omega (arith, stop, s.1.ends, place) },
      record {
        variables_few = omega (arith, n, hd.0.variables_few);
        values_kept = values_ranged (byte f at) f (at + 1) bs;
        declarations_few = omega (arith, m, hd.0.declarations_few);
        declarations_kept = declarations_kept (byte f (declarations_place f at)) f (declarations_place f at + 1) hd.0.declarations;
        statement_kept = subst (λ l. StmtKept l (class_declarations f at) s.0) ks s.1.kept;
        statement_deep = s.1.deep;
      },
    )

pub body_complete : (f : List ℕ) (at : ℕ) (c : Class) → BodyAt f at c → ClassKept c → check_body f at ≡ Ok tt
body_complete f at c b k =
    let place : head_end f at ≡ at + head_size c = head_long f at c b.variables b.declarations in
    let hd : check_head f at ≡ Ok (at + head_size c) = head_complete f at b.head ∙ ap (λ n. Ok n) place in
    let ks : class_kinds f at ≡ map kind_of c.variables = sym (values_kinds (byte f at) f (at + 1)) ∙ ap (map kind_of) b.variables in
    let s : check_statement levels f (at + head_size c) (map kind_of c.variables) c.declarations ≡ Ok (at + head_size c + stmt_size c.statement, most_fronts c.statement)
    = stmt_complete c.statement levels f (at + head_size c) (map kind_of c.variables) c.declarations b.statement k.statement_kept k.statement_deep in
    let here = eq-eqb (at + head_size c + stmt_size c.statement) (length f) (sym b.ends) in
    rw (hd, ks, b.declarations, s, here)

-- a class: its length, and its body up to there
pub record ClassAt (f : List ℕ) (at : ℕ) (c : Class) : Type 0 where
  pub within : at + class_size c ≤ length f
  pub long : word_at f at ≡ head_size c + stmt_size c.statement
  pub body : BodyAt (take (at + class_size c) f) (at + 2) c

abbrev pub ClassesAt : List ℕ → ℕ → List Class → Type 0
ClassesAt f at [] = Unit {0}
ClassesAt f at (c ∷ cs) = ClassAt f at c × ClassesAt f (at + class_size c) cs

pub take_bytes : (n : ℕ) (f : List ℕ) → Bytes f → Bytes (take n f)
take_bytes zero f h = tt
take_bytes (suc n) [] h = tt
take_bytes (suc n) (b ∷ f) h = (h.0, take_bytes n f h.1)

pub class_sound : (f : List ℕ) → Bytes f → (at e : ℕ) → check_class f at ≡ Ok e → (c : Class) × ClassAt f at c × ClassKept c × (e ≡ at + class_size c)
class_sound f bs at e h =
    let stop = at + 2 + word_at f at in
    let p = ask_ok (leb (at + 2) (length f)) ClassHead at ClassHeadL _ e h in
    let q = ask_ok (leb stop (length f)) ClassHead at ClassHeadL _ e p.1 in
    let r = seq_ok (check_body (take stop f) (at + 2)) _ e q.1 in
    let last : stop ≡ e = ok_is stop e r.2 in
    let within : stop ≤ length f = leb-true stop (length f) q.0 in
    let b = body_sound (take stop f) (take_bytes stop f bs) (at + 2) r.0 r.1 in
    let c = b.0 in
    let long : length (take stop f) ≡ stop = length-take-le stop f within in
    let ends : stop ≡ at + class_size c = omega (arith, long, b.1.ends) in (
      c,
      record { within = omega (arith, within, ends); long = omega (arith, ends); body = subst (λ n. BodyAt (take n f) (at + 2) c) ends b.1 },
      b.2,
      sym last ∙ ends,
    )

pub class_complete : (f : List ℕ) (at : ℕ) (c : Class) → ClassAt f at c → ClassKept c → check_class f at ≡ Ok (at + class_size c)
class_complete f at c h k =
    let stop : at + 2 + word_at f at ≡ at + class_size c = omega (arith, h.long) in
    let a = le-leb (at + 2) (length f) (omega (arith, h.within)) in
    let b = le-leb (at + class_size c) (length f) h.within in
    rw (a, stop, b, body_complete (take (at + class_size c) f) (at + 2) c h.body k)

pub record ClassesFound (n : ℕ) (f : List ℕ) (at e : ℕ) (cs : List Class) : Type 0 where
  pub stand : ClassesAt f at cs
  pub kept : AllByRecursion ClassKept cs
  pub count : length cs ≡ n
  pub ends : e ≡ at + classes_size cs

pub classes_sound : (n : ℕ) (f : List ℕ) → Bytes f → (at e : ℕ) → check_classes n f at ≡ Ok e → (cs : List Class) × ClassesFound n f at e cs
classes_sound zero f bs at e h = let q : at ≡ e = ok_is at e h in ([], record { stand = tt; kept = tt; count = refl; ends = omega (arith, q) })
classes_sound (suc n) f bs at e h =
    let p = bind_ok (check_class f at) (check_classes n f) e h in
    let a = class_sound f bs at p.0 p.1 in
    let r = classes_sound n f bs p.0 e p.2 in
    (a.0 ∷ r.0, record { stand = (a.1, subst (λ i. ClassesAt f i r.0) a.3 r.1.stand); kept = (a.2, r.1.kept); count = ap suc r.1.count; ends = omega (arith, a.3, r.1.ends) })

pub classes_complete : (cs : List Class) (f : List ℕ) (at : ℕ) → ClassesAt f at cs → AllByRecursion ClassKept cs → check_classes (length cs) f at ≡ Ok (at + classes_size cs)
classes_complete [] f at s k = let e : at ≡ at + 0 = omega arith in ap (λ m. Ok m) e
classes_complete (c ∷ cs) f at s k =
    let e : at + class_size c + classes_size cs ≡ at + (class_size c + classes_size cs) = omega arith in
    rw (class_complete f at c s.0 k.0, classes_complete cs f (at + class_size c) s.1 k.1, e)
