-- Classes and their bytes, given the same of statements.
use Rattle.std.proofs.Common.{◌≡◌, ℕ, ◌+◌, ◌-◌, ◌*◌, ◌/◌, ◌%◌, ◌<◌, ◌≤◌, List, [], ◌∷◌, ◌++◌, length, take, drop, sym, ap, ◌∙◌, subst, append_assoc, append-nil, arith}
use Rattle.std.specs.List.{AllByRecursion}
use Rattle.std.proofs.lemmas.List.{length-take-le, length-drop, length-append, take-append-drop, drop-append-le, drop_all, take_at, drop-take}
use Rattle.values.specs.declared.kind.Kind.{Kind}
use Rattle.values.specs.Values.{Val}
use Rattle.commands.specs.Bytes.{word, stmt_bytes, variables_bytes, declarations_bytes, head_size, class_size, class_bytes, classes_bytes, classes_size}
use Rattle.commands.specs.Numbers.{two_bytes}
use Rattle.commands.specs.Stands.{StmtAt}
use Rattle.commands.specs.Trees.{Stmt, Declaration, Class, stmt_size}
use Rattle.heads.specs.Heads.{byte, class_declarations}
use Rattle.commands.specs.ByteLists.{Bytes}
use Rattle.admission.specs.Conditions.{StmtKept, ClassKept}
use Rattle.admission.proofs.ClassHeads.{HeadValid, head_end, byte_below}
use Rattle.admission.proofs.ClassParts.{class_values, BodyAt, ClassAt, ClassesAt, head_long, take_bytes}
use Rattle.admission.proofs.HeadBytes.{head_bytes, head_read, head_written, next_byte, drop_two}

-- parts of a list
drop_part : (f : List ℕ) (at stop : ℕ) → at ≤ stop → stop ≤ length f → drop at f ≡ drop at (take stop f) ++ drop stop f
drop_part f at stop h w =
    let long : at ≤ length (take stop f) = omega (arith, length-take-le stop f w) in
    ap (drop at) (sym (take-append-drop stop f)) ∙ drop-append-le at (take stop f) (drop stop f) long

part_drop : (f : List ℕ) (at stop : ℕ) (front rest : List ℕ) → at ≤ stop → stop ≤ length f → drop at f ≡ front ++ rest → drop stop f ≡ rest → drop at (take stop f) ≡ front
part_drop f at stop front rest h w e l =
    let a : length front + length rest ≡ length f - at = sym (length-append front rest) ∙ ap length (sym e) ∙ length-drop at f in
    let b : length rest ≡ length f - stop = ap length (sym l) ∙ length-drop stop f in
    let n : length front ≡ stop - at = omega (arith, a, b) in
    let s : stop ≡ at + (stop - at) = omega arith in
    ap (λ i. drop at (take i f)) s ∙ drop-take at (stop - at) f ∙ ap (take (stop - at)) e ∙ take_at front rest (stop - at) n

word_back : (a b : ℕ) → a < 256 → word (two_bytes a b) ≡ a ∷ b ∷ []
word_back a b h =
    let x : two_bytes a b % 256 ≡ a = omega arith in
    let y : two_bytes a b / 256 ≡ b = omega arith in
    rw (x, y)

head_append : (vs : List Val) (ds : List Declaration) (front rest : List ℕ) → head_bytes vs ds front ++ rest ≡ head_bytes vs ds (front ++ rest)
head_append vs ds front rest =
    ap (λ l. length vs ∷ l) (append_assoc (variables_bytes vs) (length ds ∷ (declarations_bytes ds ++ front)) rest
    ∙ ap (λ l. variables_bytes vs ++ (length ds ∷ l)) (append_assoc (declarations_bytes ds) front rest))

-- what is needed of statements
abbrev pub StmtRead : Type 0
StmtRead = (t : Stmt) (f : List ℕ) (at : ℕ) → Bytes f → StmtAt f at t → drop at f ≡ stmt_bytes at t ++ drop (at + stmt_size t) f

abbrev pub StmtWritten : Type 0
StmtWritten = (t : Stmt) (ks : List Kind) (ds : List Declaration) → StmtKept ks ds t → (f : List ℕ) (at : ℕ) (rest : List ℕ) → drop at f ≡ stmt_bytes at t ++ rest → StmtAt f at t × (drop (at + stmt_size t) f ≡ rest) × (at + stmt_size t ≤ length f)

abbrev pub StmtOne : Type 0
StmtOne = (t u : Stmt) (f : List ℕ) (at : ℕ) → StmtAt f at t → StmtAt f at u → t ≡ u

-- from the bytes to the tree
module _ (read : StmtRead) where
  body_read : (f : List ℕ) (at : ℕ) (c : Class) → Bytes f → BodyAt f at c → drop at f ≡ head_bytes c.variables c.declarations (stmt_bytes (at + head_size c) c.statement)
  body_read f at c bs b =
      let m = at + head_size c in
      let t = c.statement in
      let end = b.ends in
      let place : head_end f at ≡ m = head_long f at c b.variables b.declarations in
      let last : drop (m + stmt_size t) f ≡ [] = drop_all (m + stmt_size t) f (omega arith) in
      let s : drop (head_end f at) f ≡ stmt_bytes m t = ap (λ i. drop i f) place ∙ read t f m bs b.statement ∙ ap (λ l. stmt_bytes m t ++ l) last ∙ append-nil (stmt_bytes m t) in
      head_read f at bs b.head
      ∙ ap (λ l. head_bytes (class_values f at) (class_declarations f at) l) s
      ∙ ap (λ vs. head_bytes vs (class_declarations f at) (stmt_bytes m t)) b.variables
      ∙ ap (λ ds. head_bytes c.variables ds (stmt_bytes m t)) b.declarations

  pub class_read : (f : List ℕ) (at : ℕ) (c : Class) → Bytes f → ClassAt f at c → drop at f ≡ class_bytes at c ++ drop (at + class_size c) f
  class_read f at c bs h =
      let stop = at + class_size c in
      let w = h.within in
      let n = head_size c + stmt_size c.statement in
      let body = stmt_bytes (at + 2 + head_size c) c.statement in
      let a = drop_two f at (omega arith) in
      let b = drop_part f (at + 2) stop (omega arith) w in
      let d = body_read (take stop f) (at + 2) c (take_bytes stop f bs) h.body in
      let x : word n ≡ byte f at ∷ byte f (at + 1) ∷ [] = ap word (sym h.long) ∙ word_back (byte f at) (byte f (at + 1)) (byte_below f at bs) in
      a
      ∙ ap (λ l. byte f at ∷ byte f (at + 1) ∷ l) (b ∙ ap (λ l. l ++ drop stop f) d)
      ∙ ap (λ l. (l ++ head_bytes c.variables c.declarations body) ++ drop stop f) (sym x)

  pub classes_read : (f : List ℕ) (at : ℕ) (cs : List Class) → Bytes f → ClassesAt f at cs → drop at f ≡ classes_bytes at cs ++ drop (at + classes_size cs) f
  classes_read f at [] bs h = let e : at ≡ at + 0 = omega arith in ap (λ i. drop i f) e
  classes_read f at (c ∷ cs) bs h =
      let e : at + class_size c + classes_size cs ≡ at + (class_size c + classes_size cs) = omega arith in
      class_read f at c bs h.0
      ∙ ap (λ l. class_bytes at c ++ l) (classes_read f (at + class_size c) cs bs h.1 ∙ ap (λ i. classes_bytes (at + class_size c) cs ++ drop i f) e)
      ∙ sym (append_assoc (class_bytes at c) (classes_bytes (at + class_size c) cs) (drop (at + (class_size c + classes_size cs)) f))

-- from the tree to the bytes
record BodyWritten (f : List ℕ) (at : ℕ) (c : Class) (rest : List ℕ) : Type 0 where
  head : HeadValid f at
  variables : class_values f at ≡ c.variables
  declarations : class_declarations f at ≡ c.declarations
  statement : StmtAt f (at + head_size c) c.statement
  left : drop (at + head_size c + stmt_size c.statement) f ≡ rest
  within : at + head_size c + stmt_size c.statement ≤ length f

pub nothing_left : (f : List ℕ) (at : ℕ) → drop at f ≡ [] → at ≤ length f → length f ≡ at
nothing_left f at e w = let n : 0 ≡ length f - at = ap length (sym e) ∙ length-drop at f in omega arith

module _ (written : StmtWritten) where
  body_written : (f : List ℕ) (at : ℕ) (c : Class) (rest : List ℕ) → ClassKept c → drop at f ≡ head_bytes c.variables c.declarations (stmt_bytes (at + head_size c) c.statement ++ rest) → BodyWritten f at c rest
  body_written f at c rest k e =
      let m = at + head_size c in
      let h = head_written f at c.variables c.declarations (stmt_bytes m c.statement ++ rest) k.variables_few k.values_kept k.declarations_few k.declarations_kept e in
      let place : head_end f at ≡ m = head_long f at c h.variables h.declarations in
      let s = written c.statement _ c.declarations k.statement_kept f m rest (subst (λ i. drop i f ≡ stmt_bytes m c.statement ++ rest) place h.left) in
      record { head = h.head; variables = h.variables; declarations = h.declarations; statement = s.0; left = s.1; within = s.2 }

  body_at : (f : List ℕ) (at : ℕ) (c : Class) → ClassKept c → drop at f ≡ head_bytes c.variables c.declarations (stmt_bytes (at + head_size c) c.statement) → BodyAt f at c
  body_at f at c k e =
      let s = stmt_bytes (at + head_size c) c.statement in
      let b = body_written f at c [] k (e ∙ ap (λ l. head_bytes c.variables c.declarations l) (sym (append-nil s))) in
      record { head = b.head; variables = b.variables; declarations = b.declarations; statement = b.statement; ends = nothing_left f (at + head_size c + stmt_size c.statement) b.left b.within }

  pub class_written : (f : List ℕ) (at : ℕ) (c : Class) (rest : List ℕ) → ClassKept c → drop at f ≡ class_bytes at c ++ rest → ClassAt f at c × (drop (at + class_size c) f ≡ rest)
  class_written f at c rest k e =
      let n = head_size c + stmt_size c.statement in
      let stop = at + class_size c in
      let vs = c.variables in
      let ds = c.declarations in
      let s = stmt_bytes (at + 2 + head_size c) c.statement in
      let p = next_byte f at (n % 256) (n / 256 ∷ (head_bytes vs ds s ++ rest)) e in
      let q = next_byte f (at + 1) (n / 256) (head_bytes vs ds s ++ rest) p.1 in
      let two : at + 1 + 1 ≡ at + 2 = omega arith in
      let here : drop (at + 2) f ≡ head_bytes vs ds s ++ rest = ap (λ i. drop i f) (sym two) ∙ q.1 in
      let b = body_written f (at + 2) c rest k (here ∙ head_append vs ds s rest) in
      let last : at + 2 + head_size c + stmt_size c.statement ≡ stop = omega arith in
      let left : drop stop f ≡ rest = ap (λ i. drop i f) (sym last) ∙ b.left in
      let within : stop ≤ length f = omega (arith, b.within) in
      let low = p.0 in
      let high = q.0 in
      let all : n % 256 + n / 256 * 256 ≡ n = omega arith in (
        record {
          within = within;
          long = rw (low, high) all;
          body = body_at (take stop f) (at + 2) c k (part_drop f (at + 2) stop (head_bytes vs ds s) rest (omega arith) within here left);
        },
        left,
      )

  pub classes_written : (f : List ℕ) (at : ℕ) (cs : List Class) (rest : List ℕ) → AllByRecursion ClassKept cs → drop at f ≡ classes_bytes at cs ++ rest → ClassesAt f at cs × (drop (at + classes_size cs) f ≡ rest)
  classes_written f at [] rest k e = let n : at ≡ at + 0 = omega arith in (tt, subst (λ i. drop i f ≡ rest) n e)
  classes_written f at (c ∷ cs) rest k e =
      let a = class_written f at c (classes_bytes (at + class_size c) cs ++ rest) k.0 (e ∙ append_assoc (class_bytes at c) (classes_bytes (at + class_size c) cs) rest) in
      let b = classes_written f (at + class_size c) cs rest k.1 a.1 in
      let n : at + class_size c + classes_size cs ≡ at + (class_size c + classes_size cs) = omega arith in
      ((a.0, b.0), subst (λ i. drop i f ≡ rest) n b.1)
