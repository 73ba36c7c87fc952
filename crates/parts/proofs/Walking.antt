-- The tree that stands where a command was read, and the values of a SEND that are still ahead.
use Rattle.std.proofs.Common.{◌≡◌, ℕ, ◌+◌, ◌-◌, ◌<◌, List, [], ◌∷◌, length, drop, Some, None, ◌⊎◌, inl, inr, sym, ap, ◌∙◌, subst, arith}
use Rattle.commands.specs.declared.behaviour.BehaviourCommand.{BehaviourCommand}
use Rattle.commands.specs.declared.behaviour.BehaviourCommand.TheVariants.{Proc, Par, Hide, Rename}
use Rattle.commands.specs.declared.expression.ExpressionCommand.{ExpressionCommand}
use Rattle.commands.specs.declared.expression.ExpressionCommand.TheVariants.{Leaf as LeafC, Binary, Not}
use Rattle.commands.specs.declared.statement.StatementCommand.{StatementCommand}
use Rattle.commands.specs.declared.statement.StatementCommand.TheVariants.{Skip, Set, Send, Recv, Seq, Sel, Guard, If, Do}
use Rattle.commands.specs.Behaviours.{behaviour_command}
use Rattle.commands.specs.Bytes.{padded}
use Rattle.commands.specs.Expressions.{expression_command}
use Rattle.commands.specs.Stands.{ExprAt, ExprsAt, StmtAt, BehaviourAt}
use Rattle.commands.specs.Statements.{statement_command}
use Rattle.commands.specs.Trees.{Expr, leaf, binary, negation, Stmt, skip, assign, send, receive, sequence, select, guard, branch, loop, Behaviour, process, parallel, hide, rename, expr_size, exprs_size, stmt_size, behaviour_size}
use Rattle.commands.proofs.Nodes.{ExprNode, StmtNode, BehaviourNode, expr_node, stmt_node, behaviour_node}

module _ (f : List ℕ) (at : ℕ) where
  pub expr_here : (u : Expr) {c x : ExpressionCommand} → x ≡ c → Some x ≡ expression_command (drop at f) → ExprAt f at u → ExprNode f at c u
  expr_here u {c} i h s = expr_node f at c u (sym h ∙ ap (λ y. Some y) i) s

  pub stmt_here : (u : Stmt) {c x : StatementCommand} → x ≡ c → Some x ≡ statement_command (drop at f) → StmtAt f at u → StmtNode f at c u
  stmt_here u {c} i h s = stmt_node f at c u (sym h ∙ ap (λ y. Some y) i) s

  pub behaviour_here : (u : Behaviour) {c x : BehaviourCommand} → x ≡ c → Some x ≡ behaviour_command (drop at f) → BehaviourAt f at u → BehaviourNode f at c u
  behaviour_here u {c} i h s = behaviour_node f at c u (sym h ∙ ap (λ y. Some y) i) s

  -- some command begins every tree
  expr_some : (u : Expr) → ExprAt f at u → (c : ExpressionCommand) × (expression_command (drop at f) ≡ Some c)
  expr_some (leaf l) s = (LeafC l, s)
  expr_some (binary op a b) s = (Binary op (at + 3 + expr_size a), s.0)
  expr_some (negation a) s = (Not, s.0)

  pub no_expr : (u : Expr) → None ≡ expression_command (drop at f) → ExprAt f at u → ⊥
  no_expr u h s = let p = (expr_some u s).1 in let z : ◌≡◌ {A = ℕ} 0 1 = cc in omega arith

  stmt_some : (u : Stmt) → StmtAt f at u → (c : StatementCommand) × (statement_command (drop at f) ≡ Some c)
  stmt_some skip s = (Skip, s)
  stmt_some (assign v e) s = (Set v, s.0)
  stmt_some (send c m es) s = (Send c m (length es), s.0)
  stmt_some (receive c m vs) s = (Recv c m (length vs) (padded vs), s)
  stmt_some (sequence a b) s = (Seq (at + 3 + stmt_size a), s.0)
  stmt_some (select a b) s = (Sel (at + 3 + stmt_size a), s.0)
  stmt_some (guard e a) s = (Guard (at + 3 + expr_size e), s.0)
  stmt_some (branch e a b) s = (If (at + 5 + expr_size e) (at + 5 + expr_size e + stmt_size a), s.0)
  stmt_some (loop e a) s = (Do (at + 3 + expr_size e), s.0)

  pub no_stmt : (u : Stmt) → None ≡ statement_command (drop at f) → StmtAt f at u → ⊥
  no_stmt u h s = let p = (stmt_some u s).1 in let z : ◌≡◌ {A = ℕ} 0 1 = cc in omega arith

  -- the place is that of the command's last part
  abbrev pub IsLast : StatementCommand → ℕ → Type 0
  IsLast c p = (c ≡ Seq p) ⊎ ((c ≡ Sel p) ⊎ ((c ≡ Guard p) ⊎ (((x : ℕ) × (c ≡ If x p)) ⊎ (c ≡ Do p))))

  -- and that part ends where the whole does
  pub record LastPart (p : ℕ) (u : Stmt) : Type 0 where
    pub part : Stmt
    pub stands : StmtAt f p part
    pub behind : at < p
    pub ends : p + stmt_size part ≡ at + stmt_size u

  pub last_part : (u : Stmt) {c : StatementCommand} {p : ℕ} → IsLast c p → Some c ≡ statement_command (drop at f) → StmtAt f at u → LastPart p u
  last_part u (inl e) h s =
      let n = stmt_here u e h s in
      record { part = n.1; stands = n.5; behind = omega (arith, n.3); ends = omega (arith, n.3, ap stmt_size n.2) }
  last_part u (inr (inl e)) h s =
      let n = stmt_here u e h s in
      record { part = n.1; stands = n.5; behind = omega (arith, n.3); ends = omega (arith, n.3, ap stmt_size n.2) }
  last_part u (inr (inr (inl e))) h s =
      let n = stmt_here u e h s in
      record { part = n.1; stands = n.5; behind = omega (arith, n.3); ends = omega (arith, n.3, ap stmt_size n.2) }
  last_part u (inr (inr (inr (inl e)))) h s =
      let n = stmt_here u e.1 h s in
      record { part = n.2; stands = n.8; behind = omega (arith, n.4, n.5); ends = omega (arith, n.4, n.5, ap stmt_size n.3) }
  last_part u (inr (inr (inr (inr e)))) h s =
      let n = stmt_here u e h s in
      record { part = n.1; stands = n.5; behind = omega (arith, n.3); ends = omega (arith, n.3, ap stmt_size n.2) }

  behaviour_some : (u : Behaviour) → BehaviourAt f at u → (c : BehaviourCommand) × (behaviour_command (drop at f) ≡ Some c)
  behaviour_some (process c) s = (Proc c, s)
  behaviour_some (parallel a b) s = (Par (at + 3 + behaviour_size a), s.0)
  behaviour_some (hide x a) s = (Hide x, s.0)
  behaviour_some (rename x y a) s = (Rename x y, s.0)

  pub no_behaviour : (u : Behaviour) → None ≡ behaviour_command (drop at f) → BehaviourAt f at u → ⊥
  no_behaviour u h s = let p = (behaviour_some u s).1 in let z : ◌≡◌ {A = ℕ} 0 1 = cc in omega arith

-- so many expressions are ahead, and behind the last one is the place `stop`
abbrev pub Ahead : List ℕ → ℕ → ℕ → ℕ → Type 0
Ahead f n end stop = (es : List Expr) × (n ≡ length es) × ExprsAt f end es × (stop ≡ end + exprs_size es)

module _ (f : List ℕ) (n i end stop : ℕ) where
  ahead_by : (es : List Expr) → n - i ≡ length es → ExprsAt f end es → stop ≡ end + exprs_size es → i < n → (e : Expr) × (rest : List Expr) × ExprAt f end e × ExprsAt f (end + expr_size e) rest × (n - (i + 1) ≡ length rest) × (stop ≡ end + expr_size e + exprs_size rest)
  ahead_by [] k s p h = absurd (omega arith)
  ahead_by (e ∷ es) k s p h = (e, es, s.0, s.1, omega arith, omega arith)

  pub ahead_first : Ahead f (n - i) end stop → i < n → (e : Expr) × ExprAt f end e
  ahead_first a h = let p = ahead_by a.0 a.1 a.2 a.3 h in (p.0, p.2)

  pub ahead_next : (new : ℕ) → ((e : Expr) → ExprAt f end e → new ≡ end + expr_size e) → Ahead f (n - i) end stop → i < n → Ahead f (n - (i + 1)) new stop
  ahead_next new ends a h =
      let p = ahead_by a.0 a.1 a.2 a.3 h in
      let there : new ≡ end + expr_size p.0 = ends p.0 p.2 in
      (p.1, p.4, subst (λ m. ExprsAt f m p.1) (sym there) p.3, omega (arith, there, p.5))

  ahead_none : (es : List Expr) → n - i ≡ length es → stop ≡ end + exprs_size es → i ≡ n → end ≡ stop
  ahead_none [] k p h = omega arith
  ahead_none (e ∷ es) k p h = absurd (omega arith)

  pub ahead_done : Ahead f (n - i) end stop → i ≡ n → end ≡ stop
  ahead_done a h = ahead_none a.0 a.1 a.3 h
