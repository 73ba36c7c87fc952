-- A statement in a file and in a front of it.
use Rattle.std.proofs.Common.{◌≡◌, ℕ, zero, suc, ◌+◌, ◌-◌, List, [], ◌∷◌, ◌++◌, take, drop, sym, ap, ◌∙◌, append_assoc, append-nil, take-append-drop}
use Rattle.std.proofs.lemmas.List.{drop-take, take_at}
use Rattle.std.proofs.lemmas.Slice.{between_is}
use Rattle.commands.specs.ByteLists.{Bytes}
use Rattle.commands.specs.Bytes.{stmt_bytes}
use Rattle.commands.specs.Ranges.{StmtInRange}
use Rattle.commands.specs.Stands.{StmtAt}
use Rattle.commands.specs.Trees.{Stmt, stmt_size}
use Rattle.commands.proofs.Decoded.{stmt_to_bytes, stmt_ranged}
use Rattle.commands.proofs.Encoded.{stmt_from_bytes, stmt_bytes_size}

pub bytes_take : (f : List ℕ) (k : ℕ) → Bytes f → Bytes (take k f)
bytes_take [] zero h = tt
bytes_take [] (suc k) h = tt
bytes_take (b ∷ f) zero h = tt
bytes_take (b ∷ f) (suc k) h = (h.0, bytes_take f k h.1)

-- it stands in the front that ends with it
pub stmt_cut : (s : Stmt) (f : List ℕ) (at : ℕ) (rest : List ℕ) → StmtInRange s → drop at f ≡ stmt_bytes at s ++ rest → StmtAt (take (at + stmt_size s) f) at s
stmt_cut s f at rest h e =
    let x = stmt_bytes at s in
    let n = stmt_size s in
    let d : drop at (take (at + n) f) ≡ x = drop-take at n f ∙ ap (take n) e ∙ take_at x rest n (stmt_bytes_size at s h) in
    stmt_from_bytes s (take (at + n) f) at [] h (d ∙ sym (append-nil x))

-- where it stands in a front, it stands in the file
pub stmt_uncut : (s : Stmt) (f : List ℕ) (at k : ℕ) → Bytes f → StmtAt (take k f) at s → StmtAt f at s
stmt_uncut s f at k h t =
    let g = take k f in
    let x = stmt_bytes at s in
    let r = drop (at + stmt_size s) g in
    let z = drop (k - at) (drop at f) in
    let d : take (k - at) (drop at f) ≡ x ++ r = between_is f at k ∙ stmt_to_bytes s g at (bytes_take f k h) t in
    let e : drop at f ≡ x ++ (r ++ z) = sym (take-append-drop (k - at) (drop at f)) ∙ ap (λ l. l ++ z) d ∙ append_assoc x r z in
    stmt_from_bytes s f at (r ++ z) (stmt_ranged s g at (bytes_take f k h) t) e
