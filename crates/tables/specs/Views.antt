-- The processes that a table and a file's bytes stand for, and what the bytes must keep for it.
use Rattle.std.specs.Prelude.{ℕ, ◌+◌, Bool, true, ◌&&◌, List, [], ◌∷◌, map, length, is_ok, ◌==◌, nat_le, nat_lt, slice_index_or}
use Rattle.std.specs.List.{range_with_len}
use Rattle.values.specs.declared.row.Row.{Row}
use Rattle.values.specs.Values.{kind_of}
use Rattle.commands.specs.Depths.{stmt_depth}
use Rattle.commands.specs.Trees.{Stmt, Class}
use Rattle.files.specs.Files.{levels}
use Rattle.heads.specs.Exchanges.{same_kinds}
use Rattle.files.specs.Statements.{check_statement}
use Rattle.parts.specs.Parts.{stmt_in}
use Rattle.admission.specs.Read.{classes_in}
use Rattle.processes.specs.declared.left.Left.{Left}
use Rattle.processes.specs.Evaluation.{values_of}
use Rattle.processes.specs.Places.{places_of}
use Rattle.steps.specs.Models.{Process, class_numbered}
use Rattle.tables.specs.declared.table.Entry.{Entry}
use Rattle.tables.specs.declared.table.Table.{Table}
use Rattle.tables.specs.Rows.{no_entry, rows_of}

-- the statements at the places that remain
abbrev pub left_in : List ℕ → Left → List Stmt
left_in f l = map (λ q. stmt_in levels f q) (places_of l)

-- the process of an entry and its rows
abbrev pub view : List ℕ → Entry → List Row → Process
view f e rows = record { class = e.class; left = left_in f e.left; variables = values_of rows }

abbrev pub process_in : List ℕ → Table → ℕ → Process
process_in f t p = view f (slice_index_or t.entries p no_entry) (rows_of t p)

-- the first processes of a table
abbrev pub processes_in : List ℕ → Table → ℕ → List Process
processes_in f t n = map (process_in f t) (range_with_len 0 n)

-- a class of a file with so many classes
abbrev pub class_in_file : List ℕ → ℕ → ℕ → Class
class_in_file f n k = class_numbered (classes_in n f 4) k

-- the statement at each place passes the check of the class
abbrev pub passes : List ℕ → Class → ℕ → Bool
passes f c q = is_ok (check_statement levels f q (map kind_of c.variables) c.declarations)

abbrev pub all_pass : List ℕ → Class → List ℕ → Bool
all_pass f c [] = true
all_pass f c (q ∷ qs) = passes f c q && all_pass f c qs

-- each statement, with all that nests in it, has room above those behind it
abbrev pub have_room : List Stmt → Bool
have_room [] = true
have_room (s ∷ rest) = nat_le (length rest + stmt_depth s) 32 && have_room rest

-- an entry and its rows belong to a class of the file
abbrev pub of_class : List ℕ → Class → Entry → List Row → Bool
of_class f c e rows =
    (e.variables == length c.variables)
    && (same_kinds (map kind_of (values_of rows)) (map kind_of c.variables)
    && (all_pass f c (places_of e.left) && have_room (left_in f e.left)))

abbrev pub sound_entry : List ℕ → ℕ → Entry → List Row → Bool
sound_entry f n e rows = nat_lt e.class n && of_class f (class_in_file f n e.class) e rows
