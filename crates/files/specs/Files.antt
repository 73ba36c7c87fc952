-- The check of a whole file: the first fault in file order, or what loading needs.
use Rattle.std.specs.Prelude.{ℕ, zero, suc, ◌+◌, ◌&&◌, List, length, take, Ok, ◌==◌, nat_le}
use Rattle.answers.specs.declared.fault.FaultKind.TheVariants.{Length, FirstBytes, ClassHead, Command}
use Rattle.answers.specs.declared.fault.Layer.TheVariants.{File as FileL, ClassHead as ClassHeadL, Statement as StatementL, Behaviour as BehaviourL}
use Rattle.heads.specs.Checked.{Checked, ask, ◌>>=◌, ◌>>◌}
use Rattle.files.specs.Behaviours.{check_behaviour}
use Rattle.heads.specs.Heads.{byte, word_at, check_head, class_kinds, class_declarations}
use Rattle.files.specs.Statements.{check_statement}

-- the levels that commands may nest
abbrev pub levels : ℕ
levels = 32

-- the body of a class whose bytes begin at a place and end with the list
abbrev pub check_body : List ℕ → ℕ → Checked (Unit {0})
check_body f at = do
  statement ← check_head f at
  end ← check_statement levels f statement (class_kinds f at) (class_declarations f at)
  ask (end.0 == length f) Command end.0 StatementL

-- the class at a place, and the place behind it
abbrev pub check_class : List ℕ → ℕ → Checked ℕ
check_class f at = do
  ask (nat_le (at + 2) (length f)) ClassHead at ClassHeadL
  ask (nat_le (at + 2 + word_at f at) (length f)) ClassHead at ClassHeadL
  check_body (take (at + 2 + word_at f at) f) (at + 2)
  Ok (at + 2 + word_at f at)

abbrev pub check_classes : ℕ → List ℕ → ℕ → Checked ℕ
check_classes zero f at = Ok at
check_classes (suc n) f at = check_class f at >>= check_classes n f

abbrev pub first_byte : List ℕ → ℕ → ℕ → Checked (Unit {0})
first_byte f at b = ask (byte f at == b) FirstBytes at FileL

-- the length, and the first four bytes
abbrev pub check_header : List ℕ → Checked (Unit {0})
check_header f = do
  ask (nat_le 4 (length f) && nat_le (length f) 4096) Length 0 FileL
  first_byte f 0 0x50
  first_byte f 1 0x53
  first_byte f 2 0x01
  ask (nat_le 1 (byte f 3) && nat_le (byte f 3) 8) FirstBytes 3 FileL

-- the number of classes behind a good header
abbrev pub header_classes : List ℕ → Checked ℕ
header_classes f = check_header f >> Ok (byte f 3)

-- the number of classes, the place of the behaviour, and the number of processes
abbrev pub Summary : Type 0
Summary = ℕ × ℕ × ℕ

abbrev pub check_file : List ℕ → Checked Summary
check_file f = do
  check_header f
  at ← check_classes (byte f 3) f 4
  end ← check_behaviour levels f (byte f 3) at 0
  ask (end.0 == length f) Command end.0 BehaviourL
  Ok (byte f 3, at, end.1)
