-- The check of classes, one by one.
use Rattle.std.proofs.Common.{◌≡◌, ℕ, suc, ◌+◌, ◌-◌, ◌<◌, List, arith}
use Rattle.heads.specs.Checked.{◌>>=◌}
use Rattle.files.specs.Files.{check_class, check_classes}

pub classes_step : (n i : ℕ) (f : List ℕ) (at : ℕ) → i < n → check_classes (n - i) f at ≡ (check_class f at >>= check_classes (n - (i + 1)) f)
classes_step n i f at more = let one : n - i ≡ suc (n - (i + 1)) = omega arith in rw one
