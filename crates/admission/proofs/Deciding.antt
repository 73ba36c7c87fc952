-- The check's answer decides whether a file is admitted.
use Rattle.std.proofs.Common.{◌≡◌, ℕ, suc, ◌<◌, List, [], ◌∷◌, get_or, is_ok, Ok, Err, Decides, Result, sym, refl, ap, arith}
use Rattle.commands.specs.ByteLists.{Bytes}
use Rattle.answers.specs.declared.fault.LoadFault.{LoadFault}
use Rattle.files.specs.declared.file.Summary.{Summary}
use Rattle.files.specs.Files.{check_file}
use Rattle.files.specs.Summaries.{summed}
use Rattle.admission.specs.Admission.{Admitted}
use Rattle.admission.proofs.Supplied.{admits}

pub bytes_from : (bs : List ℕ) → ((i : ℕ) → get_or bs i 0 < 256) → Bytes bs
bytes_from [] h = tt
bytes_from (b ∷ bs) h = (h 0, bytes_from bs (λ i. h (suc i)))

pub decides : (bs : List ℕ) (r : Result Summary LoadFault) → Bytes bs → summed r ≡ check_file bs → Decides (is_ok r) (Admitted bs)
decides bs (Ok s) small e =
    (λ _. let p = admits.sound bs _ small (sym e) in (p.0, p.1, p.2), λ _. refl)
decides bs (Err x) small e = (
  λ f. absurd (let z : ◌≡◌ {A = ℕ} 0 1 = cc in omega arith),
  λ a. let same = ap check_file a.2 in let good = admits.complete a.0 a.1 in absurd (let z : ◌≡◌ {A = ℕ} 0 1 = cc in omega arith),
)
