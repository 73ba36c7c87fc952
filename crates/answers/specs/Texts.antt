-- How answers are written.
use Rattle.std.specs.Prelude.{ℕ, List, ◌++◌, codes}
use Rattle.std.specs.Fmt.{decimal}
use Rattle.answers.specs.declared.fault.LoadFault.{LoadFault}
use Rattle.answers.specs.declared.stop.Stop.{Stop}
use Rattle.answers.specs.Numbers.{fault_number, layer_number, stop_number}

abbrev pub refused_text : ℕ → List ℕ
refused_text n = codes "refused " ++ decimal n

abbrev pub fault_text : LoadFault → List ℕ
fault_text x =
    codes "refused " ++ (decimal (fault_number x.kind) ++ (codes " place " ++ (decimal x.place ++ (codes " layer " ++ decimal (layer_number x.layer)))))

abbrev pub stop_text : Stop → List ℕ
stop_text x = codes "stop " ++ decimal (stop_number x)
