-- All laws of steps.
use Rattle.steps.specs.Laws.{StepLaws}
use Rattle.steps.proofs.Declared.{declared_laws}
use Rattle.steps.proofs.Keeping.{taking_laws}
use Rattle.steps.proofs.Listing.{listing_laws}
use Rattle.steps.proofs.Resting.{rest_laws}
use Rattle.steps.proofs.Staying.{proc_laws}

pub step_laws : StepLaws
step_laws = record { procs = proc_laws; listing = listing_laws; taking = taking_laws; declared = declared_laws; resting = rest_laws }
