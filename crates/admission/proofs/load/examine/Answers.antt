use Rattle.std.proofs.Common.{arith}
use Rattle.admission.proofs.Deciding.{decides, bytes_from}
use Rattle.admission.proofs.Rereading.{reads_trees, answer_read}
use Rattle.admission.proofs.Supplied.{admits}
use Rattle.admission.proofs.load.examine.Goals as goal

pub returns : goal.returns
returns c =
    let small = bytes_from c.args.file.now (λ i. omega (arith, (c.type_inv.file i).fits)) in
    record {
      exact = c.check_file.ensures;
      admitted = decides c.args.file.now c.check_file.result small c.check_file.ensures;
      read = answer_read c.args.file.now c.check_file.result small c.check_file.ensures;
      law = admits;
      trees = reads_trees;
    }
