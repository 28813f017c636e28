use Rattle.std.proofs.Common.{arith}
use Rattle.candid_read.proofs.Texts.{all_bytes}
use Rattle.candid_read.proofs.reference.copy.Goals as goal

pub returns-clause-bytes : goal.returns-clause-bytes
returns-clause-bytes c = all_bytes c.args.bytes.now (λ i. omega (arith, c.type_inv.bytes i))

pub returns-in_err-from_slice-clause-bytes : goal.returns-in_err-from_slice-clause-bytes
returns-in_err-from_slice-clause-bytes c = all_bytes c.args.bytes.now (λ i. omega (arith, c.type_inv.bytes i))
