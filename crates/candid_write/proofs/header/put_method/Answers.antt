use Rattle.std.proofs.Common.{subst}
use Rattle.mo_types.specs.Spelling.{shortest, IsString}
use Rattle.candid_write.specs.Appends.{Appends}
use Rattle.candid_write.proofs.Adds.{then_is, ok_then}
use Rattle.candid_write.proofs.header.put_method.Goals as goal

pub returns : goal.returns
returns c = ok_then c.put_ref.result c.put_ref.ensures (λ e. then_is (subst (λ t. Appends (λ b. IsString shortest t b) c.args.out.now c.put_string.new.out) c.as_slice.ensures c.in_ok-put_string.ensures) e)
