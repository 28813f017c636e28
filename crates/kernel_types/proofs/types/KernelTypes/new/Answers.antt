use Rattle.kernel_types.proofs.Numbered.{kept_so}
use Rattle.kernel_types.proofs.types.KernelTypes.new.Goals as goal

pub invariant_of-result : goal.invariant_of-result
invariant_of-result c = kept_so c.args.types c.terms.result.now c.requires.kept c.terms.ensures c.len-many.ensures.distinct c.len-many.ensures.founded
