use Rattle.std.proofs.Common.{◌∙◌, ◌<◌, ◌≤◌, length, arith}
use Rattle.value_scopes.proofs.Stacking.{one_less, none_above, cut_back}
use Rattle.value_scopes.proofs.stack.NameStack.truncate.Goals as goal

pub loop-self-preserved : goal.loop-self-preserved
loop-self-preserved g c =
    let n : c.args.len < length c.loop-self.self = omega (arith, c.loop-self-test.true, c.len.ensures) in
    one_less c.loop-self.self c.pop.new.self c.args.len n c.pop.ensures ∙ c.loop-self.invariant

pub returns-clause-kept : goal.returns-clause-kept
returns-clause-kept g c =
    let n : length c.loop-self.self ≤ c.args.len = omega (arith, c.loop-self-test.false, c.len.ensures) in
    none_above c.loop-self.self c.args.self.now c.args.len n c.loop-self.invariant

pub returns-clause-back : goal.returns-clause-back
returns-clause-back g c = λ more before e l.
    let n : length c.loop-self.self ≤ c.args.len = omega (arith, c.loop-self-test.false, c.len.ensures) in
    cut_back c.loop-self.self c.args.self.now more before c.args.len (none_above c.loop-self.self c.args.self.now c.args.len n c.loop-self.invariant) e l
