use Rattle.std.proofs.Common.{ap, sym, ◌∙◌}
use Rattle.core_calls.specs.Calling.{seen_held}
use Rattle.core_calls.proofs.Held.{no_call, other_call}
use Rattle.core_calls.proofs.callee.member_call.Goals as goal

pub returns-in_default-clause-none : goal.returns-in_default-clause-none
returns-in_default-clause-none c = no_call c.args.typed.now c.in_default.len_below

pub returns-in-None-clause-none : goal.returns-in-None-clause-none
returns-in-None-clause-none c =
    other_call c.args.typed.now c.callee-item.result c.in-len1-up.len_at_least c.callee-item.is (sym c.held_by.ensures ∙ ap seen_held c.in-None.is)
