use Rattle.std.proofs.Common.{refl}
use Rattle.mo_words.proofs.Ends.{untrue}
use Rattle.mo_words.proofs.Given.{leads_twice, leads_more, leads_end}
use Rattle.mo_words.proofs.options.read_options.Goals as goal

pub returns-then-not-is_free-clause-none : goal.returns-then-not-is_free-clause-none
returns-then-not-is_free-clause-none c =
    λ o script files h. leads_twice _ _ _ _ _ o script files c.loop-setting.invariant c.in-Some.ensures.found (untrue c.if-not-is_free.ensures.1) h

pub loop-setting-preserved : goal.loop-setting-preserved
loop-setting-preserved c = rw c.with-given.ensures (leads_more _ _ _ _ _ c.loop-setting.invariant c.in-Some.ensures.found (c.if-not-is_free.ensures.0 refl))

pub returns-clause-found : goal.returns-clause-found
returns-clause-found c = leads_end _ _ _ _ c.loop-setting.invariant c.in_default.ensures.none c.options.ensures
