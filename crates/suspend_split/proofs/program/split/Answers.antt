use Rattle.std.proofs.Common.{◌∙◌, ap, sym, subst}
use Rattle.core_ir.specs.ProgramView.{core}
use Rattle.core_laws.proofs.FormedPrograms.{formed_qualify}
use Rattle.core_laws.proofs.NamedUses.{splitting_forms}
use Rattle.core_laws.proofs.SplittingLaw.{splitting_carries}
use Rattle.suspend_split.specs.Parts.{sizes_of}
use Rattle.suspend_split.specs.Runs.{DoesWithinTwice, KeepsFormed}
use Rattle.suspend_split.proofs.Programs.{program_is}
use Rattle.suspend_split.proofs.program.split.Goals as goal

pub returns-clause-split : goal.returns-clause-split
returns-clause-split c =
    let p = c.args.program.now in
    program_is p c.in_ok-split_by.field-0 c.deref.result.now (c.deref.ensures.value ∙ c.in_ok-sizes.ensures ∙ ap sizes_of c.as_slice.ensures) c.in_ok-split_by.ensures

pub returns-clause-same : goal.returns-clause-same
returns-clause-same c =
    let p = c.args.program.now in
    subst (DoesWithinTwice (core p)) (sym (program_is p c.in_ok-split_by.field-0 c.deref.result.now (c.deref.ensures.value ∙ c.in_ok-sizes.ensures ∙ ap sizes_of c.as_slice.ensures) c.in_ok-split_by.ensures)) (splitting_carries (core p))

pub returns-clause-formed : goal.returns-clause-formed
returns-clause-formed c =
    let p = c.args.program.now in
    subst (KeepsFormed (core p)) (sym (program_is p c.in_ok-split_by.field-0 c.deref.result.now (c.deref.ensures.value ∙ c.in_ok-sizes.ensures ∙ ap sizes_of c.as_slice.ensures) c.in_ok-split_by.ensures))
    (λ own h. (splitting_forms own (core p) h, λ n k e e' i. splitting_carries (core p) (formed_qualify own (core p) h).0 n k e e' i))
