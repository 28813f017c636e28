use Rattle.std.proofs.Common.{◌∙◌, ℕ, ap, List, Bool, Decides, subst}
use Rattle.std.proofs.lemmas.Result.{IfOk-weaker}
use Rattle.core_ir.specs.declared.expression.CoreBody.{CoreBody}
use Rattle.core_ir.specs.declared.program.Group.{Group as GroupTree}
use Rattle.core_ir.specs.ProgramView.{core}
use Rattle.core_measures.specs.Sizes.{size_of, sizes_of}
use Rattle.core_measures.specs.Within.{WithinBy}
use Rattle.core_measures.proofs.Deciding.{sizes_are}
use Rattle.core_measures.proofs.within.is_within.Goals as goal

pub returns : goal.returns
returns c =
    let p = c.args.program.now in
    let sizes = ap size_of (c.deref.ensures.value ∙ c.in_ok-sizes.ensures ∙ ap (λ (gs : List (GroupTree CoreBody)). sizes_of gs) c.as_slice.ensures) ∙ sizes_are p.program.groups in
    IfOk-weaker c.is_within_by.result _ _ (λ (yes : Bool) h. subst (λ (f : ℕ → ℕ). Decides yes (WithinBy f (core p))) sizes h) c.is_within_by.ensures
