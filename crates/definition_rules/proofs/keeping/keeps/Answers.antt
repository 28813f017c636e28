use Rattle.std.proofs.Common.{◌∙◌, List, subst, true, slice_get, slice_index_or}
use Rattle.mo_types.specs.Sub.{Each}
use Rattle.subtype_laws.specs.Reached.{Among}
use Rattle.type_terms.specs.declared.form.TermId.{TermId}
use Rattle.definition_rules.specs.Uses.{MayUse}
use Rattle.definition_rules.proofs.Adding.{take_all}
use Rattle.definition_rules.proofs.OwnUses.{index_among, keeps_all, keeps_not, may_at}
use Rattle.definition_rules.proofs.keeping.keeps.Goals as goal

pub returns-then-not-branch : goal.returns-then-not-branch
returns-then-not-branch c =
    let a : TermId = slice_index_or c.as_slice-id-items.result.now c.loop-id.id-index (record { index = 0 }) in
    keeps_not c.args.definitions.now c.args.terms.now c.args.name c.args.own.now c.args.right c.requires.within c.in_ok-found.ensures.founded c.in_ok-found.found.keys c.in_ok-found.ensures.within a
    (subst (λ (ids : List TermId). Among a ids) c.as_slice-id-items.ensures.keys (index_among c.as_slice-id-items.result.now c.loop-id.id-index (record { index = 0 }) c.loop-id-test.true))
    (may_at c.args.definitions.now c.args.terms.now c.args.name c.args.own.now (slice_get c.args.terms.now a.index) c.in_ok-may_use.field-0 c.if-not-branch.true c.in_ok-may_use.ensures)

pub returns : goal.returns
returns c =
    keeps_all c.args.definitions.now c.args.terms.now c.args.name c.args.own.now c.args.right c.requires.within c.in_ok-found.ensures.founded c.in_ok-found.found.keys c.in_ok-found.ensures.within
    (subst (λ (ids : List TermId). Each (λ a. MayUse c.args.definitions.now c.args.terms.now c.args.name c.args.own.now (slice_get c.args.terms.now a.index) true) ids)
    (take_all c.as_slice-id-items.result.now c.loop-id.id-index c.loop-id-test.false ∙ c.as_slice-id-items.ensures.keys) c.loop-id.invariant)
