use Rattle.std.proofs.Common.{sym, subst}
use Rattle.abstract_tree.specs.declared.program.Program as value
use Rattle.value_scopes.specs.declared.note.Note.{Note}
use Rattle.met_types.specs.States.{Kept, State}
use Rattle.typed_programs.proofs.Made.{refused, without_memory, written_is}
use Rattle.typed_programs.proofs.writing.typed_program.Goals as goal

pub kernel_program-requires : goal.kernel_program-requires
kernel_program-requires c = record { kept = subst (λ (q : value.Program Note × State). Kept q.1) (sym c.into_parts-program.ensures) c.in_ok-made.ensures.kept }

pub returns-in_err-made : goal.returns-in_err-made
returns-in_err-made c = refused c.args.tree.now c.in_err-made.field-0.0 c.from_residual.result c.from_residual.ensures c.in_err-made.ensures.decides

pub returns-in_err-written : goal.returns-in_err-written
returns-in_err-written c = without_memory c.args.tree.now c.from_residual-in_err-written.result c.from_residual-in_err-written.ensures

pub returns : goal.returns
returns c =
    written_is c.args.tree.now c.in_ok-made.made c.into_parts-program.result c.terms.result.now c.in_ok-written.written c.into_parts-program.ensures c.in_ok-made.ensures.kept
    c.terms.ensures c.len-many.ensures.distinct c.len-many.ensures.founded c.in_ok-made.ensures.types c.in_ok-written.ensures
