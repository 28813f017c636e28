-- Behind the declarations, where the public and system functions are.
use Rattle.std.proofs.Common.{ℕ, zero, suc, List}
use Rattle.mo_types.specs.declared.node.TypeId.{TypeId}
use Rattle.mo_types.specs.Graph.{Slot}
use Rattle.mo_types.specs.Values.{copies}
use Rattle.typed_tree.specs.ActionTypes as typed
use Rattle.typed_tree.specs.Typing.{with_names}
use Rattle.typed_tree.specs.Wants.{Anything}
use Rattle.typing_rules.specs.AbstractSyntax.{Bytes}
use Rattle.typing_rules.specs.Contexts.{Context}
use Rattle.typing_rules.specs.Definitions.{Definitions}
use Rattle.typing_rules.specs.Terms.{Term}
use Rattle.typing_rules.specs.TypeScopes.{TypeScope}
use Rattle.desugaring.specs.Frames.{Unnamed, Frame, with_entries}
use Rattle.expression_laws.specs.Fitting.{Fits}
use Rattle.function_laws.proofs.InFunctions.{behind_unnamed}
use Rattle.ending_laws.specs.Ending.{ProgramsEnd}
use Rattle.ending_laws.proofs.Cells.{stable_cells}
use Rattle.ending_laws.proofs.Place.{Setting, walk, end_is, fits_all}
use Rattle.ending_laws.proofs.Plain.{all_plain}

behind_copies : (defs : Definitions) (slots : List Slot) (terms : List Term) (number : Term → TypeId) (scope : TypeScope) (used : List Bytes) (e : Context) (f : Frame) (c : typed.Context) → Fits defs slots terms number scope used e f c
    → (n : ℕ) → Fits defs slots terms number scope used e (with_entries (copies n Unnamed) f) (with_names (copies n Anything) c)
behind_copies defs slots terms number scope used e f c fits zero = fits
behind_copies defs slots terms number scope used e f c fits (suc n) =
    behind_unnamed defs slots terms number scope used e (with_entries (copies n Unnamed) f) (with_names (copies n Anything) c) Anything (behind_copies defs slots terms number scope used e f c fits n)

pub programs_end : ProgramsEnd
programs_end program slots terms number graph there q m o =
    let S : Setting = record { program = program; slots = slots; terms = terms; number = number; graph = graph; there = there; q = q; m = m; o = o } in record {
      end = (walk S).end;
      declared = (walk S).declared;
      parameters = (end_is S).parameters;
      fits = λ n uses. behind_copies _ slots terms number _ uses _ _ (walk S).end (fits_all S uses) n;
      plain = all_plain S;
      stable = stable_cells S;
    }
