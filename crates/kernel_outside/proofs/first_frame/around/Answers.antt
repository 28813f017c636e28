use Rattle.std.proofs.Common.{◌∙◌, List, [], ◌∷◌, map, ap}
use Rattle.typing_rules.specs.AbstractSyntax.{Bytes}
use Rattle.abstract_tree.specs.declared.declarations.Declaration.{Declaration}
use Rattle.value_scopes.specs.declared.note.Note.{Note}
use Rattle.judged_parts.specs.Parts.{See}
use Rattle.desugaring.specs.Frames.{Kept, with_entries, with_names}
use Rattle.desugaring.specs.Programs as programs
use Rattle.kernel_roles.specs.Roles.{list_seen}
use Rattle.kernel_outside.proofs.FramesBehind.{around_is}
use Rattle.kernel_outside.proofs.first_frame.around.Goals as goal

pub returns : goal.returns
returns c = λ (see : See).
    let methods : List Bytes = programs.method_names (list_seen see c.args.program.now.fields) in
    let stable : List Bytes = programs.stable_names (list_seen see c.args.program.now.fields) in
    let kept = c.in_ok-stable.ensures see ∙ ap (λ (l : List (Declaration Note)). programs.stable_names (list_seen see l)) c.as_slice.ensures in
    let named = c.in_ok-methods.ensures see ∙ ap (λ (l : List (Declaration Note)). programs.method_names (list_seen see l)) c.as_slice-3.ensures in
    around_is methods stable c.args.program.now.name c.new-frames.result c.push_kept_names.new.frames c.push_names.new.self c.push_own.new.frames c.new-frames.ensures
    (c.in_ok-push_kept_names.ensures ∙ ap (λ (l : List Bytes). with_entries (map Kept l) c.new-frames.result) (c.as_slice-2.ensures ∙ kept))
    (c.in_ok-push_names.ensures ∙ ap (λ (l : List Bytes). with_names l c.push_kept_names.new.frames) (c.as_slice-4.ensures ∙ named))
    (c.in_ok-push_own.ensures ∙ ap (λ (l : List Bytes). with_entries (programs.own_entry l c.args.program.now.name ∷ []) c.push_names.new.self) (c.as_slice-5.ensures ∙ named))
