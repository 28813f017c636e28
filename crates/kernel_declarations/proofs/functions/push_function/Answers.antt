use Rattle.std.proofs.Common.{◌∙◌, ap, List}
use Rattle.abstract_tree.specs.declared.declarations.Declaration.{Declaration}
use Rattle.value_scopes.specs.declared.note.Note.{Note}
use Rattle.desugaring.specs.Frames.{Frame}
use Rattle.kernel_functions.specs.Functions.{function_in}
use Rattle.kernel_objects.specs.Objects.{class_in}
use Rattle.kernel_declarations.specs.Becoming.{becomes_of}
use Rattle.kernel_declarations.proofs.Forms.{alias_none, class_is, function_is, let_none, method_none, object_none, system_none, value_none, variable_none}
use Rattle.kernel_declarations.proofs.Writing.{function_added, no_function_added}
use Rattle.kernel_declarations.proofs.functions.push_function.Goals as goal

pub returns-in-Let-clause-made : goal.returns-in-Let-clause-made
returns-in-Let-clause-made g c = no_function_added (becomes_of c.args.lists.now.layer.types.now c.args.note c.args.form.now) c.args.frames.now c.args.made.now (let_none c.args.lists.now.layer.types.now c.args.note c.args.form.now _ _ c.in-Let.is)

pub returns-in-Var-clause-made : goal.returns-in-Var-clause-made
returns-in-Var-clause-made g c = no_function_added (becomes_of c.args.lists.now.layer.types.now c.args.note c.args.form.now) c.args.frames.now c.args.made.now (variable_none c.args.lists.now.layer.types.now c.args.note c.args.form.now _ _ _ _ c.in-Var.is)

pub returns-in_ok-function-in-Func-clause-made : goal.returns-in_ok-function-in-Func-clause-made
returns-in_ok-function-in-Func-clause-made g c =
    let s = c.args.lists.now.layer.types.now in
    function_added c.push.result (becomes_of s c.args.note c.args.form.now) _ c.in_ok-function-in-Func.function (λ (f : Frame). function_in s f c.in-Func.of c.in-Func.body) c.args.frames.now c.args.made.now c.push.new.self
    (function_is s c.args.note c.args.form.now _ c.in-Func.of c.in-Func.body c.in-Func.is) (c.in_ok-function-in-Func.ensures.made) c.push.ensures.ok

pub returns-in-Method-clause-made : goal.returns-in-Method-clause-made
returns-in-Method-clause-made g c = no_function_added (becomes_of c.args.lists.now.layer.types.now c.args.note c.args.form.now) c.args.frames.now c.args.made.now (method_none c.args.lists.now.layer.types.now c.args.note c.args.form.now _ _ _ _ _ c.in-Method.is)

pub returns-in-System-clause-made : goal.returns-in-System-clause-made
returns-in-System-clause-made g c = no_function_added (becomes_of c.args.lists.now.layer.types.now c.args.note c.args.form.now) c.args.frames.now c.args.made.now (system_none c.args.lists.now.layer.types.now c.args.note c.args.form.now _ _ c.in-System.is)

pub returns-in-TypeAlias-clause-made : goal.returns-in-TypeAlias-clause-made
returns-in-TypeAlias-clause-made g c = no_function_added (becomes_of c.args.lists.now.layer.types.now c.args.note c.args.form.now) c.args.frames.now c.args.made.now (alias_none c.args.lists.now.layer.types.now c.args.note c.args.form.now _ _ _ c.in-TypeAlias.is)

pub returns-in_ok-function-in-Class-clause-made : goal.returns-in_ok-function-in-Class-clause-made
returns-in_ok-function-in-Class-clause-made g c =
    let s = c.args.lists.now.layer.types.now in
    function_added c.push-in-Class.result (becomes_of s c.args.note c.args.form.now) _ c.in_ok-function-in-Class.function (λ (f : Frame). class_in s f c.args.note.kind c.in-Class.of c.in-Class.fields) c.args.frames.now c.args.made.now c.push-in-Class.new.self
    (class_is s c.args.note c.args.form.now _ c.in-Class.of c.in-Class.fields c.in-Class.is) (c.in_ok-function-in-Class.ensures.made ∙ ap (λ (ds : List (Declaration Note)). class_in s c.args.frames.now c.args.note.kind c.in-Class.of ds) c.as_slice.ensures) c.push-in-Class.ensures.ok

pub returns-in-NamedObject-clause-made : goal.returns-in-NamedObject-clause-made
returns-in-NamedObject-clause-made g c = no_function_added (becomes_of c.args.lists.now.layer.types.now c.args.note c.args.form.now) c.args.frames.now c.args.made.now (object_none c.args.lists.now.layer.types.now c.args.note c.args.form.now _ _ c.in-NamedObject.is)

pub returns-in-Evaluate-clause-made : goal.returns-in-Evaluate-clause-made
returns-in-Evaluate-clause-made g c = no_function_added (becomes_of c.args.lists.now.layer.types.now c.args.note c.args.form.now) c.args.frames.now c.args.made.now (value_none c.args.lists.now.layer.types.now c.args.note c.args.form.now _ c.in-Evaluate.is)
