use Rattle.std.proofs.Common.{◌∙◌, ℕ, List, ap, sym}
use Rattle.abstract_tree.specs.declared.declarations.Declaration.{Declaration}
use Rattle.value_scopes.specs.declared.note.Note.{Note}
use Rattle.kernel_declarations.specs.Becoming.{becomes_of, let_becomes, object_becomes, value_becomes, variable_becomes}
use Rattle.kernel_declarations.proofs.Forms.{alias_is, class_is, function_is, let_is, method_is, object_is, system_is, value_is, variable_is}
use Rattle.kernel_declarations.proofs.Writing.{function_written, nothing_written, written_as}
use Rattle.kernel_declarations.proofs.steps.write_form.Goals as goal

pub returns-in-Let : goal.returns-in-Let
returns-in-Let g c =
    let s = c.args.lists.now.layer.types.now in
    written_as (let_becomes s c.in-Let.q c.in-Let.a) c.args.steps.now c.write_let.new.steps c.args.frames.now c.write_let.new.frames c.write_let.result (becomes_of s c.args.note c.args.form.now) (let_is s c.args.note c.args.form.now c.in-Let.q c.in-Let.a c.in-Let.is) c.write_let.ensures

pub returns-in-Var : goal.returns-in-Var
returns-in-Var g c =
    let s = c.args.lists.now.layer.types.now in
    written_as (variable_becomes s c.in-Var.stable c.as_slice.result.now c.in-Var.a) c.args.steps.now c.write_variable.new.steps c.args.frames.now c.write_variable.new.frames c.write_variable.result (becomes_of s c.args.note c.args.form.now)
    (variable_is s c.args.note c.args.form.now c.in-Var.stable c.in-Var.name _ c.in-Var.a c.in-Var.is ∙ ap (λ (x : List ℕ). variable_becomes s c.in-Var.stable x c.in-Var.a) (sym c.as_slice.ensures)) c.write_variable.ensures

pub returns-in-Func : goal.returns-in-Func
returns-in-Func g c = function_written _ _ _ c.args.steps.now c.args.frames.now (function_is c.args.lists.now.layer.types.now c.args.note c.args.form.now _ _ _ c.in-Func.is)

pub returns-in-Method : goal.returns-in-Method
returns-in-Method g c = nothing_written _ c.args.steps.now c.args.frames.now (method_is c.args.lists.now.layer.types.now c.args.note c.args.form.now _ _ _ _ _ c.in-Method.is)

pub returns-in-System : goal.returns-in-System
returns-in-System g c = nothing_written _ c.args.steps.now c.args.frames.now (system_is c.args.lists.now.layer.types.now c.args.note c.args.form.now _ _ c.in-System.is)

pub returns-in-TypeAlias : goal.returns-in-TypeAlias
returns-in-TypeAlias g c = nothing_written _ c.args.steps.now c.args.frames.now (alias_is c.args.lists.now.layer.types.now c.args.note c.args.form.now _ _ _ c.in-TypeAlias.is)

pub returns-in-Class : goal.returns-in-Class
returns-in-Class g c = function_written _ _ _ c.args.steps.now c.args.frames.now (class_is c.args.lists.now.layer.types.now c.args.note c.args.form.now _ _ _ c.in-Class.is)

pub returns-in-NamedObject : goal.returns-in-NamedObject
returns-in-NamedObject g c =
    let s = c.args.lists.now.layer.types.now in
    written_as (object_becomes s c.args.note c.as_slice-in-NamedObject.result.now c.as_slice-in-NamedObject-2.result.now) c.args.steps.now c.write_object.new.steps c.args.frames.now c.write_object.new.frames c.write_object.result (becomes_of s c.args.note c.args.form.now)
    (object_is s c.args.note c.args.form.now c.in-NamedObject.name c.in-NamedObject.fields c.in-NamedObject.is
    ∙ (ap (λ (x : List ℕ). object_becomes s c.args.note x c.in-NamedObject.fields) (sym c.as_slice-in-NamedObject.ensures)
    ∙ ap (λ (ds : List (Declaration Note)). object_becomes s c.args.note c.as_slice-in-NamedObject.result.now ds) (sym c.as_slice-in-NamedObject-2.ensures))) c.write_object.ensures

pub returns-in-Evaluate : goal.returns-in-Evaluate
returns-in-Evaluate g c =
    let s = c.args.lists.now.layer.types.now in
    written_as (value_becomes s c.in-Evaluate.a) c.args.steps.now c.write_evaluated.new.steps c.args.frames.now c.write_evaluated.new.frames c.write_evaluated.result (becomes_of s c.args.note c.args.form.now) (value_is s c.args.note c.args.form.now c.in-Evaluate.a c.in-Evaluate.is) c.write_evaluated.ensures
