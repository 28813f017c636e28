use Rattle.std.proofs.Common.{◌∙◌}
use Rattle.value_scopes.specs.declared.note.Note.{Note}
use Rattle.met_types.specs.States.{State}
use Rattle.kernel_declarations.specs.Becoming.{becomes_of}
use Rattle.kernel_declarations.proofs.Forms.{alias_none, class_is, function_is, let_none, method_none, object_none, system_none, value_none, variable_none}
use Rattle.kernel_declarations.proofs.Writing.{name_added, no_name_added}
use Rattle.kernel_declarations.proofs.functions.push_function_name.Goals as goal

pub returns-in-Let : goal.returns-in-Let
returns-in-Let c = λ (s : State) (note : Note). no_name_added (becomes_of s note c.args.form.now) c.args.names.now (let_none s note c.args.form.now _ _ c.in-Let.is)

pub returns-in-Var : goal.returns-in-Var
returns-in-Var c = λ (s : State) (note : Note). no_name_added (becomes_of s note c.args.form.now) c.args.names.now (variable_none s note c.args.form.now _ _ _ _ c.in-Var.is)

pub returns-in_ok-copy-in-Func : goal.returns-in_ok-copy-in-Func
returns-in_ok-copy-in-Func c = λ (s : State) (note : Note).
    name_added c.push.result (becomes_of s note c.args.form.now) c.in-Func.name.bytes c.in_ok-copy-in-Func.copy _ c.args.names.now c.push.new.self (function_is s note c.args.form.now c.in-Func.name _ _ c.in-Func.is) (c.in_ok-copy-in-Func.ensures ∙ c.as_slice.ensures) c.push.ensures.ok

pub returns-in-Method : goal.returns-in-Method
returns-in-Method c = λ (s : State) (note : Note). no_name_added (becomes_of s note c.args.form.now) c.args.names.now (method_none s note c.args.form.now _ _ _ _ _ c.in-Method.is)

pub returns-in-System : goal.returns-in-System
returns-in-System c = λ (s : State) (note : Note). no_name_added (becomes_of s note c.args.form.now) c.args.names.now (system_none s note c.args.form.now _ _ c.in-System.is)

pub returns-in-TypeAlias : goal.returns-in-TypeAlias
returns-in-TypeAlias c = λ (s : State) (note : Note). no_name_added (becomes_of s note c.args.form.now) c.args.names.now (alias_none s note c.args.form.now _ _ _ c.in-TypeAlias.is)

pub returns-in_ok-copy-in-Class : goal.returns-in_ok-copy-in-Class
returns-in_ok-copy-in-Class c = λ (s : State) (note : Note).
    name_added c.push-in-Class.result (becomes_of s note c.args.form.now) c.in-Class.name.bytes c.in_ok-copy-in-Class.copy _ c.args.names.now c.push-in-Class.new.self (class_is s note c.args.form.now c.in-Class.name _ _ c.in-Class.is) (c.in_ok-copy-in-Class.ensures ∙ c.as_slice-in-Class.ensures) c.push-in-Class.ensures.ok

pub returns-in-NamedObject : goal.returns-in-NamedObject
returns-in-NamedObject c = λ (s : State) (note : Note). no_name_added (becomes_of s note c.args.form.now) c.args.names.now (object_none s note c.args.form.now _ _ c.in-NamedObject.is)

pub returns-in-Evaluate : goal.returns-in-Evaluate
returns-in-Evaluate c = λ (s : State) (note : Note). no_name_added (becomes_of s note c.args.form.now) c.args.names.now (value_none s note c.args.form.now _ c.in-Evaluate.is)
