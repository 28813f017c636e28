use Rattle.std.proofs.Common.{sym, subst}
use Rattle.value_scopes.specs.declared.note.Note.{Note}
use Rattle.met_types.specs.States.{State}
use Rattle.kernel_declarations.proofs.Forms.{alias_is, class_is, function_is, let_is, method_is, object_is, system_is, value_is, variable_is}
use Rattle.kernel_pieces.specs.Ordered.{IsNoValue}
use Rattle.kernel_pieces.proofs.values.evaluated.Goals as goal

pub returns-in-Let : goal.returns-in-Let
returns-in-Let c = λ (s : State) (note : Note). subst IsNoValue (sym (let_is s note c.args.form.now _ _ c.in-Let.is)) tt

pub returns-in-Var : goal.returns-in-Var
returns-in-Var c = λ (s : State) (note : Note). subst IsNoValue (sym (variable_is s note c.args.form.now _ _ _ _ c.in-Var.is)) tt

pub returns-in-Func : goal.returns-in-Func
returns-in-Func c = λ (s : State) (note : Note). subst IsNoValue (sym (function_is s note c.args.form.now _ _ _ c.in-Func.is)) tt

pub returns-in-Method : goal.returns-in-Method
returns-in-Method c = λ (s : State) (note : Note). subst IsNoValue (sym (method_is s note c.args.form.now _ _ _ _ _ c.in-Method.is)) tt

pub returns-in-System : goal.returns-in-System
returns-in-System c = λ (s : State) (note : Note). subst IsNoValue (sym (system_is s note c.args.form.now _ _ c.in-System.is)) tt

pub returns-in-TypeAlias : goal.returns-in-TypeAlias
returns-in-TypeAlias c = λ (s : State) (note : Note). subst IsNoValue (sym (alias_is s note c.args.form.now _ _ _ c.in-TypeAlias.is)) tt

pub returns-in-Class : goal.returns-in-Class
returns-in-Class c = λ (s : State) (note : Note). subst IsNoValue (sym (class_is s note c.args.form.now _ _ _ c.in-Class.is)) tt

pub returns-in-NamedObject : goal.returns-in-NamedObject
returns-in-NamedObject c = λ (s : State) (note : Note). subst IsNoValue (sym (object_is s note c.args.form.now _ _ c.in-NamedObject.is)) tt

pub returns-in-Evaluate : goal.returns-in-Evaluate
returns-in-Evaluate c = λ (s : State) (note : Note). value_is s note c.args.form.now _ c.in-Evaluate.is
