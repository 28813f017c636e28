-- The functions behind the declarations of a program.
use Rattle.typed_tree.specs.declared.program.Method.{Method}
use Rattle.typed_tree.specs.ProgramView.{with_context}
use Rattle.typed_tree.specs.View.{FunctionView, function}

-- a method takes the context of the call before its parameters
abbrev pub method_function : Method → FunctionView
method_function m = with_context m.context (function m.function)
