use Rattle.std.proofs.Common.{◌≡◌, ◌++◌, drop, map}
use Rattle.mo_scopes.specs.Scopes.{library_of}
use Rattle.mo_names.proofs.program.ProgramWalk.libraries_of.Given as goal

abbrev pub invariant-loop-one : goal.invariant-loop-one
invariant-loop-one l = map (λ x. library_of x.path.bytes) l.imports ≡ l.libraries ++ map (λ x. library_of x.path.bytes) (drop l.one-index l.imports)
