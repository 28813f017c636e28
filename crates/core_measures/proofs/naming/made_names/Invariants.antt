use Rattle.std.proofs.Common.{◌≡◌, ◌++◌, drop}
use Rattle.core_measures.specs.Naming.{end_of, made_in}
use Rattle.core_measures.specs.Sizes.{size_of}
use Rattle.core_measures.proofs.naming.made_names.Given as goal

abbrev pub invariant-loop-binding : goal.invariant-loop-binding
invariant-loop-binding l = record {
  end : end_of (size_of l.sizes) l.at (drop l.binding-index l.bindings) ≡ end_of (size_of l.sizes) l.near l.bindings;
  names : l.names ++ made_in (size_of l.sizes) l.needs l.at (drop l.binding-index l.bindings) ≡ l.fn.names ++ made_in (size_of l.sizes) l.needs l.near l.bindings;
}
