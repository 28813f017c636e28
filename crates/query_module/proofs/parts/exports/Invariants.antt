use Rattle.std.proofs.Common.{◌≡◌, ◌+◌, ◌++◌, drop}
use Rattle.query_module.specs.Tree.{exports_from, query_exports}
use Rattle.query_module.proofs.parts.exports.Given as goal

abbrev pub invariant-loop-place : goal.invariant-loop-place
invariant-loop-place l = query_exports l.methods ≡ l.exports ++ exports_from (3 + l.place) (drop l.place l.methods)
