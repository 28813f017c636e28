-- What a build makes of its source, and that it ends as it was asked to.
use Rattle.std.proofs.Common.{◌≡◌, ℕ, ◌≤◌, List, length, Option, Some, None, IfSome, subst, arith}
use Rattle.outer.specs.Names.{NameMap, IsContent, HoldsNow, KeepsOthers}
use Rattle.outer.specs.declared.outside.Content.TheVariants.{Whole}
use Rattle.query_source.specs.declared.query.Method.{Method}
use Rattle.query_source.specs.Source.{IsSource}
use Rattle.query_source.proofs.Facts.{few, named_by_recursion}
use Rattle.query_module.specs.Answers.{AreQueries}
use Rattle.mo_command.specs.Built.{IsModuleOf, Built}

-- The methods of a source are what the module's builder asks for.
pub are_queries : (methods : List Method) (text : List ℕ) → IsSource methods text → AreQueries methods
are_queries methods text s = record {
  few = let most : length methods ≤ 116 = few methods text s in omega arith;
  named = named_by_recursion methods text s;
  differ = s.names_differ;
}

pub built_when : (old new : Option NameMap) (src out source bytes text code : List ℕ) → IfSome old (λ held. IsContent 4096 (held src) (Whole source)) → text ≡ source → IsModuleOf text bytes
    → code ≡ bytes → HoldsNow new out code → KeepsOthers old new out → Built old new src out
built_when None None src out source bytes text code c e m d h k = tt
built_when None (Some new) src out source bytes text code c e m d h k = absurd k
built_when (Some old) None src out source bytes text code c e m d h k = absurd k
built_when (Some old) (Some new) src out source bytes text code c e m d h k =
    (source, bytes, c.0, subst (λ b. new out ≡ Some b) d h, subst (λ s. IsModuleOf s bytes) e m)
