-- What all patterns miss, pattern by pattern.
use Rattle.std.specs.Prelude.{List, [], ◌∷◌, ◌++◌, Bool, cond}
use Rattle.mo_types.specs.declared.node.Node.{Node}
use Rattle.typed_tree.specs.Patterns.{Pat}
use Rattle.pattern_coverage.specs.Cover as coverage
use Rattle.pattern_coverage.specs.Cutting.{Piece, cut}
use Rattle.pattern_coverage.specs.Known.{Known}
use Rattle.mo_coverage.specs.declared.missing.Cover.{Cover}
use Rattle.mo_coverage.specs.declared.missing.Cover.TheVariants as cover
use Rattle.mo_coverage.specs.Shapes.{known}

abbrev pub unmatched : List Piece → List Known
unmatched [] = []
unmatched (c ∷ cs) = cond c.matched [] (c.known ∷ []) ++ unmatched cs

abbrev pub missed_by : (Known → List Piece) → List Known → List Known
missed_by f [] = []
missed_by f (k ∷ ks) = unmatched (f k) ++ missed_by f ks

module _ {A : Type 0} (head : A → Node A) (has : A → Bool) where
  abbrev pub missed_by_all : List Pat → A → List Known → List Known
  missed_by_all [] t ks = ks
  missed_by_all (p ∷ ps) t ks = missed_by_all ps t (missed_by (cut head has p t) ks)

abbrev pub cover_in : Cover → coverage.Coverage
cover_in cover.Whole = coverage.Whole
cover_in (cover.Misses k) = coverage.Misses (known k)
