-- What shapes of each form say.
use Rattle.std.proofs.Common.{◌≡◌, sym, ap, ◌∙◌}
use Rattle.pattern_coverage.specs.Known.{Known}
use Rattle.pattern_coverage.specs.Known as K
use Rattle.mo_coverage.specs.declared.shape.Shape.{fold-roll-Shape}
use Rattle.mo_coverage.specs.declared.shape.Shape.TheVariants as V
use Rattle.mo_coverage.specs.declared.shape.Shape.TheOpen as S
use Rattle.mo_coverage.specs.Shapes.{known, knowns, all_known, shape_step}

pub unknown_view : known V.Unknown ≡ K.Unknown
unfolding known
unknown_view = ap known (sym V.rolls-Unknown) ∙ fold-roll-Shape Known shape_step S.Unknown

pub parts_view : (ks : _) → known (V.Parts ks) ≡ K.Parts (knowns (all_known ks.items))
unfolding known
parts_view ks = ap known (sym (V.rolls-Parts ks)) ∙ fold-roll-Shape Known shape_step (S.Parts ks)

pub fields_view : (ls : _) (ks : _) → known (V.Fields ls ks) ≡ K.Fields ls (knowns (all_known ks.items))
unfolding known
fields_view ls ks = ap known (sym (V.rolls-Fields ls ks)) ∙ fold-roll-Shape Known shape_step (S.Fields ls ks)

pub not_under_view : (ls : _) → known (V.NotUnder ls) ≡ K.NotUnder ls
unfolding known
not_under_view ls = ap known (sym (V.rolls-NotUnder ls)) ∙ fold-roll-Shape Known shape_step (S.NotUnder ls)
