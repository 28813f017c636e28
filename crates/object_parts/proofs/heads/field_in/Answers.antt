use Rattle.std.proofs.Common.{◌∙◌, refl, sym}
use Rattle.object_parts.proofs.heads.field_in.Goals as goal

pub returns-in-Some : goal.returns-in-Some
returns-in-Some c = record {
  label = c.in_ok-label.ensures ∙ c.as_slice.ensures;
  mutable = refl;
  part = sym c.term_at.ensures ∙ c.in-Some.is;
}
