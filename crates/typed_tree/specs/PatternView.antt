-- The language's literals and patterns that those of a tree stand for. Types are left out.
use Rattle.std.specs.Prelude.{List, [], ◌∷◌, map}
use Rattle.mo_types.specs.declared.datum.Datum.{Datum}
use Rattle.mo_types.specs.declared.datum.Datum.TheVariants as part
use Rattle.mo_values.specs.Shapes.{Bytes}
use Rattle.typed_tree.specs.declared.literal.Literal.{Literal}
use Rattle.typed_tree.specs.declared.literal.Literal.TheVariants as literal
use Rattle.typed_tree.specs.declared.pattern.TypedPattern.{TypedPattern, fold-TypedPattern}
use Rattle.typed_tree.specs.declared.pattern.PatternForm.{PatternForm, fold-PatternForm}
use Rattle.typed_tree.specs.declared.pattern.PatternForm.TheOpen as P
use Rattle.typed_tree.specs.Language.{Value, leaf, unit}
use Rattle.typed_tree.specs.Patterns.{Pat, Pats, Wildcard, Bind, Constant, Present?, Tagged, Parts, Fields, Either, NoPat, APat}

-- the outermost part of a literal's value; () is no leaf, and has that of a record without fields
abbrev pub literal_part : Literal → Datum
literal_part literal.Unit = part.Record 0
literal_part literal.Null = part.Null
literal_part (literal.Flag b) = part.Flag b
literal_part (literal.Number n) = part.Number n
literal_part (literal.Character c) = part.Char c
literal_part (literal.Text t) = part.Text t
literal_part (literal.Blob t) = part.Blob t
literal_part (literal.Actor p) = part.Actor p

abbrev pub literal_value : Literal → Value
literal_value literal.Unit = unit
literal_value l = leaf (literal_part l)

-- () matches the tuple without parts
abbrev pub literal_pattern : Literal → Pat
literal_pattern literal.Unit = Parts NoPat
literal_pattern l = Constant (literal_part l)

abbrev pub pats : List Pat → Pats
pats [] = NoPat
pats (p ∷ ps) = APat p (pats ps)

-- a field of an object pattern
pub record LabelledPat : Type 0 where
  pub label : Bytes
  pub pattern : Pat

abbrev pub form_step : P.PatternForm-F Pat LabelledPat Pat → Pat
form_step P.Wildcard = Wildcard
form_step P.Bind = Bind
form_step (P.Constant l) = literal_pattern l
form_step (P.Present p) = Present? p
form_step (P.Tagged l p) = Tagged l p
form_step (P.Parts ps) = Parts (pats ps)
form_step (P.Fields fs) = Fields (map (λ f. f.label) fs) (pats (map (λ f. f.pattern) fs))
form_step (P.Either p q) = Either p q

abbrev pub field_step : P.PatternField-F Pat LabelledPat Pat → LabelledPat
field_step x = record { label = x.label; pattern = x.pattern }

abbrev pub pattern_step : P.TypedPattern-F Pat LabelledPat Pat → Pat
pattern_step x = x.form

unfoldable pub pattern : TypedPattern → Pat
pattern = fold-TypedPattern Pat LabelledPat Pat form_step field_step pattern_step

unfoldable pub pattern_form : PatternForm → Pat
pattern_form = fold-PatternForm Pat LabelledPat Pat form_step field_step pattern_step

abbrev pub patterns : List TypedPattern → Pats
patterns ps = pats (map pattern ps)
