-- What is inside a value of a form: Motoko language manual, sections "Option pattern" and "Variant pattern".
use Rattle.std.specs.Prelude.{cond}
use Rattle.std.specs.Str.{bytes_eq}
use Rattle.mo_types.specs.declared.datum.Datum.TheVariants as part
use Rattle.mo_values.specs.Shapes.{Bytes, Leaf, Present, Tag, Made, NoShape, AShape}
use Rattle.core_ir.specs.declared.primitive.Constructor.{Constructor}
use Rattle.core_ir.specs.declared.primitive.Constructor.TheVariants as constructor
use Rattle.core_ir.specs.Values.{Value}

pub data Opened : Type 0 where
  Inside : (v : Value) → Opened
  -- a value of the type that has another form
  Otherwise : Opened
  NotOne : Opened

abbrev pub option_opened : Value → Opened
option_opened (Made Present (AShape v NoShape)) = Inside v
option_opened (Made (Leaf part.Null) NoShape) = Otherwise
option_opened _ = NotOne

abbrev pub variant_opened : Bytes → Value → Opened
variant_opened l (Made (Tag m) (AShape v NoShape)) = cond (bytes_eq l m) (Inside v) Otherwise
variant_opened l _ = NotOne

abbrev pub opened : Constructor → Value → Opened
opened constructor.Present v = option_opened v
opened (constructor.Tagged l) v = variant_opened l v
