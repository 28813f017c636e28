-- Reading what stands in `< >`: type parameters, type arguments and names.
use Rattle.std.specs.Prelude.{List, Option}
use Rattle.mo_syntax.specs.declared.name.Name.{Name}
use Rattle.mo_syntax.specs.declared.token.TokenKind.TheVariants as t
use Rattle.mo_syntax.specs.declared.mark.Mark.TheVariants as m
use Rattle.mo_syntax.specs.declared.types.TypeExpression.{TypeExpression}
use Rattle.mo_syntax.specs.declared.types.TypeParameter.{TypeParameter}
use Rattle.mo_parser_base.specs.Input.{Parser, ◌<$>◌, ◌&◌, behind, identifier, commas}
use Rattle.mo_parser_types.specs.Types.{a_type}

abbrev pub to_parameter : Name × Option TypeExpression → TypeParameter
to_parameter z = record { name = z.0; bound = z.1 }

unfoldable pub parameter : Parser TypeParameter
parameter = to_parameter <$> (identifier & behind (t.Mark m.Subtype) a_type)

unfoldable pub type_parameters : Parser (Option (List TypeParameter))
type_parameters = behind (t.Mark m.AngleOpen) (commas parameter (t.Mark m.AngleClose))

unfoldable pub type_arguments : Parser (Option (List TypeExpression))
type_arguments = behind (t.Mark m.AngleOpen) (commas a_type (t.Mark m.AngleClose))

unfoldable pub type_names : Parser (Option (List Name))
type_names = behind (t.Mark m.AngleOpen) (commas identifier (t.Mark m.AngleClose))
