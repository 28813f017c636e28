-- The names of faults.
use Rattle.std.specs.Prelude.{ℕ, List, codes}
use Rattle.mo_lexer.specs.declared.fault.LexFault.{LexFault}
use Rattle.mo_lexer.specs.declared.fault.LexFault.TheVariants as lex
use Rattle.mo_parser.specs.declared.fault.ParseFault.{ParseFault}
use Rattle.mo_parser.specs.declared.fault.ParseFault.TheVariants as parse
use Rattle.mo_names.specs.declared.fault.NameFault.{NameFault}
use Rattle.mo_names.specs.declared.fault.NameFault.TheVariants as name
use Rattle.mo_check.specs.Names.{condition_name}
use Rattle.mo_front.specs.declared.fault.FrontFault.{FrontFault}
use Rattle.mo_front.specs.declared.fault.FrontFault.TheVariants as fault

abbrev pub lex_name : LexFault → List ℕ
lex_name (lex.BadByte place) = codes "BadByte"
lex_name (lex.OpenComment place) = codes "OpenComment"
lex_name (lex.OpenText place) = codes "OpenText"
lex_name (lex.BadEscape place) = codes "BadEscape"
lex_name (lex.WideNumber place) = codes "WideNumber"
lex_name lex.SourceTooLong = codes "SourceTooLong"
lex_name lex.Memory = codes "Memory"

abbrev pub parse_name : ParseFault → List ℕ
parse_name (parse.TooDeep place) = codes "TooDeep"
parse_name (parse.Syntax place) = codes "Syntax"
parse_name parse.Memory = codes "Memory"

abbrev pub name_name : NameFault → List ℕ
name_name (name.Unknown place) = codes "Unknown"
name_name (name.Twice place) = codes "Twice"
name_name (name.UsedBeforeDefined place) = codes "UsedBeforeDefined"
name_name (name.LabelClash place) = codes "LabelClash"
name_name (name.Reserved place) = codes "Reserved"
name_name name.Memory = codes "Memory"

abbrev pub group_of : FrontFault → List ℕ
group_of (fault.Lex f) = codes "Lex"
group_of (fault.Parse f) = codes "Parse"
group_of (fault.Name f) = codes "Name"
group_of (fault.Type c place) = codes "Type"
group_of fault.Memory = codes "Memory"

abbrev pub name_of : FrontFault → List ℕ
name_of (fault.Lex f) = lex_name f
name_of (fault.Parse f) = parse_name f
name_of (fault.Name f) = name_name f
name_of (fault.Type c place) = condition_name c
name_of fault.Memory = codes "Memory"
