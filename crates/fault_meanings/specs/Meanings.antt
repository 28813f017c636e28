-- What each fault of a source means, in words: as `docs/FAULTS.md` has it.
use Rattle.std.specs.Prelude.{ℕ, List, codes}
use Rattle.mo_lexer.specs.declared.fault.LexFault.{LexFault}
use Rattle.mo_lexer.specs.declared.fault.LexFault.TheVariants as lex
use Rattle.mo_parser.specs.declared.fault.ParseFault.{ParseFault}
use Rattle.mo_parser.specs.declared.fault.ParseFault.TheVariants as parse
use Rattle.mo_names.specs.declared.fault.NameFault.{NameFault}
use Rattle.mo_names.specs.declared.fault.NameFault.TheVariants as name
use Rattle.typing_rules.specs.declared.condition.Condition.{Condition}
use Rattle.typing_rules.specs.declared.condition.Condition.TheVariants as condition

abbrev pub lex_meaning : LexFault → List ℕ
lex_meaning (lex.BadByte place) = codes "A byte begins no token, or is no part of the text, character or comment in which it stands; or the source is not UTF-8."
lex_meaning (lex.OpenComment place) = codes "A comment `/*` is not closed. The place is its beginning."
lex_meaning (lex.OpenText place) = codes "A text or a character is not closed on its line. The place is its beginning."
lex_meaning (lex.BadEscape place) = codes "Behind `\\` in a text or a character stands none of the escapes, or one that names no Unicode scalar value."
lex_meaning (lex.WideNumber place) = codes "A number is 2 to the power of 64 or more."
lex_meaning lex.SourceTooLong = codes "The source has more than 1,048,576 bytes. The place is its first byte."
lex_meaning lex.Memory = codes "There was no memory."

abbrev pub parse_meaning : ParseFault → List ℕ
parse_meaning (parse.TooDeep place) = codes "Brackets and operators stand in one another more than 400 deep. The place is the first token that is too deep."
parse_meaning (parse.Syntax place) = codes "The tokens are no program: they are not in the grammar of the language. The place is where reading stops: the start of a token, or the end of the last one."
parse_meaning parse.Memory = codes "There was no memory."

abbrev pub name_meaning : NameFault → List ℕ
name_meaning (name.Unknown place) = codes "Nothing gives the name a meaning where it stands: no declaration, parameter or pattern around it, no built-in member, no label of a loop, no system function and no module of this name."
name_meaning (name.Twice place) = codes "A name is bound twice in one list, one pattern or one type, or two system functions have one name. The place is the second."
name_meaning (name.UsedBeforeDefined place) = codes "A declaration uses a name of its list that is declared at its own place or later, also by way of functions."
name_meaning (name.LabelClash place) = codes "Two labels of one object, variant or actor, or two stable variables, have one number in Candid. The place is the second."
name_meaning (name.Reserved place) = codes "A name begins with `__`, or a label is a number between two `_`. Such names are those of the compiler, and of Candid's labels."
name_meaning name.Memory = codes "There was no memory."

abbrev pub condition_meaning : Condition → List ℕ
condition_meaning condition.Mismatch = codes "A value of another type is asked here."
condition_meaning condition.NotFunction = codes "What is called is no function."
condition_meaning condition.NoField = codes "The type has no field or method of this name."
condition_meaning condition.NotArray = codes "What is indexed is no array."
condition_meaning condition.NotTuple = codes "A part is asked by its number of what is no tuple, or has no part of this number."
condition_meaning condition.NotOption = codes "`!` stands behind what is no option."
condition_meaning condition.BadOperator = codes "The operands have no type that has the operator, or no one type fits both."
condition_meaning condition.LiteralRange = codes "A number is written against a number type that does not hold it."
condition_meaning condition.NeedsType = codes "The type cannot be told from the form alone, and nothing around it says which is wanted."
condition_meaning condition.NotMutable = codes "What is assigned to is no `var` name, no `var` field and no element of a mutable array."
condition_meaning condition.ArgumentCount = codes "A function is called with more or fewer arguments than it has parameters."
condition_meaning condition.TypeArguments = codes "A name stands with more or fewer types than it has type parameters."
condition_meaning condition.Bound = codes "A type that is given for a type parameter is not below its bound."
condition_meaning condition.NotShared = codes "A value of a type goes into a message that cannot, or a shared function has no `async` result, or an `async` type stands elsewhere."
condition_meaning condition.AsyncPlace = codes "`await`, `throw`, `try` or a call of a shared function stands where it may not, or a future is used otherwise than by `await` or `ignore`."
condition_meaning condition.StableType = codes "A stable variable has a type whose values cannot be kept."
condition_meaning condition.PatternType = codes "A pattern stands on a type that does not have it, or an alternative of `or` binds a name."
condition_meaning condition.BadDefinition = codes "A definition of a type leads to no type, or uses its own group with other arguments than its parameters; or bounds go in a circle."
condition_meaning condition.BadLabel = codes "`return`, `break` or `continue` leaves nothing that is around it."
condition_meaning condition.BadPrincipal = codes "The text behind `actor` is that of no principal."
condition_meaning condition.Branches = codes "None of the types of the branches is one that all of them are below."
condition_meaning condition.TooManyTypes = codes "More than 4,096 types are met, or they have more than 65,536 fields and parts in all. The place is the first token of the source."
condition_meaning condition.TooManyNodes = codes "The tree has more than 50,000 nodes. The place is the first token of the source."
condition_meaning condition.NotActor = codes "An actor's principal stands not directly under an actor type."
condition_meaning condition.NotIterable = codes "`for` goes over what has no function `next` that gives an option."
condition_meaning condition.BangPlace = codes "`!` stands in no `do ?` of its function."
