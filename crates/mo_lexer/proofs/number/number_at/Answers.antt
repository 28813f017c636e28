use Rattle.std.proofs.Common.{◌∙◌, sym}
use Rattle.mo_lexer.proofs.PieceLemmas.{decimal_number, hexadecimal_number}
use Rattle.mo_lexer.proofs.number.number_at.Goals as goal

pub returns-then-begins_hexadecimal : goal.returns-then-begins_hexadecimal
returns-then-begins_hexadecimal c = hexadecimal_number c.args.text.now c.numeral_value.result c.digits_len-len.result (sym c.begins_hexadecimal.ensures ∙ c.if-begins_hexadecimal.true) c.digits_len-len.ensures.value c.numeral_value.ensures

pub returns : goal.returns
returns c = decimal_number c.args.text.now c.numeral_value-2.result c.digits_len-len-2.result c.requires (sym c.begins_hexadecimal.ensures ∙ c.if-begins_hexadecimal.false) c.digits_len-len-2.ensures.value c.numeral_value-2.ensures
