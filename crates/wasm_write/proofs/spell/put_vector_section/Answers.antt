use Rattle.std.proofs.Common.{◌≡◌, ◌==◌, false, length, sym, ◌∙◌}
use Rattle.wasm_write.proofs.Least.{section_appends, whole_least, vector_section_has, vector_section_appends, second_has, sized_has}
use Rattle.wasm_write.proofs.spell.put_vector_section.Goals as goal

pub put_vector-requires : goal.put_vector-requires
put_vector-requires g c =
    let there : (length c.args.items.now == 0) ≡ false = sym c.is_empty.ensures ∙ c.if-is_empty.false in
    sized_has _ (second_has _ _ (vector_section_has c.args.number g.T.Spell.spelled c.args.items.now there c.requires))

pub returns : goal.returns
returns g c =
    let there : (length c.args.items.now == 0) ≡ false = sym c.is_empty.ensures ∙ c.if-is_empty.false in
    vector_section_appends c.args.number g.T.Spell.spelled c.args.items.now _ _ there
    (section_appends c.args.number _ c.put_vector.new.out _ _ (whole_least _ c.new-contents.result _ c.new-contents.ensures c.in_ok-put_vector.ensures) c.in_ok-put_section.ensures)
