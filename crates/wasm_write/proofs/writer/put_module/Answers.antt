use Rattle.wasm_write.proofs.Least.{then_appends, first_has, second_has, after_appends, after_has, customs_append}
use Rattle.wasm_write.proofs.writer.put_module.Goals as goal

pub put_vector_section-requires : goal.put_vector_section-requires
put_vector_section-requires c = after_has _ (first_has _ _ (second_has _ _ c.requires))

pub put_vector_section-requires-2 : goal.put_vector_section-requires-2
put_vector_section-requires-2 c = after_has _ (first_has _ _ (second_has _ _ (second_has _ _ c.requires)))

pub put_vector_section-requires-3 : goal.put_vector_section-requires-3
put_vector_section-requires-3 c = after_has _ (first_has _ _ (second_has _ _ (second_has _ _ (second_has _ _ c.requires))))

pub put_vector_section-requires-4 : goal.put_vector_section-requires-4
put_vector_section-requires-4 c = after_has _ (first_has _ _ (second_has _ _ (second_has _ _ (second_has _ _ (second_has _ _ c.requires)))))

pub put_vector_section-requires-5 : goal.put_vector_section-requires-5
put_vector_section-requires-5 c = after_has _ (first_has _ _ (second_has _ _ (second_has _ _ (second_has _ _ (second_has _ _ (second_has _ _ c.requires))))))

pub put_vector_section-requires-6 : goal.put_vector_section-requires-6
put_vector_section-requires-6 c = after_has _ (first_has _ _ (second_has _ _ (second_has _ _ (second_has _ _ (second_has _ _ (second_has _ _ (second_has _ _ c.requires)))))))

pub put_vector_section-requires-7 : goal.put_vector_section-requires-7
put_vector_section-requires-7 c = after_has _ (first_has _ _ (second_has _ _ (second_has _ _ (second_has _ _ (second_has _ _ (second_has _ _ (second_has _ _ (second_has _ _ c.requires))))))))

pub put_vector_section-requires-8 : goal.put_vector_section-requires-8
put_vector_section-requires-8 c = after_has _ (first_has _ _ (second_has _ _ (second_has _ _ (second_has _ _ (second_has _ _ (second_has _ _ (second_has _ _ (second_has _ _ (second_has _ _ (second_has _ _ c.requires))))))))))

pub put_vector_section-requires-9 : goal.put_vector_section-requires-9
put_vector_section-requires-9 c = after_has _ (first_has _ _ (second_has _ _ (second_has _ _ (second_has _ _ (second_has _ _ (second_has _ _ (second_has _ _ (second_has _ _ (second_has _ _ (second_has _ _ (second_has _ _ c.requires)))))))))))

pub put_vector_section-requires-10 : goal.put_vector_section-requires-10
put_vector_section-requires-10 c = after_has _ (first_has _ _ (second_has _ _ (second_has _ _ (second_has _ _ (second_has _ _ (second_has _ _ (second_has _ _ (second_has _ _ (second_has _ _ (second_has _ _ (second_has _ _ (second_has _ _ c.requires))))))))))))

pub returns : goal.returns
returns c =
    then_appends _ _ _ _ _ c.in_ok-put_exactly.ensures
    (then_appends _ _ _ _ _ (after_appends _ _ _ c.in_ok-put_vector_section.ensures)
    (then_appends _ _ _ _ _ (after_appends _ _ _ c.in_ok-put_vector_section-2.ensures)
    (then_appends _ _ _ _ _ (after_appends _ _ _ c.in_ok-put_vector_section-3.ensures)
    (then_appends _ _ _ _ _ (after_appends _ _ _ c.in_ok-put_vector_section-4.ensures)
    (then_appends _ _ _ _ _ (after_appends _ _ _ c.in_ok-put_vector_section-5.ensures)
    (then_appends _ _ _ _ _ (after_appends _ _ _ c.in_ok-put_vector_section-6.ensures)
    (then_appends _ _ _ _ _ (after_appends _ _ _ c.in_ok-put_vector_section-7.ensures)
    (then_appends _ _ _ _ _ (after_appends _ _ _ c.in_ok-put_start.ensures)
    (then_appends _ _ _ _ _ (after_appends _ _ _ c.in_ok-put_vector_section-8.ensures)
    (then_appends _ _ _ _ _ (after_appends _ _ _ c.in_ok-put_vector_section-9.ensures)
    (then_appends _ _ _ _ _ (after_appends _ _ _ c.in_ok-put_vector_section-10.ensures) (customs_append _))))))))))))
