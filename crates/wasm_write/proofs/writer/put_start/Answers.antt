use Rattle.wasm_write.proofs.Least.{section_appends, whole_least}
use Rattle.wasm_write.proofs.writer.put_start.Goals as goal

pub returns-in_ok-put_section-in-Some : goal.returns-in_ok-put_section-in-Some
returns-in_ok-put_section-in-Some c = rw c.in-Some.is (section_appends 8 _ c.put_u32.new.out _ _ (whole_least _ c.new-contents.result _ c.new-contents.ensures c.in_ok-put_u32-in-Some.ensures) c.in_ok-put_section-in-Some.ensures)
