-- A memory that has grown.
use Rattle.std.proofs.Common.{◌≡◌, ℕ, ◌+◌, ◌*◌, ◌≤◌, List, ◌++◌, cond, sym, ap, ◌∙◌, arith}
use Rattle.std.specs.Prelude.{replicate}
use Rattle.std.proofs.lemmas.Bool.{le-leb}
use Rattle.page_store.specs.Pages.{zero_pages}
use Rattle.wasm_tree.specs.Exec.{pages_of}
use Rattle.wasm_machine.specs.Acts.{grown}

zeros : (by : ℕ) → zero_pages by ≡ replicate (65536 * by) 0
unfolding zero_pages
zeros by = ap (λ n. replicate n 0) (let e : by * 65536 ≡ 65536 * by = omega arith in e)

pub grown_is : (most by : ℕ) (old new : List ℕ) → pages_of old + by ≤ most → new ≡ old ++ zero_pages by → new ≡ grown most old by
grown_is most by old new within h = h ∙ ap (λ t. old ++ t) (zeros by) ∙ ap (λ b. cond b (old ++ replicate (65536 * by) 0) old) (sym (le-leb _ _ within))
