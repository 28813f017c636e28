use Rattle.std.proofs.Common.{◌≡◌, ap, ◌∙◌, arith}
use Rattle.low_ir.specs.Frames.{height, depth}
use Rattle.run_time_link.specs.declared.frames.Count.{Count}
use Rattle.run_time_link.specs.Counting.{counted_all, no_count}
use Rattle.run_time_link.proofs.Counted.{body_counted}
use Rattle.run_time_link.proofs.frames.frame_words.Goals as goal

pub returns : goal.returns
returns c code e =
    let same : c.count_of-count.result ≡ record { arguments = 0; height = height code; inside = 0; depth = depth code } = c.count_of-count.ensures ∙ ap (λ l. counted_all l no_count) e ∙ body_counted code in
    omega (arith, ap (λ (x : Count). x.height) same, ap (λ (x : Count). x.depth) same)
